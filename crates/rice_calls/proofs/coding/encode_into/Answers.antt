use Rattle.rice_calls.proofs.Words.{arith, ◌≤◌, [], length, most_input}
use Rattle.rice_calls.proofs.lemmas.EncodedAtOnce.{encodes_at_once}
use Rattle.rice_calls.proofs.coding.encode_into.Goals as goal

pub returns : goal.returns
returns g c =
    let a = c.args in
    let begins = c.new-seam.ensures in
    let few : length a.samples.now ≤ most_input = omega arith in
    encodes_at_once a.setting.now a.samples.now a.code.now c.finish_into.new.code c.finish_into.new.report c.finish_into.result begins.counts.stands.holds.legal
    few (c.finish_into.ensures [] begins)
