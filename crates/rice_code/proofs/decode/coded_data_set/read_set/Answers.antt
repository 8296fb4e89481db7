use Rattle.std.proofs.Common.{arith, ◌-◌}
use Rattle.std.proofs.lemmas.{Result.err_from_is_err_and, Grind.common_steps}
use Rattle.rice_code.proofs.lemmas.decode.SetsRead.{cut_identifier, low_set, low_set_cut, no_compression_set, no_compression_set_cut, split_set, split_set_cut, ones_id}
use Rattle.rice_code.proofs.decode.coded_data_set.read_set.Goals as goal

pub returns-in_err-id-clause-err : goal.returns-in_err-id-clause-err
returns-in_err-id-clause-err g c = grind (arith, common_steps, err_from_is_err_and, cut_identifier)

pub returns-then-id-eq0-clause-ok : goal.returns-then-id-eq0-clause-ok
returns-then-id-eq0-clause-ok g c = grind (arith, common_steps, low_set)

pub returns-in_err-taken-clause-err : goal.returns-in_err-taken-clause-err
returns-in_err-taken-clause-err g c = grind (arith, common_steps, err_from_is_err_and, low_set_cut)

pub returns-then-id-width-clause-ok : goal.returns-then-id-width-clause-ok
returns-then-id-width-clause-ok g c = grind (arith, common_steps, no_compression_set, ones_id)

pub returns-in_err-head-clause-err : goal.returns-in_err-head-clause-err
returns-in_err-head-clause-err g c = grind (arith, common_steps, err_from_is_err_and, no_compression_set_cut, ones_id)

pub returns-clause-ok : goal.returns-clause-ok
returns-clause-ok g c =
    let t = rw c.id_len-width.ensures.value at c.in_ok-id.ensures.ok in
    split_set c.in_ok-id.id (c.in_ok-id.id - 1) c.in_ok-head-2.head
    (omega arith) t.1 c.in_ok-id.ensures.steps c.in_ok-head-2.ensures.ok

pub returns-in_err-head-2-clause-err : goal.returns-in_err-head-2-clause-err
returns-in_err-head-2-clause-err g c =
    let t = rw c.id_len-width.ensures.value at c.in_ok-id.ensures.ok in
    let e = rw c.id_len-width.ensures.value at c.if-id-width.false in
    let i = ones_id c.args.setting.now in
    let p = err_from_is_err_and c.from_residual-in_err-head-2.result c.from_residual-in_err-head-2.ensures.1 in
    rw (p.1, p.2) (split_set_cut c.args.meter.now c.read_split.new.meter c.in_ok-id.id (c.in_ok-id.id - 1)
    (omega (arith, t.0, e, i)) (omega arith) t.1 c.in_err-head-2.ensures.err)
