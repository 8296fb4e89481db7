use Rattle.std.proofs.Common.{◌*◌}
use Rattle.std.proofs.lemmas.Int.{to_z-of_z}
use Rattle.rice_samples.proofs.lemmas.bytes.SpellingLemmas.{value_limits}
use Rattle.rice_samples.proofs.bytes.spelling.bytes_of.Goals as goal

pub digits_of-requires-clause-from : goal.digits_of-requires-clause-from
digits_of-requires-clause-from c =
    let s = c.args.setting.now in
    let w = c.width-width in
    let limits = value_limits s.signed s.bits (8 * w.result) c.args.x w.ensures.legal.bits_from w.ensures.holds_bits c.requires in
    let f = c.ranges.x in
    rw (to_z-of_z _ c.args.x f) limits.0

pub digits_of-requires-clause-below : goal.digits_of-requires-clause-below
digits_of-requires-clause-below c =
    let s = c.args.setting.now in
    let w = c.width-width in
    let limits = value_limits s.signed s.bits (8 * w.result) c.args.x w.ensures.legal.bits_from w.ensures.holds_bits c.requires in
    let f = c.ranges.x in
    rw (to_z-of_z _ c.args.x f) limits.1
