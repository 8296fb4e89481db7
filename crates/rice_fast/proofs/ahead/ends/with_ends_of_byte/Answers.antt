use Rattle.std.proofs.Common.{◌-◌, ◌*◌, arith}
use Rattle.rice_fast.proofs.lemmas.ahead.EndsInLanes.{byte-joined}
use Rattle.rice_fast.proofs.ahead.ends.with_ends_of_byte.Goals as goal

pub returns : goal.returns
returns c =
    byte-joined c.args.front c.byte_of_word_at.result (8 * c.args.place - c.count_zeros_in_first_bytes.result)
    c.requires.place.1 c.requires.before c.byte_of_word_at.ensures c.ends_of_byte_at-more.ensures
    (omega (arith, c.count_zeros_in_first_bytes.ensures.value)) c.lanes_moved_by_ones.ensures
