use Rattle.std.proofs.Common.{◌+◌, ◌*◌, ◌++◌, take}
use Rattle.std.specs.Prelude.{flat_map}
use Rattle.rice_bits.specs.Bits.{JoinsAllBut, word}
use Rattle.rice_bits.proofs.bits.whole_words.join_all_but_last_digits.Given as goal

abbrev pub invariant-loop-i : goal.invariant-loop-i
invariant-loop-i l = JoinsAllBut l.left l.last (word l.count l.value ++ flat_map (word l.width) (take (l.per * l.i) l.words)) (l.count + l.width * (l.per * l.i)) l.bits l.all l.fn.bytes l.bytes
