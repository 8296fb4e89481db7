use Rattle.std.proofs.Common.{◌≡◌, ◌*◌, length}
use Rattle.rice_samples.proofs.lemmas.bytes.UnusedBits.{SpelledSoFar}
use Rattle.rice_samples.proofs.bytes.unused_bits.set_unused_bits.Given as goal

abbrev pub invariant-loop-i : goal.invariant-loop-i
invariant-loop-i l = record { len : length l.bytes ≡ length l.fn.bytes; so_far : SpelledSoFar l.setting l.fn.bytes l.bytes (l.width * l.i) }
