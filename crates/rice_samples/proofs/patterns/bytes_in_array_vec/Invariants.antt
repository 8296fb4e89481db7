use Rattle.std.proofs.Common.{◌≡◌, take}
use Rattle.rice_samples.proofs.patterns.bytes_in_array_vec.Given as goal

abbrev pub invariant-loop-byte : goal.invariant-loop-byte
invariant-loop-byte l = l.vector.items ≡ take l.byte-index l.bytes
