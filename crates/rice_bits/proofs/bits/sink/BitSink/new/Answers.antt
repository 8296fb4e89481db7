use Rattle.std.proofs.lemmas.Grind.{common_steps}
use Rattle.std.proofs.Common.{arith}
use Rattle.rice_bits.proofs.lemmas.bits.BytesAndBits.{bits_of-zeros}
use Rattle.rice_bits.proofs.bits.sink.BitSink.new.Goals as goal

pub invariant_of-result : goal.invariant_of-result
invariant_of-result g c = grind (arith, common_steps, bits_of-zeros)
