use Rattle.std.proofs.{lemmas.Grind.common_steps, Common.arith}
use Rattle.rice_bits.proofs.lemmas.bits.{SinkBytes.gathered-whole, BytesAndBits.each_byte}
use Rattle.rice_bits.proofs.bits.sink.BitSink.whole.Goals as goal

pub returns : goal.returns
returns g c = grind (arith, common_steps, gathered-whole, each_byte)
