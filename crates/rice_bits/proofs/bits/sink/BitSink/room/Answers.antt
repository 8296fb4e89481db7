use Rattle.std.proofs.Common.{arith}
use Rattle.rice_bits.proofs.lemmas.bits.SinkBytes.{length_viewed}
use Rattle.rice_bits.proofs.bits.sink.BitSink.room.Goals as goal

pub returns : goal.returns
returns g c = omega (arith, length_viewed _ _ _ _ c.self.invariant c.self.told c.self.view_is)
