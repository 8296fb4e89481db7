use Rattle.std.proofs.Common.{sym}
use Rattle.rice_bits.proofs.lemmas.bits.SinkBytes.{length_viewed}
use Rattle.rice_bits.proofs.bits.sink.BitSink.len.Goals as goal

pub returns-clause-value : goal.returns-clause-value
returns-clause-value g c = sym (length_viewed _ _ _ _ c.self.invariant c.self.told c.self.view_is)
