use Rattle.std.proofs.{lemmas.Grind.common_steps, Common.arith, Common.length, Common.ap}
use Rattle.rice_bits.proofs.lemmas.read.WindowLemmas.{length-window}
use Rattle.rice_bits.proofs.read.reader.BitReader.taken.Goals as goal

pub returns-clause-limit : goal.returns-clause-limit
returns-clause-limit g c = grind (arith, common_steps, length-window)

pub returns-clause-buffered : goal.returns-clause-buffered
returns-clause-buffered g c =
    omega (arith, ap (λ r. length r.buffered) c.self.view_is, length-window c.self.inside.window c.self.invariant.window, c.self.invariant.window.fits)

pub returns-clause-aligned : goal.returns-clause-aligned
returns-clause-aligned g c = grind (arith, common_steps, length-window)
