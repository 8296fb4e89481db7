use Rattle.std.proofs.Common.{arith, refl}
use Rattle.rice_bits.proofs.lemmas.read.WindowLemmas.{length-window, window-passes}
use Rattle.rice_bits.proofs.read.window.Window.take_if_more_buffered.Goals as goal

pub returns-clause-some : goal.returns-clause-some
returns-clause-some c = (
  c.number_from-number.ensures.below,
  window-passes _ _ c.args.width _ c.requires.window refl (omega arith) c.number_from-number.ensures.bits,
  omega (arith, length-window c.args.self.now c.requires.window),
)
