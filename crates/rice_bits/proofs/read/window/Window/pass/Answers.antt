use Rattle.std.proofs.Common.{arith, refl}
use Rattle.rice_bits.proofs.lemmas.read.WindowLemmas.{front-buffered, length-window, window-moved, window-passes}
use Rattle.rice_bits.proofs.read.window.Window.pass.Goals as goal

pub overflow_add-self : goal.overflow_add-self
overflow_add-self c = omega (arith, c.requires.there, length-window c.args.self.now c.requires.window, c.requires.window.ordered, c.requires.window.fits)

pub returns-clause-window : goal.returns-clause-window
returns-clause-window c =
    window-moved c.args.self.now _ c.requires.window (omega arith) (omega (arith, c.requires.there, length-window c.args.self.now c.requires.window))

pub returns-clause-passes : goal.returns-clause-passes
returns-clause-passes c =
    window-passes c.args.self.now _ c.args.count _ c.requires.window refl (omega (arith, c.requires.there, length-window c.args.self.now c.requires.window, c.requires.window.ordered))
    (front-buffered c.args.self.now c.args.count (omega (arith, c.requires.there, length-window c.args.self.now c.requires.window)))
