use Rattle.std.proofs.lemmas.Grind.{common_steps}
use Rattle.std.proofs.Common.{arith, refl, ◌≤◌, ◌+◌}
use Rattle.rice_bits.proofs.lemmas.read.WindowLemmas.{length-window, window-moved, window-passes}
use Rattle.rice_bits.proofs.read.window.Window.take_first_bits.Goals as goal

pub returns-clause-window : goal.returns-clause-window
returns-clause-window c = grind (arith, common_steps, length-window, window-moved)

pub returns-clause-passes : goal.returns-clause-passes
returns-clause-passes c =
    let there : c.args.self.now.at + c.args.count ≤ c.args.self.now.end = omega (arith, c.requires.there, length-window c.args.self.now c.requires.window, c.requires.window.ordered) in
    window-passes _ _ c.args.count _ c.requires.window refl there c.number_from-number.ensures.bits
