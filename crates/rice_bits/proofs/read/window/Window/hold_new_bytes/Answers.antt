use Rattle.std.proofs.lemmas.Grind.{common_steps}
use Rattle.std.proofs.Common.{◌≡◌, ◌*◌, ◌/◌, ◌∙◌, ap, arith, refl}
use Rattle.rice_bits.{proofs.lemmas.read.WindowLemmas.passed_none, proofs.lemmas.read.WindowLemmas.window_filled, proofs.lemmas.read.WindowLemmas.zeros-after, specs.Bits.bits_of}
use Rattle.rice_bits.proofs.read.window.Window.hold_new_bytes.Goals as goal

pub returns-clause-window : goal.returns-clause-window
returns-clause-window c =
    let new = c.store_zeros.new.bytes in
    let zeros = zeros-after c.args.self.now.buffer new c.args.count 8 (omega (arith, c.requires.size, c.requires.count)) c.store_zeros.ensures in
    let place : 8 * c.args.count / 8 ≡ c.args.count = omega arith in
    grind (arith, common_steps)

pub returns-clause-bits : goal.returns-clause-bits
returns-clause-bits c =
    let zeros = zeros-after c.args.self.now.buffer c.store_zeros.new.bytes c.args.count 8 (omega (arith, c.requires.size, c.requires.count)) c.store_zeros.ensures in
    window_filled _ c.args.count refl refl (omega (arith, c.store_zeros.auto.bytes, c.requires.size, c.requires.count)) ∙ ap bits_of zeros.0

pub returns-clause-passed : goal.returns-clause-passed
returns-clause-passed c = passed_none _ refl
