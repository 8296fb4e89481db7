use Rattle.std.proofs.{lemmas.Grind.common_steps, Common.arith, Common.sym}
use Rattle.rice_bits.{proofs.lemmas.read.WindowLemmas.blank-more, proofs.lemmas.read.WindowLemmas.blank-not, specs.Window.window_passed, specs.Bits.bits_of}
use Rattle.rice_bits.proofs.read.window.Window.has_passed_zeros_alone.Goals as goal

pub loop-seen-preserved : goal.loop-seen-preserved
loop-seen-preserved c = grind (arith, common_steps, blank-more)

pub returns-then-front_digits-ne0 : goal.returns-then-front_digits-ne0
unfolding window_passed
returns-then-front_digits-ne0 c =
    sym (blank-not (bits_of c.args.self.now.buffer) c.at_least_57_bits_from.result c.args.self.now.at c.loop-seen.invariant.from (record {
      few = omega arith;
      fits = omega arith;
      word = c.at_least_57_bits_from.ensures;
      front = c.front_digits.ensures;
    }) c.loop-seen.invariant.blank c.if-front_digits-ne0.true (omega (arith, c.loop-seen-test.true)))

pub returns : goal.returns
unfolding window_passed
returns c = grind (arith, common_steps)
