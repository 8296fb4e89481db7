use Rattle.std.proofs.lemmas.Grind.{common_steps}
use Rattle.std.proofs.Common.{◌≡◌, ◌<◌, arith, take, subst}
use Rattle.rice_code.proofs.{lemmas.decode.JoinedResiduals.below-more, Words.All, Words.true_from_ne_false, Words.take_all}
use Rattle.rice_code.proofs.decode.sound_residuals.are_below.Goals as goal

pub loop-i-preserved : goal.loop-i-preserved
loop-i-preserved c = grind (arith, common_steps, below-more)

pub returns : goal.returns
returns c =
    let whole : take c.loop-i.i c.args.residuals.now ≡ c.args.residuals.now = take_all c.loop-i.i c.args.residuals.now (omega (arith, c.loop-i-test.false)) in
    (λ e. subst (λ xs. All (λ d. d < c.args.count) xs) whole (c.loop-i.invariant.below e), λ all. true_from_ne_false c.loop-i.all (λ no. c.loop-i.invariant.not_below no all))
