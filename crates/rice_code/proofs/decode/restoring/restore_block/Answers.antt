use Rattle.std.proofs.{Common.arith, Common.rules, Common.w64, Common.to_z, lemmas.Grind.common_steps}
use Rattle.rice_code.proofs.{lemmas.decode.SamplesRestored.restored-none, lemmas.decode.SamplesRestored.restored-more, lemmas.decode.RestoredBlocks.contents_are, Words.to_z-of_z, Words.take-length}
use mir.Val.{SFits}
use Rattle.rice_code.proofs.decode.restoring.restore_block.Goals as goal

pub loop-i-init : goal.loop-i-init
loop-i-init c = rw (to_z-of_z w64 c.args.p c.ranges.p, c.clear.ensures) (restored-none c.args.setting.now c.args.block c.args.p c.args.reference c.args.residuals.now c.requires.before)

pub loop-i-preserved : goal.loop-i-preserved
loop-i-preserved c =
    let r : SFits w64 c.sample_of_residual-last.result = search rules in
    let items = rw (to_z-of_z w64 c.sample_of_residual-last.result r) at c.push.ensures.items in
    rw (to_z-of_z w64 c.sample_of_residual-last.result r, items)
    (restored-more (to_z w64 c.loop-i.last-bits) c.sample_of_residual-last.result
    c.loop-i.invariant c.requires.form.reference (omega (arith, c.loop-i-test.true, c.requires.form.len)) c.requires.form.len c.sample_of_residual-last.ensures.sample
    c.sample_of_residual-last.ensures.residual c.sample_of_residual-last.ensures.reference)

pub push-requires : goal.push-requires
push-requires c = omega (arith, c.loop-i.invariant.len)

pub returns-clause-contents : goal.returns-clause-contents
returns-clause-contents c = grind (arith, common_steps, to_z-of_z, take-length, contents_are)
