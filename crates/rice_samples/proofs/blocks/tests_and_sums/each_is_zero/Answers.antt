use Rattle.std.proofs.Common.{map-id, sym}
use Rattle.rice_samples.proofs.lemmas.blocks.EightsInLanes.{more_zeros, some_digits}
use Rattle.rice_samples.proofs.blocks.tests_and_sums.each_is_zero.Goals as goal

pub returns-then-items-i-ne0 : goal.returns-then-items-i-ne0
returns-then-items-i-ne0 c = sym (some_digits c.loop-i.i c.args.items.now (rw map-id at c.if-items-i-ne0.true))

pub loop-i-preserved : goal.loop-i-preserved
loop-i-preserved c = more_zeros c.loop-i.i c.args.items.now c.loop-i.invariant (rw map-id at c.if-items-i-ne0.false)
