use Rattle.std.proofs.Common.{arith, ◌+◌, ap}
use Rattle.rice_code.proofs.{lemmas.encode.OptionTexts.pairs_left, Words.common_steps, Words.sum_by}
use Rattle.rice_code.proofs.encode.fields.put_pairs.Goals as goal

pub at-a-requires-clause-meter : goal.at-a-requires-clause-meter
at-a-requires-clause-meter c = omega (arith, c.loop-i.invariant.steps, c.requires.room.steps)

pub loop-i-preserved : goal.loop-i-preserved
loop-i-preserved c = grind (arith, common_steps, pairs_left, common_steps)
