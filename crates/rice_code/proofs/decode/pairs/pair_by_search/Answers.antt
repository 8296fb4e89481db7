use Rattle.std.proofs.Common.{arith, ◌^◌, ◌<◌}
use Rattle.rice_samples.proofs.lemmas.blocks.PairNumbers.{triangle_none, triangle-more, triangle_small, pair_is}
use Rattle.rice_code.proofs.decode.pairs.pair_by_search.Goals as goal

pub loop-sum-init : goal.loop-sum-init
loop-sum-init c = let e = triangle_none in record { parts = omega arith; below = omega arith }

pub loop-sum-preserved : goal.loop-sum-preserved
loop-sum-preserved c = let e = triangle-more c.loop-sum.sum in record { parts = omega arith; below = omega arith }

pub overflow_cast-result : goal.overflow_cast-result
overflow_cast-result c = let small : c.loop-sum.sum < 2 ^ 32 = triangle_small c.loop-sum.sum (omega arith) in omega arith

pub overflow_cast-result-2 : goal.overflow_cast-result-2
overflow_cast-result-2 c = let small : c.loop-sum.sum < 2 ^ 32 = triangle_small c.loop-sum.sum (omega arith) in omega arith

pub returns-clause-pair : goal.returns-clause-pair
returns-clause-pair c = pair_is c.loop-sum.sum c.loop-sum.rest c.args.g (omega arith) c.loop-sum.invariant.parts
