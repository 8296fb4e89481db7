use Rattle.std.proofs.Common.{arith}
use Rattle.rice_samples.proofs.lemmas.blocks.CodesOfPairsInTurn.{pairs_more}
use Rattle.rice_samples.proofs.blocks.pair_codeword_lengths.pair_sum.Goals as goal

pub loop-i-preserved : goal.loop-i-preserved
loop-i-preserved c = record { value = let e = pairs_more c.loop-i.i c.args.items.now (omega arith) in omega (arith, e); few = omega arith }
