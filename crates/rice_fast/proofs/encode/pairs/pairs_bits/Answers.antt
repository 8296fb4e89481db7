use Rattle.rice_fast.proofs.Words.{arith, pairs_more}
use Rattle.rice_fast.proofs.encode.pairs.pairs_bits.Goals as goal

pub loop-i-preserved : goal.loop-i-preserved
loop-i-preserved c = record { value = let e = pairs_more c.loop-i.i c.args.items.now (omega arith) in omega (arith, e); few = omega arith }
