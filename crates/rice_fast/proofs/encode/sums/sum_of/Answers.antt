use Rattle.rice_fast.proofs.Words.{arith, few_bits}
use Rattle.rice_fast.proofs.lemmas.encode.LargeSums.{small_sums}
use Rattle.rice_fast.proofs.encode.sums.sum_of.Goals as goal

pub small_sum-requires-clause-small : goal.small_sum-requires-clause-small
small_sum-requires-clause-small c = small_sums c.args.items.now 0 c.requires.size.1 (few_bits c.args.setting.now c.args.items.now (omega arith) c.requires.fit)
