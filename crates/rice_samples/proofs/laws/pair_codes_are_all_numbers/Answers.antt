use Rattle.rice_samples.proofs.laws.pair_codes_are_all_numbers.Goals as goal
use Rattle.rice_samples.proofs.lemmas.blocks.PairNumbers.{pair_of, same_pair}

pub returns-clause-each : goal.returns-clause-each
returns-clause-each c = pair_of

pub returns-clause-once : goal.returns-clause-once
returns-clause-once c = same_pair
