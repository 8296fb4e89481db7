use Rattle.rice_samples.proofs.laws.ranks_are_all_numbers.Goals as goal
use Rattle.rice_samples.proofs.lemmas.predict.InverseRanksAndPatterns.{has_rank}

pub returns-clause-each : goal.returns-clause-each
returns-clause-each c = λ s legal. has_rank s legal.bits_from
