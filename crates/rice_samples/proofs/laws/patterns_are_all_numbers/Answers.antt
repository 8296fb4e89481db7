use Rattle.rice_samples.proofs.laws.patterns_are_all_numbers.Goals as goal
use Rattle.rice_samples.proofs.lemmas.predict.InverseRanksAndPatterns.{has_pattern}

pub returns-clause-each : goal.returns-clause-each
returns-clause-each c = λ s legal. has_pattern s legal.bits_from
