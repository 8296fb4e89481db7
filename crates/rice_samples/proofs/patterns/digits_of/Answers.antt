use Rattle.std.proofs.{lemmas.Grind.common_steps, Common.arith}
use Rattle.rice_samples.proofs.lemmas.predict.DistinctPatternsAndResiduals.{low_digits}
use Rattle.rice_samples.proofs.patterns.digits_of.Goals as goal

pub returns-clause-value : goal.returns-clause-value
returns-clause-value c = grind (arith, common_steps, low_digits)
