use Rattle.std.proofs.Common.{arith, ◌-◌}
use Rattle.std.proofs.lemmas.{Grind.common_steps, Int.to_z-of_z}
use Rattle.rice_samples.proofs.lemmas.{setting.LevelsOfSamples.same_level, predict.Ranks.rank_injective}
use Rattle.rice_samples.proofs.predict.preprocessor.restore.Goals as goal

pub returns-clause-only : goal.returns-clause-only
returns-clause-only c = grind (arith, common_steps, to_z-of_z, same_level, rank_injective)
