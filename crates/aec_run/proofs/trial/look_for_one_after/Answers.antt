use Rattle.std.proofs.lemmas.Grind.{common_steps}
use Rattle.std.proofs.Common.{arith}
use Rattle.aec_run.proofs.trial.look_for_one_after.Goals as goal

pub returns-then-not-is_looked_for : goal.returns-then-not-is_looked_for
returns-then-not-is_looked_for g c = grind (arith, common_steps)
