use Rattle.std.proofs.lemmas.Grind.{common_steps}
use Rattle.std.proofs.Common.{arith}
use Rattle.aec_run.proofs.coding.run.Goals as goal

pub returns-then-plan-clause-decodes : goal.returns-then-plan-clause-decodes
returns-then-plan-clause-decodes g c = grind (arith, common_steps)

pub returns-then-plan-clause-decodes_within : goal.returns-then-plan-clause-decodes_within
returns-then-plan-clause-decodes_within g c = grind (arith, common_steps)

pub returns-then-plan-clause-idle : goal.returns-then-plan-clause-idle
returns-then-plan-clause-idle g c = grind (arith, common_steps)
