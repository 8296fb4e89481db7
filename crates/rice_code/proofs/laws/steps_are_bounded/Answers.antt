use Rattle.rice_code.proofs.lemmas.cost.BestSplitsPaid.{steps_are_bounded, steps_are_paid, all_steps_are_bounded}
use Rattle.rice_code.proofs.laws.steps_are_bounded.Goals as goal

pub returns-clause-blocks : goal.returns-clause-blocks
returns-clause-blocks c = steps_are_bounded

pub returns-clause-paid : goal.returns-clause-paid
returns-clause-paid c = steps_are_paid

pub returns-clause-all : goal.returns-clause-all
returns-clause-all c = all_steps_are_bounded
