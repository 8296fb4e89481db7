use Rattle.rice_code.proofs.laws.choice_is_least.Goals as goal
use Rattle.rice_code.proofs.lemmas.cost.SplitSavings as savings

pub returns : goal.returns
returns c = savings.choice_is_least
