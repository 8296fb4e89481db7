use Rattle.rice_code.proofs.laws.first_stop_is_best.Goals as goal
use Rattle.rice_code.proofs.lemmas.cost.SplitSavings as savings

pub returns : goal.returns
returns c = savings.first_stop_is_best
