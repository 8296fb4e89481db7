use Rattle.rice_code.proofs.laws.saving_never_rises.Goals as goal
use Rattle.rice_code.proofs.lemmas.cost.SplitSavings as savings

pub returns : goal.returns
returns c = savings.saving_never_rises
