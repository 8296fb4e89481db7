use Rattle.rice_code.proofs.laws.no_sets_are_shorter.Goals as goal
use Rattle.rice_code.proofs.lemmas.cost.LeastCode as least

pub returns : goal.returns
returns c = least.no_sets_are_shorter
