use Rattle.rice_code.proofs.laws.choice_is_of_three.Goals as goal
use Rattle.rice_code.proofs.lemmas.cost.SplitSavings.{shortest_is}

pub returns : goal.returns
returns c = shortest_is
