use Rattle.rice_code.proofs.laws.sets_are_bounded.Goals as goal
use Rattle.rice_code.proofs.lemmas.cost.AddedCodeBound as bounds

pub returns : goal.returns
returns c = bounds.sets_are_bounded
