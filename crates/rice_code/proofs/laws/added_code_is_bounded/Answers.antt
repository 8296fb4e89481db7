use Rattle.rice_code.proofs.laws.added_code_is_bounded.Goals as goal
use Rattle.rice_code.proofs.lemmas.cost.AddedCodeBound as bounds

pub returns : goal.returns
returns c = bounds.added_code_is_bounded
