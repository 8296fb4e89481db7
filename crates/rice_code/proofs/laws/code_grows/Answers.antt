use Rattle.rice_code.proofs.laws.code_grows.Goals as goal
use Rattle.rice_code.proofs.lemmas.code.CodeGoesOn as growing

pub returns : goal.returns
returns c = growing.code_grows
