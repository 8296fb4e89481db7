use Rattle.rice_code.proofs.laws.forms_have_a_one.Goals as goal
use Rattle.rice_code.proofs.lemmas.code.OnesOfForms as ones

pub returns : goal.returns
returns c = ones.forms_have_a_one
