use Rattle.rice_code.proofs.laws.code_goes_on.Goals as goal
use Rattle.rice_code.proofs.lemmas.code.CodeGoesOn as going

pub returns-clause-code : goal.returns-clause-code
returns-clause-code c s legal b position q p xs ys h k len begins = going.code_goes_on legal b position q p xs ys (record { before = h; samples = k; len = len; segment = begins })

pub returns-clause-bits : goal.returns-clause-bits
returns-clause-bits c = going.bits_go_on
