use Rattle.rice_code.proofs.laws.no_code_is_shorter.Goals as goal
use Rattle.rice_code.proofs.lemmas.meaning.NoShorterCode as shorter

pub returns-clause-bits : goal.returns-clause-bits
returns-clause-bits c = shorter.no_code_is_shorter

pub returns-clause-bytes : goal.returns-clause-bytes
returns-clause-bytes c = shorter.no_output_is_shorter
