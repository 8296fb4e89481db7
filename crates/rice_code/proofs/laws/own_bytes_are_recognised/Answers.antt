use Rattle.rice_code.proofs.laws.own_bytes_are_recognised.Goals as goal
use Rattle.rice_code.proofs.lemmas.meaning.OutputsRecognised as own

pub returns : goal.returns
returns c = own.own_bytes
