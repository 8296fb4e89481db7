use Rattle.rice_code.proofs.laws.codes_differ.Goals as goal
use Rattle.rice_code.proofs.lemmas.meaning.OutputsRecognised as own

pub returns-clause-equal : goal.returns-clause-equal
returns-clause-equal c = own.codes_differ

pub returns-clause-refused : goal.returns-clause-refused
returns-clause-refused c = own.refused_bytes
