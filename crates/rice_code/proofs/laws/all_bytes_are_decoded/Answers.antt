use Rattle.rice_code.proofs.laws.all_bytes_are_decoded.Goals as goal
use Rattle.rice_code.proofs.lemmas.meaning.AllBytesAreDecoded as totality

pub returns : goal.returns
returns c = totality.all_bytes_are_decoded
