use Rattle.rice_code.proofs.laws.decoding_begins_afresh.Goals as goal
use Rattle.rice_code.proofs.lemmas.meaning.DecodingBeginsAfresh as afresh

pub returns : goal.returns
returns c = afresh.decoding_begins_afresh
