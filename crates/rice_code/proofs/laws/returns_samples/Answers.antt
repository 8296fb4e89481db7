use Rattle.rice_code.proofs.laws.returns_samples.Goals as goal
use Rattle.rice_code.proofs.lemmas.meaning.SamplesAreReturned as returned

pub returns : goal.returns
returns c = returned.returns_samples
