use Rattle.rice_calls.proofs.laws.returns_bytes.Goals as goal

pub returns : goal.returns
returns c = Rattle.rice_calls.proofs.lemmas.ReturnedSamples.returns_bytes
