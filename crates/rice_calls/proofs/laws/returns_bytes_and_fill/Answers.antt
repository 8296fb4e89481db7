use Rattle.rice_calls.proofs.laws.returns_bytes_and_fill.Goals as goal

pub returns : goal.returns
returns c = Rattle.rice_calls.proofs.lemmas.ReturnedSamples.returns_bytes_and_fill
