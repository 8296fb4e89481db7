use Rattle.rice_stream.proofs.laws.returns_bytes.Goals as goal

pub returns : goal.returns
returns c = Rattle.rice_stream.proofs.lemmas.ReturnedBytes.returns_bytes
