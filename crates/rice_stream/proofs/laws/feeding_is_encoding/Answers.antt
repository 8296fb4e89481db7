use Rattle.rice_stream.proofs.laws.feeding_is_encoding.Goals as goal

pub returns : goal.returns
returns c = Rattle.rice_stream.proofs.lemmas.FedPieces.feeding_is_encoding
