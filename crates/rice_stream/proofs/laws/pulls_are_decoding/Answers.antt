use Rattle.rice_stream.proofs.laws.pulls_are_decoding.Goals as goal

pub returns : goal.returns
returns c = Rattle.rice_stream.proofs.lemmas.PulledPieces.pulls_are_decoding
