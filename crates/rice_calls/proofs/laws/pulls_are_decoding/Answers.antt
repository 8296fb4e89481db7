use Rattle.rice_calls.proofs.laws.pulls_are_decoding.Goals as goal

pub returns : goal.returns
returns c = Rattle.rice_calls.proofs.lemmas.PulledPieces.pulls_are_decoding
