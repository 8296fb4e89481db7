use Rattle.rice_calls.proofs.laws.pulls_to_a_count_are_decoding.Goals as goal

pub returns : goal.returns
returns c = Rattle.rice_calls.proofs.lemmas.PulledPieces.pulls_to_a_count_are_decoding
