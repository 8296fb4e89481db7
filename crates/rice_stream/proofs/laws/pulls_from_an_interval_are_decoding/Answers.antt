use Rattle.rice_stream.proofs.laws.pulls_from_an_interval_are_decoding.Goals as goal

pub returns-clause-front : goal.returns-clause-front
returns-clause-front c = Rattle.rice_stream.proofs.lemmas.PulledPieces.front_is_place

pub returns-clause-all : goal.returns-clause-all
returns-clause-all c = Rattle.rice_stream.proofs.lemmas.PulledPieces.pulls_from_an_interval_are_decoding

pub returns-clause-enough : goal.returns-clause-enough
returns-clause-enough c = Rattle.rice_stream.proofs.lemmas.PulledPieces.enough_after_is_decoding
