use Rattle.rice_stream.proofs.laws.places_of_intervals_are_reported.Goals as goal

pub returns-clause-stands : goal.returns-clause-stands
returns-clause-stands c = Rattle.rice_stream.proofs.lemmas.PulledPieces.stands_tell_places

pub returns-clause-seams : goal.returns-clause-seams
returns-clause-seams c = Rattle.rice_stream.proofs.lemmas.FedPieces.seams_tell_places
