use Rattle.rice_calls.proofs.laws.places_of_intervals_are_reported.Goals as goal

pub returns-clause-drains : goal.returns-clause-drains
returns-clause-drains c = Rattle.rice_calls.proofs.lemmas.PulledPieces.drains_tell_places

pub returns-clause-feeds : goal.returns-clause-feeds
returns-clause-feeds c = Rattle.rice_calls.proofs.lemmas.FedPlaces.feeds_tell_places
