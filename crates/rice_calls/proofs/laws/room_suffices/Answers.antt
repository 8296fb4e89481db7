use Rattle.rice_calls.proofs.laws.room_suffices.Goals as goal

pub returns : goal.returns
returns c = Rattle.rice_calls.proofs.lemmas.ReturnedSamples.room_suffices
