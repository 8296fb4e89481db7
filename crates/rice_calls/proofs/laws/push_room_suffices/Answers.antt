use Rattle.rice_calls.proofs.laws.push_room_suffices.Goals as goal

pub returns : goal.returns
returns c = Rattle.rice_calls.proofs.lemmas.RoomOfPieceSuffices.push_room_suffices
