-- What an outlet takes of a piece that is fed.
use Rattle.rice_calls.proofs.Words.{◌≡◌, ℕ, List, [], Option, Some, None, Result, Ok, Err, refl, sym, ◌∙◌, ap, inl, inr, append-nil, ℤ, Room, Fills, Parameters, Fails, PushFails, EncodesMore}
use Rattle.rice_calls.proofs.Words.{EncodesRest, Fault, Read, Write, TooLong, SampleOutOfRange, SampleCut, CodeEnds, RunPastSegment, ResidualTooLarge, Report, Seam, fault_of}

-- the room of an outlet that was not used
room_of : Option Room → Room → Room
room_of None room = room
room_of (Some room) other = room

-- a room that is the same was filled with nothing
fills_nothing : (a b : Room) → Some b ≡ Some a → Fills a b []
unfolding room_of
fills_nothing a b e = let same : b ≡ a = ap (λ o. room_of o a) e in record { borrow = ap (λ r. r.borrow) same; bytes = ap (λ r. r.bytes) same ∙ sym (append-nil a.bytes); rest = ap (λ r. r.rest) same }

module _ (s : Parameters) (xs : List ℤ) (input : List ℕ) (a b : Room) where
  -- whatever becomes of a piece that is fed, the outlet has some bytes more
  pub more_fills : (r : Result Seam Fault) → EncodesMore s xs input (Some a) (Some b) r → (more : List ℕ) × Fills a b more
  more_fills (Ok seam) h = (h.writes.more, h.writes.took)
  more_fills (Err (SampleOutOfRange index)) h = (h.1.writes.more, h.1.writes.took)
  more_fills (Err Write) h = (h.2.writes.took.more, h.2.writes.took.took)
  more_fills (Err TooLong) h = ([], fills_nothing a b h.untouched)
  more_fills (Err Read) h = absurd h
  more_fills (Err (SampleCut index)) h = absurd h
  more_fills (Err (CodeEnds samples)) h = absurd h
  more_fills (Err (RunPastSegment block)) h = absurd h
  more_fills (Err (ResidualTooLarge block)) h = absurd h

  -- and it has failed if, and only if, the answer says so
  pub more_fails : (r : Result Seam Fault) (n : ℕ) → EncodesMore s xs input (Some a) (Some b) r → PushFails 0 n r → Fails (fault_of r) 0 0 0 n
  more_fails (Ok seam) n h f = (refl, f)
  more_fails (Err (SampleOutOfRange index)) n h f = (refl, f)
  more_fails (Err Write) n h f = (refl, f)
  more_fails (Err TooLong) n h f = (refl, f)
  more_fails (Err Read) n h f = absurd h
  more_fails (Err (SampleCut index)) n h f = absurd h
  more_fails (Err (CodeEnds samples)) n h f = absurd h
  more_fails (Err (RunPastSegment block)) n h f = absurd h
  more_fails (Err (ResidualTooLarge block)) n h f = absurd h

  -- and so it is with the last piece
  pub rest_fills : (r : Report) (fault : Option Fault) → EncodesRest s xs input (Some a) (Some b) r fault → (more : List ℕ) × Fills a b more
  rest_fills r None h = (h.3.more, h.3.took)
  rest_fills r (Some (SampleOutOfRange index)) h = (h.1.writes.more, h.1.writes.took)
  rest_fills r (Some (SampleCut index)) h = (h.1.writes.more, h.1.writes.took)
  rest_fills r (Some Write) (inl h) = (h.2.writes.took.more, h.2.writes.took.took)
  rest_fills r (Some Write) (inr h) = (h.3.took.more, h.3.took.took)
  rest_fills r (Some TooLong) h = ([], fills_nothing a b h.0.untouched)
  rest_fills r (Some Read) h = absurd h
  rest_fills r (Some (CodeEnds samples)) h = absurd h
  rest_fills r (Some (RunPastSegment block)) h = absurd h
  rest_fills r (Some (ResidualTooLarge block)) h = absurd h
