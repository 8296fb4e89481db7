-- What a call of a device does: where the bytes stand that an outlet took, and how a failure is counted.
use Rattle.std.specs.Prelude.{◌≡◌, ℕ, ◌+◌, List, [], ◌++◌, length, drop, Option, Some, None, Result, MatchResult, ⊤}

-- The room that an outlet fills: the name of the borrow that it writes through, the bytes that it took, and the bytes
-- of the memory after them. An outlet that writes into no memory has no bytes after.
pub record Room : Type 0 where
  pub borrow : ℕ
  pub bytes : List ℕ
  pub rest : List ℕ

-- the room of an outlet that has taken nothing
abbrev pub begun : ℕ → List ℕ → Room
begun borrow memory = record { borrow = borrow; bytes = []; rest = memory }

-- bytes that were taken, and written into no memory
abbrev pub known : Option (List ℕ) → Option Room
known None = None
known (Some bytes) = Some (record { borrow = 0; bytes = bytes; rest = [] })

-- These bytes came after those that were taken, in place of as many bytes of the memory, through the same borrow.
pub record Fills (old new : Room) (more : List ℕ) : Type 0 where
  pub borrow : new.borrow ≡ old.borrow
  pub bytes : new.bytes ≡ old.bytes ++ more
  pub rest : new.rest ≡ drop (length more) old.rest

-- the outlet took these bytes
abbrev pub Appends : Option Room → Option Room → List ℕ → Type 0
Appends None new bytes = ⊤
Appends (Some a) None bytes = ⊥
Appends (Some a) (Some b) bytes = Fills a b bytes

-- the outlet took nothing
abbrev pub Keeps : Option Room → Option Room → Type 0
Keeps None new = ⊤
Keeps (Some a) None = ⊥
Keeps (Some a) (Some b) = b ≡ a

-- an error is one failure more, and nothing else is a failure
abbrev pub CountsFailure : {T E : Type 0} → ℕ → ℕ → Result T E → Type 0
CountsFailure old new r = MatchResult r (λ _. new ≡ old) (λ _. new ≡ old + 1)
