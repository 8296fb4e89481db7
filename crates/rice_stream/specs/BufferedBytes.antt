-- The bytes that are buffered for a coder, and what a read adds to them.
use Rattle.std.specs.Io.KnownBytes.{Consumes}
use Rattle.std.specs.Prelude.{◌≡◌, ℕ, ◌+◌, ◌-◌, List, [], ◌∷◌, ◌++◌, length, drop, Option, Result, Err}
use Rattle.rice_samples.specs.Limits.{most_input}
use Rattle.rice_stream.specs.{declared.outcome.Fault.Fault, declared.outcome.Fault.TheVariants.Read, declared.outcome.Fault.TheVariants.TooLong}

-- the bytes that are buffered, and how many were given in all
pub record BufferedBytes : Type 0 where
  pub buffered : List ℕ
  pub given : ℕ

-- nothing was given
abbrev pub nothing_buffered : BufferedBytes
nothing_buffered = record { buffered = []; given = 0 }

-- only the last `count` bytes are buffered
abbrev pub with_last : ℕ → BufferedBytes → BufferedBytes
with_last count r = record { buffered = drop (length r.buffered - count) r.buffered; given = r.given }

-- The intake gave so many bytes, which are buffered after the others.
pub record Refills (old new : BufferedBytes) (left left_new : Option (List ℕ)) (count : ℕ) : Type 0 where
  pub bytes : List ℕ
  pub gave : Consumes left left_new bytes
  pub number : length bytes ≡ count
  pub buffered : new.buffered ≡ old.buffered ++ bytes
  pub given : new.given ≡ old.given + count

-- The intake gave one byte more than it may, which is lost.
pub record PassesInput (old new : BufferedBytes) (left left_new : Option (List ℕ)) : Type 0 where
  pub same : new ≡ old
  pub full : old.given ≡ most_input
  pub last : ℕ
  pub gave : Consumes left left_new (last ∷ [])

-- No bytes came, for this reason.
abbrev pub StopsRefilling : Fault → BufferedBytes → BufferedBytes → Option (List ℕ) → Option (List ℕ) → Type 0
StopsRefilling Read old new left left_new = Refills old new left left_new 0
StopsRefilling TooLong old new left left_new = PassesInput old new left left_new
StopsRefilling _ old new left left_new = ⊥

-- a read that failed is one failure more of the intake
abbrev pub CountsReads : {T : Type 0} → ℕ → ℕ → Result T Fault → Type 0
CountsReads old new (Err Read) = new ≡ old + 1
CountsReads old new _ = new ≡ old
