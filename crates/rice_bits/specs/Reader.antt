-- What a contract sees of a reader of bits.
use Rattle.std.specs.Prelude.{◌≡◌, ℕ, ◌+◌, ◌-◌, ◌*◌, ◌^◌, ◌<◌, ◌≤◌, Bool, true, not, ◌&&◌, List, [], ◌∷◌, ◌++◌, length, Option, Some, None, IsSome}
use Rattle.std.specs.{Io.KnownBytes.Consumes, Io.KnownBytes.IsAtEnd, List.list_all}
use Rattle.rice_bits.specs.declared.read.{fault.BitFault.TheVariants.End, fault.BitFault.TheVariants.Read, fault.BitFault.TheVariants.TooLong, fault.BitFault.BitFault, window.Window.Window}
use Rattle.rice_bits.specs.{Limits.most_bits_read, Limits.most_at_once, Window.IsWindow, Window.window_bits, Bits.bits_of}

-- a reader of the bits that an intake gives
pub record Reader (I : Type 0) : Type 0 where
  -- the bits that were given and not yet taken
  pub buffered : List Bool
  -- how many bits were taken
  pub taken : ℕ
  -- no 1 was taken since the mark
  pub blank : Bool
  -- what the reader has refused
  pub refusal : Option BitFault
  pub intake : I
  -- the bytes that are still to come, where the intake tells them
  pub left : Option (List ℕ)
  -- how many calls of the intake have failed
  pub failed : ℕ

-- a reader that has taken nothing of an intake that tells so much
abbrev pub new_reader : {I : Type 0} → I → Option (List ℕ) → ℕ → Reader I
new_reader intake left failed = record { buffered = []; taken = 0; blank = true; refusal = None; intake = intake; left = left; failed = failed }

-- no bit is a 1
abbrev pub is_blank : List Bool → Bool
is_blank bits = list_all not bits

-- Bytes were read from an intake in one call, of at most 4,096 bytes, where no bit was buffered; or none were read.
pub record Supplies (old_left new_left : Option (List ℕ)) (old new : List Bool) : Type 0 where
  pub given : List ℕ
  pub consumed : Consumes old_left new_left given
  pub split : old ++ bits_of given ≡ new
  pub at_once : length given ≤ most_at_once
  pub needed : 0 < length given → old ≡ []

-- Bytes were read from an intake, and these bits taken of the buffered bits and those of the bytes.
pub record Refills (old_left new_left : Option (List ℕ)) (old new bits : List Bool) : Type 0 where
  pub given : List ℕ
  pub consumed : Consumes old_left new_left given
  pub split : old ++ bits_of given ≡ bits ++ new
  -- the last call gave at most 4,096 bytes, and without them the bits were too few
  pub needed : 0 < length given → length old + 8 * (length given - most_at_once) < length bits

-- What an intake did where a reader refuses: it ended, it failed, or it gave the byte past the limit.
abbrev pub Refuses : BitFault → Option (List ℕ) → Option (List ℕ) → ℕ → ℕ → ℕ → Bool → Type 0
Refuses (End reported) old_left new_left old_failed new_failed taken blank =
    Consumes old_left new_left [] × IsAtEnd new_left × (new_failed ≡ old_failed) × (reported ≡ blank)
Refuses Read old_left new_left old_failed new_failed taken blank =
    Consumes old_left new_left [] × (new_failed ≡ old_failed + 1)
Refuses TooLong old_left new_left old_failed new_failed taken blank =
    ((byte : ℕ) × Consumes old_left new_left (byte ∷ [])) × (new_failed ≡ old_failed) × (taken ≡ most_bits_read)

-- A reader took these bits.
pub record Takes {I : Type 0} (old new : Reader I) (bits : List Bool) : Type 0 where
  pub refills : Refills old.left new.left old.buffered new.buffered bits
  pub taken : new.taken ≡ old.taken + length bits
  pub blank : new.blank ≡ (old.blank && is_blank bits)
  pub going : new.refusal ≡ None
  pub failures : new.failed ≡ old.failed

-- A reader took these bits, which were all, and refused.
pub record Stops {I : Type 0} (old new : Reader I) (bits : List Bool) (fault : BitFault) : Type 0 where
  -- what was still to come before the call of the intake that is refused
  pub middle : Option (List ℕ)
  pub refills : Refills old.left middle old.buffered [] bits
  pub refuses : Refuses fault middle new.left old.failed new.failed new.taken new.blank
  pub taken : new.taken ≡ old.taken + length bits
  pub blank : new.blank ≡ (old.blank && is_blank bits)
  pub buffered : new.buffered ≡ []
  pub refusal : new.refusal ≡ Some fault

-- what holds of the fields of each reader
pub record IsReader (failed : ℕ) (bits : Window) (refusal : Option BitFault) : Type 0 where
  pub window : IsWindow bits
  pub going : refusal ≡ None → failed + 1 < 2 ^ 64
  pub stopped : IsSome refusal → window_bits bits ≡ []
