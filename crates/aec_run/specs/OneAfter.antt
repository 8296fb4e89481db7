-- Whether a 1 is left after the first bits of a code.
use Rattle.std.specs.Prelude.{◌≡◌, ℕ, ◌+◌, ◌<◌, Bool, false, not, List, length, drop, Option, Some, None, Result, Ok, Err}
use Rattle.rice_bits.specs.Limits.{most_bytes_read}
use Rattle.rice_bits.specs.Bits.{bits_of}
use Rattle.rice_bits.specs.Reader.{is_blank}
use Rattle.rice_bits.specs.declared.read.fault.BitFault.{BitFault}
use Rattle.rice_bits.specs.declared.read.fault.BitFault.TheVariants as bit_faults
use Rattle.rice_stream.specs.declared.outcome.Fault.{Fault}
use Rattle.rice_stream.specs.declared.outcome.Fault.TheVariants.{Read, TooLong}

-- a 1 is among the bits of these bytes, after so many
abbrev pub has_one_after : ℕ → List ℕ → Bool
has_one_after bits bytes = not (is_blank (drop bits (bits_of bytes)))

-- A look at the bytes of an intake stopped: a read failed, or there were more bytes than a code may have.
abbrev pub StopsLooking : {I : Type 0} → (I → ℕ) → ℕ → Option (List ℕ) → Fault → Type 0
StopsLooking {I} failed before left Read = (after : I) × (failed after ≡ before + 1)
StopsLooking failed before left TooLong = (bytes : List ℕ) → left ≡ Some bytes → most_bytes_read < length bytes
StopsLooking failed before left _ = ⊥

-- What a look at the bytes of an intake found after so many bits.
abbrev pub LooksAfter : {I : Type 0} → (I → ℕ) → ℕ → Option (List ℕ) → ℕ → Result Bool Fault → Type 0
LooksAfter failed before left bits (Ok more) = (bytes : List ℕ) → left ≡ Some bytes → more ≡ has_one_after bits bytes
LooksAfter failed before left bits (Err fault) = StopsLooking failed before left fault

-- A look that a reader's refusal stopped: where the intake has ended, there is no 1.
abbrev pub StoppedBy : {I : Type 0} → (I → ℕ) → ℕ → BitFault → Result Bool Fault → Type 0
StoppedBy failed count (bit_faults.End blank) result = result ≡ Ok false
StoppedBy {I} failed count bit_faults.Read result = (result ≡ Err Read) × ((after : I) × (failed after ≡ count))
StoppedBy failed count bit_faults.TooLong result = result ≡ Err TooLong

-- what such a look comes to where it answers with an option
abbrev pub LooksOnceMore : {I : Type 0} → (I → ℕ) → Option (List ℕ) → ℕ → Result (Option Bool) Fault → Type 0
LooksOnceMore failed left bits (Ok None) = ⊥
LooksOnceMore failed left bits (Ok (Some more)) = LooksAfter failed 0 left bits (Ok more)
LooksOnceMore failed left bits (Err fault) = LooksAfter failed 0 left bits (Err fault)
