-- What holds of bits, numbers and bytes alone.
use Rattle.std.specs.Prelude.{◌≡◌, ℕ, ◌^◌, ◌<◌, All, Bool, List, ◌++◌, length, drop}
use Rattle.rice_bits.specs.Bits.{fundamental_sequence, word, number_of, bits_of, whole_bytes, bits_in_bytes}

-- The whole bytes of bits, and the bits after them, are the bits again.
abbrev pub BytesKeepBits : Type 0
BytesKeepBits = (bits : List Bool) → bits_of (whole_bytes bits) ++ drop (bits_in_bytes (length bits)) bits ≡ bits

-- The bits of bytes, and fewer than eight after them, have just these bytes.
abbrev pub BitsKeepBytes : Type 0
BitsKeepBytes = (bytes : List ℕ) (rest : List Bool) → All (λ b. b < 256) bytes → length rest < 8 → whole_bytes (bits_of bytes ++ rest) ≡ bytes

-- The digits of a number tell the number.
abbrev pub WordsKeepNumbers : Type 0
WordsKeepNumbers = (width value : ℕ) → value < 2 ^ width → number_of (word width value) ≡ value

-- Bits are the digits of the number that they spell.
abbrev pub NumbersKeepBits : Type 0
NumbersKeepBits = (bits : List Bool) → word (length bits) (number_of bits) ≡ bits

-- A fundamental sequence is read in one way, whatever follows it.
abbrev pub SequencesAreReadInOneWay : Type 0
SequencesAreReadInOneWay = (m n : ℕ) (x y : List Bool) → fundamental_sequence m ++ x ≡ fundamental_sequence n ++ y → (m ≡ n) × (x ≡ y)
