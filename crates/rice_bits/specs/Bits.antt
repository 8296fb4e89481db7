-- Lists of bits, the numbers, words and bytes that they spell, and what contracts see of the sink.
use Rattle.std.specs.Prelude.{◌≡◌, ℕ, zero, suc, ◌+◌, ◌-◌, ◌*◌, ◌/◌, ◌%◌, ◌^◌, ◌<◌, ◌≤◌, Bool, true, false, List, [], ◌∷◌, ◌++◌, drop, length, replicate, take, ◌==◌, ◌⊎◌, if◌then◌else◌}
use Rattle.std.specs.List.{flat_map}

-- the fundamental sequence of m: m zeros and a one
abbrev pub fundamental_sequence : ℕ → List Bool
fundamental_sequence m = replicate m false ++ true ∷ []

-- the lowest `width` binary digits of a value, most significant first
unfoldable pub word : ℕ → ℕ → List Bool
word zero value = []
word (suc width) value = (value / 2 ^ width % 2 == 1) ∷ word width value

-- the number that the digits spell, most significant first
unfoldable pub number_of : List Bool → ℕ
number_of [] = 0
number_of (bit ∷ bits) = (if bit then 2 ^ length bits else 0) + number_of bits

-- high parts and low parts of k bits, joined to numbers: the code has a fundamental sequence for a high part, a word for a low one
abbrev pub joined_parts : ℕ → List ℕ → List ℕ → List ℕ
joined_parts k [] lows = []
joined_parts k (m ∷ ms) [] = []
joined_parts k (m ∷ ms) (l ∷ ls) = (m * 2 ^ k + l) ∷ joined_parts k ms ls

-- the bits of bytes, most significant first
unfoldable pub bits_of : List ℕ → List Bool
bits_of bytes = flat_map (word 8) bytes

-- the bytes that are whole in the bits
unfoldable pub whole_bytes : List Bool → List ℕ
whole_bytes (a ∷ b ∷ c ∷ d ∷ e ∷ f ∷ g ∷ h ∷ bits) = number_of (a ∷ b ∷ c ∷ d ∷ e ∷ f ∷ g ∷ h ∷ []) ∷ whole_bytes bits
whole_bytes _ = []

-- how many of n bits are in whole bytes
abbrev pub bits_in_bytes : ℕ → ℕ
bits_in_bytes n = 8 * (n / 8)

-- the zeros that fill n bits up to a byte
abbrev pub bits_to_byte : ℕ → ℕ
bits_to_byte n = (8 - n % 8) % 8

-- the bits with zeros up to a whole byte
abbrev pub padded_bits : List Bool → List Bool
padded_bits bits = bits ++ replicate (bits_to_byte (length bits)) false

-- The most bits that one put takes: with up to seven bits of a byte before them they fit eight bytes.
abbrev pub put_width : ℕ
put_width = 56

-- `count` bits are appended, and `ticks` steps are counted
pub record Puts (more : List Bool) (count ticks : ℕ) (old new : List Bool) (meter_old meter_new : ℕ) : Type 0 where
  pub bits : new ≡ old ++ more
  pub len : length new ≡ length old + count
  pub steps : meter_new ≡ meter_old + ticks

-- So many bits are gathered within a capacity in bytes, and zeros stand after them.
pub record IsBitSink (capacity bits : ℕ) (bytes : List ℕ) : Type 0 where
  pub room : bits ≤ 8 * capacity
  pub zeros : drop bits (bits_of bytes) ≡ replicate (8 * capacity - bits) false
  pub small : capacity < 2 ^ 32

-- `more`, `count` bits, are joined to the first `bits` bits of the bytes, and are gathered with them.
pub record Joins (more : List Bool) (count bits all : ℕ) (old new : List ℕ) : Type 0 where
  pub all_bits : all ≡ bits + count
  pub same_len : length new ≡ length old
  pub gathered : IsBitSink (length new) all new
  pub joined : take all (bits_of new) ≡ take bits (bits_of old) ++ more

-- the widths of words that are whole bytes, some of which have 64 digits
abbrev pub IsWholeWidth : ℕ → Type 0
IsWholeWidth width = (width ≡ 8) ⊎ (width ≡ 16) ⊎ (width ≡ 32)

-- `more`, `count` bits, are joined but for the last `left`, which are the last digits of `last`; what is joined ends with a whole byte.
pub record JoinsAllBut (left last : ℕ) (more : List Bool) (count bits all : ℕ) (old new : List ℕ) : Type 0 where
  pub front : List Bool
  pub joins : Joins front (count - left) bits all old new
  pub spelled : more ≡ front ++ word left last
  pub whole : all % 8 ≡ 0
