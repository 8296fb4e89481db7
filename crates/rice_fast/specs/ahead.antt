-- Fundamental sequences at the front of some bits: the places of the ones that end them, in the lanes of a vector, and what is between them.
use Rattle.std.specs.List.{range_with_len}
use Rattle.std.specs.Prelude.{ℕ, ◌+◌, ◌-◌, Bool, true, false, List, [], ◌∷◌, ◌*◌, ◌++◌, length, replicate, take, ◌≡◌, ◌≤◌, flat_map}
use Rattle.rice_bits.specs.Bits.{word, fundamental_sequence}

-- for each 1 among the bits, how many bits stand up to and including it, together with those before all
abbrev pub ends_after : ℕ → List Bool → List ℕ
ends_after before [] = []
ends_after before (true ∷ bits) = (before + 1) ∷ ends_after (before + 1) bits
ends_after before (false ∷ bits) = ends_after (before + 1) bits

-- how many numbers stand between each of the numbers and the next
abbrev pub gaps : List ℕ → List ℕ
gaps (a ∷ b ∷ ends) = (b - a - 1) ∷ gaps (b ∷ ends)
gaps _ = []

-- the first sixteen of some numbers, and zeros in the lanes that are left
abbrev pub in_lanes : List ℕ → List ℕ
in_lanes numbers = take 16 (numbers ++ replicate 16 0)

-- for each of sixteen lanes the place of the lane so many before it, or 128, which no lane has
abbrev pub places_after : ℕ → List ℕ
places_after count = take 16 (replicate count 128 ++ range_with_len 0 16)

-- the ends of the ones of a byte at a place of a word, and zeros up to eight numbers
abbrev pub row_of_place : ℕ → ℕ → List ℕ
row_of_place place byte = ends_after (8 * place) (word 8 byte) ++ replicate (8 - length (ends_after (8 * place) (word 8 byte))) 0

-- The first `len` bits are the fundamental sequences of the first `count` of sixteen numbers.
pub record BeginWithSequences (bits : List Bool) (count : ℕ) (numbers : List ℕ) (len : ℕ) : Type 0 where
  pub lanes : length numbers ≡ 16
  pub few : len ≤ 56
  pub spelled : flat_map fundamental_sequence (take count numbers) ≡ take len bits
