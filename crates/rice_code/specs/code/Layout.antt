-- How coded data sets lie in the bits: one after the other, and each interval filled to a byte where intervals are padded (own rule).
use Rattle.std.specs.Prelude.{◌≡◌, ℕ, ◌+◌, Bool, false, if◌then◌else◌, List, [], ◌∷◌, ◌++◌, length, replicate, min}
use Rattle.rice_bits.specs.Bits.{bits_to_byte}
use Rattle.rice_samples.specs.{Parameters.Parameters, Places.is_padded}
use Rattle.rice_code.specs.code.{CodedDataSets.CodedDataSet, CodedDataSets.bits_of_set, Forms.blocks_in}

-- the block after a coded data set at block b
abbrev pub block_after : Parameters → ℕ → CodedDataSet → ℕ
block_after s b d = b + length (blocks_in s b d)

-- how many bits stand after so many to fill the byte, if an interval begins with block `next` and intervals are padded
abbrev pub padding : Parameters → ℕ → ℕ → ℕ
padding s next bits = if is_padded s next then bits_to_byte bits else 0

-- the text of a coded data set after `position` bits, with the padding before block `next`, which is zeros
abbrev pub bits_with_padding : Parameters → ℕ → ℕ → CodedDataSet → List Bool
bits_with_padding s next position d = bits_of_set s d ++ replicate (padding s next (position + length (bits_of_set s d))) false

-- Coded data sets from block b on, after `position` bits, as they are sent where the blocks end before block `end`.
-- A run that stands for more blocks than there are ends with them, so an interval that is left unfinished is not padded.
abbrev pub layout : Parameters → ℕ → ℕ → ℕ → List CodedDataSet → List Bool
layout s end b position [] = []
layout s end b position (d ∷ ds) =
    let first = bits_with_padding s (min end (block_after s b d)) position d in
    first ++ layout s end (block_after s b d) (position + length first) ds

-- Bits in which the coded data sets stand so, as they are taken: the padding is skipped, and may be any bits.
abbrev pub Lies : Parameters → ℕ → ℕ → List CodedDataSet → List Bool → Type 0
Lies s b position [] bits = bits ≡ []
Lies s b position (d ∷ ds) bits =
    (skipped : List Bool) × (rest : List Bool) × (length skipped ≡ padding s (block_after s b d) (position + length (bits_of_set s d))) × (bits ≡ bits_of_set s d ++ (skipped ++ rest)) ×
    Lies s (block_after s b d) (position + length (bits_of_set s d ++ skipped)) ds rest
