-- The coded data sets: what each says, its text, and how long that is. (CCSDS 121.0-B-3, section 3: the options; section 5: their identifiers and formats.)
use Rattle.std.specs.Prelude.{ℕ, ◌+◌, ◌-◌, ◌*◌, ◌/◌, ◌^◌, Bool, true, false, if◌then◌else◌, nat_lt, List, [], ◌∷◌, ◌++◌, length, drop, sum, sum_by, flat_map, ◌==◌, Option, Some, None}
use Rattle.rice_samples.specs.{Parameters.Parameters, Parameters.id_len, Pairs.pair_codes}
use Rattle.rice_bits.specs.Bits.{word, fundamental_sequence}
use Rattle.rice_code.specs.code.Blocks.{BlockData}

-- One block by one of the options, so many blocks of zeros, or all blocks of zeros that are left in the segment. A run's first block may have a reference.
pub data CodedDataSet : Type 0 where
  NoCompression : BlockData → CodedDataSet
  SecondExtension : BlockData → CodedDataSet
  Split : ℕ → BlockData → CodedDataSet
  ZeroBlocks : Option ℕ → ℕ → CodedDataSet
  RemainderOfSegment : Option ℕ → CodedDataSet

-- the residuals that are sent beside the reference: all but that at the reference place
abbrev pub sent_from : Option ℕ → List ℕ → List ℕ
sent_from None ds = ds
sent_from (Some v) ds = drop 1 ds

abbrev pub sent_residuals : BlockData → List ℕ
sent_residuals c = sent_from c.reference c.residuals

-- the reference sample, where there is one
abbrev pub reference_bits : Parameters → Option ℕ → List Bool
reference_bits s None = []
reference_bits s (Some v) = word s.bits v

-- the codeword of a run: its number of blocks less one up to four, then its number, which leaves 4 for the remainder of a segment
abbrev pub run_number : ℕ → ℕ
run_number z = if nat_lt z 5 then z - 1 else z

-- What follows the identifier. No compression sends each residual as a word.
abbrev pub no_compression_tail : Parameters → BlockData → List Bool
no_compression_tail s c = reference_bits s c.reference ++ flat_map (word s.bits) (sent_residuals c)

-- Second extension sends the codewords of all pairs, with the 0 at the reference place in the first (own rule).
abbrev pub second_extension_tail : Parameters → BlockData → List Bool
second_extension_tail s c = reference_bits s c.reference ++ flat_map fundamental_sequence (pair_codes c.residuals)

-- Split k sends the residuals without their k lowest digits as fundamental sequences, and then these digits.
abbrev pub split_tail : Parameters → ℕ → BlockData → List Bool
split_tail s k c = reference_bits s c.reference ++ (flat_map (λ d. fundamental_sequence (d / 2 ^ k)) (sent_residuals c) ++ flat_map (word k) (sent_residuals c))

-- A run sends the codeword with so many zeros.
abbrev pub run_tail : Parameters → Option ℕ → ℕ → List Bool
run_tail s reference zeros = reference_bits s reference ++ fundamental_sequence zeros

-- The text of a coded data set: the identifier of its option and what follows it.
abbrev pub bits_of_set : Parameters → CodedDataSet → List Bool
bits_of_set s (NoCompression c) = word (id_len s) (2 ^ id_len s - 1) ++ no_compression_tail s c
bits_of_set s (SecondExtension c) = word (id_len s) 0 ++ true ∷ second_extension_tail s c
bits_of_set s (Split k c) = word (id_len s) (k + 1) ++ split_tail s k c
bits_of_set s (ZeroBlocks reference z) = word (id_len s) 0 ++ false ∷ run_tail s reference (run_number z)
bits_of_set s (RemainderOfSegment reference) = word (id_len s) 0 ++ false ∷ run_tail s reference 4

abbrev pub reference_len : Parameters → Option ℕ → ℕ
reference_len s None = 0
reference_len s (Some v) = s.bits

-- The length of the text, by sums: no text is built in order to measure it.
abbrev pub cost : Parameters → CodedDataSet → ℕ
cost s (NoCompression c) = id_len s + length c.residuals * s.bits
cost s (SecondExtension c) = id_len s + 1 + reference_len s c.reference + sum_by (λ g. g + 1) (pair_codes c.residuals)
cost s (Split k c) = id_len s + reference_len s c.reference + length (sent_residuals c) * (k + 1) + sum_by (λ d. d / 2 ^ k) (sent_residuals c)
cost s (ZeroBlocks reference z) = id_len s + 1 + reference_len s reference + run_number z + 1
cost s (RemainderOfSegment reference) = id_len s + 1 + reference_len s reference + 5

-- the turns of a search for the sums of its pairs that counts up from 0
abbrev pub turns : CodedDataSet → ℕ
turns (SecondExtension c) = sum c.residuals
turns _ = 0

-- the run whose codeword has so many zeros
abbrev pub run_with_zeros : Option ℕ → ℕ → CodedDataSet
run_with_zeros reference zeros = if zeros == 4 then RemainderOfSegment reference else ZeroBlocks reference (if nat_lt zeros 4 then zeros + 1 else zeros)

-- the texts of coded data sets, one after the other
abbrev pub bits_of_sets : Parameters → List CodedDataSet → List Bool
bits_of_sets s ds = flat_map (bits_of_set s) ds
