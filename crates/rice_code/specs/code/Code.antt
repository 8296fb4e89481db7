-- The code of samples, and the runs of zero blocks in it.
use Rattle.std.specs.Prelude.{ℕ, ◌+◌, ◌==◌, ◌&&◌, ◌||◌, not, Bool, false, if◌then◌else◌, nat_le, List, [], ◌∷◌, ◌++◌, take, length, sum_by, Option, ℤ, pos}
use Rattle.std.specs.List.{prefix_len}
use Rattle.rice_samples.specs.{Places.begins_segment, Places.block_count, Places.blocks_left, Places.cut, Parameters.Parameters}
use Rattle.rice_bits.specs.Bits.{padded_bits, whole_bytes}
use Rattle.rice_code.specs.code.CodedDataSets.{CodedDataSet, ZeroBlocks, RemainderOfSegment, bits_of_set}
use Rattle.rice_code.specs.code.{Blocks.BlockData, Blocks.blocks_of, Blocks.is_zero_block, Choice.shortest, Layout.layout}

-- the zero blocks from the front on, inside the segment of block b
abbrev pub run_len : Parameters → ℕ → List BlockData → ℕ
run_len s b blocks = prefix_len is_zero_block (take (blocks_left s b) blocks)

-- A run of z blocks. Five or more that reach the end of the segment, or the last block, are sent as the remainder of the
-- segment (CCSDS 121.0-B-3, section 3: zero-block option; the last block by an own rule).
abbrev pub run_of_blocks : Bool → Option ℕ → ℕ → CodedDataSet
run_of_blocks to_end reference z = if nat_le 5 z && to_end then RemainderOfSegment reference else ZeroBlocks reference z

-- the run of zero blocks that starts at block b, as long as it can be
abbrev pub zero_run : Parameters → ℕ → Option ℕ → List BlockData → CodedDataSet
zero_run s b reference blocks =
    let z = run_len s b blocks in
    run_of_blocks (z == blocks_left s b || z == length blocks) reference z

-- What is sent at block b: a run where one starts, nothing inside it, and else the shortest option. A zero block goes into a run and nowhere else (own rule).
abbrev pub data_set_at : Parameters → ℕ → Bool → BlockData → List BlockData → List CodedDataSet
data_set_at s b after_zero c cs = if is_zero_block c then (if after_zero && not (begins_segment s b) then [] else zero_run s b c.reference (c ∷ cs) ∷ []) else shortest s c ∷ []

-- the coded data sets of blocks, from block b on; `after_zero`: the block before is one of zeros
abbrev pub data_sets : Parameters → ℕ → Bool → List BlockData → List CodedDataSet
data_sets s b after_zero [] = []
data_sets s b after_zero (c ∷ cs) = data_set_at s b after_zero c cs ++ data_sets s (b + 1) (is_zero_block c) cs

-- the coded data sets of samples, from block b on, which begins a segment, after the sample p
abbrev pub sets_from : Parameters → ℕ → ℤ → List ℤ → List CodedDataSet
sets_from s b p xs = data_sets s b false (blocks_of s b p xs)

-- their code, after `position` bits
abbrev pub code_from : Parameters → ℕ → ℕ → ℤ → List ℤ → List Bool
code_from s b position p xs = layout s (b + block_count s (length xs)) b position (sets_from s b p xs)

-- the number of its bits, without the padding of intervals
abbrev pub bits_from : Parameters → ℕ → ℤ → List ℤ → ℕ
bits_from s b p xs = sum_by (λ d. length (bits_of_set s d)) (sets_from s b p xs)

-- The same of all samples: their coded data sets,
abbrev pub sets_of : Parameters → List ℤ → List CodedDataSet
sets_of s xs = sets_from s 0 (pos 0) xs

-- their code,
abbrev pub code : Parameters → List ℤ → List Bool
code s xs = code_from s 0 0 (pos 0) xs

-- the number of its bits without padding,
abbrev pub code_bits : Parameters → List ℤ → ℕ
code_bits s xs = bits_from s 0 (pos 0) xs

-- and the bytes that carry it, the last one filled with zeros.
abbrev pub output : Parameters → List ℤ → List ℕ
output s xs = whole_bytes (padded_bits (code s xs))

-- the samples of whole segments,
abbrev pub complete_samples : Parameters → List ℤ → List ℤ
complete_samples s xs = take (cut s (length xs)) xs

-- and the bytes that stand whole once these are coded
abbrev pub early_output : Parameters → List ℤ → List ℕ
early_output s xs = whole_bytes (code s (complete_samples s xs))
