-- The blocks that a coder holds, and the runs of zeros among them.
use Rattle.std.specs.Prelude.{◌≡◌, ℕ, zero, suc, ◌+◌, ◌-◌, ◌*◌, ◌≤◌, min, Bool, false, ◌&&◌, nat_le, if◌then◌else◌, List, [], ◌∷◌, ◌++◌, length, take, drop, replicate, sum_by, Option, None}
use Rattle.rice_samples.specs.Parameters.{Parameters, k_max}
use Rattle.rice_code.specs.code.{Blocks.BlockData, Blocks.zero_block, Choice.shortest, Choice.best_split, Code.data_sets, Code.run_of_blocks, SoundBlocks.block_with}
use Rattle.rice_code.specs.{CoderSteps.least_looks, CoderSteps.most_looks, encode.BitBuffer.HasRoomFor, encode.BitBuffer.HasRoomForSet, encode.BitBuffer.PutsSet}
use Rattle.rice_code.specs.code.CodedDataSets.{CodedDataSet, run_number, cost, bits_of_set, bits_of_sets}

-- the first `count` blocks that residuals make, of which only the first has this reference
abbrev pub held_blocks : Parameters → Option ℕ → ℕ → List ℕ → List BlockData
held_blocks s reference zero ds = []
held_blocks s reference (suc count) ds = block_with reference (take s.block ds) ∷ held_blocks s None count (drop s.block ds)

-- of the blocks of a segment only the first can have a reference
abbrev pub reference_at : Option ℕ → ℕ → Option ℕ
reference_at reference zero = reference
reference_at reference (suc i) = None

-- the zero blocks that are pending until their run ends
abbrev pub pending_zeros : Parameters → Option ℕ → ℕ → List BlockData
pending_zeros s reference zero = []
pending_zeros s reference (suc more) = zero_block s reference ∷ replicate more (zero_block s None)

-- the zeros of the codeword of a run
abbrev pub zeros_of_run : Bool → ℕ → ℕ
zeros_of_run to_end z = if nat_le 5 z && to_end then 4 else run_number z

-- the run of the zero blocks that are pending, if there are any
abbrev pub pending_run : Bool → Option ℕ → ℕ → List CodedDataSet
pending_run to_end reference zero = []
pending_run to_end reference (suc more) = run_of_blocks to_end reference (suc more) ∷ []

abbrev pub pending_bits : Parameters → Bool → Option ℕ → ℕ → List Bool
pending_bits s to_end reference run = bits_of_sets s (pending_run to_end reference run)

-- A block that is not zero is coded in the shortest way, with the looks of the search for it,
abbrev pub PutsShortest : Parameters → BlockData → List Bool → List Bool → ℕ → ℕ → Type 0
PutsShortest s block sink_old sink_new meter_old meter_new =
    PutsSet s (shortest s block) (s.block * (best_split s block + 3) - 1) (s.block * (min (best_split s block + 1) (k_max s) + 4)) sink_old sink_new meter_old meter_new

-- for which there is room.
abbrev pub HasRoomForShortest : Parameters → BlockData → List Bool → ℕ → Type 0
HasRoomForShortest s block sink meter = HasRoomForSet s (shortest s block) (s.block * (k_max s + 4)) sink meter

-- a block of zeros joins a run: nothing is put, and each of its residuals is looked at
pub record JoinsRun (s : Parameters) (run joined : ℕ) (sink_old sink_new : List Bool) (meter_old meter_new : ℕ) : Type 0 where
  pub run_is : joined ≡ run + 1
  pub bits : sink_new ≡ sink_old
  pub steps : meter_new ≡ meter_old + s.block

-- another block ends the run, whose code is put, and then that of the block
pub record EndsRun (s : Parameters) (run : List Bool) (block : BlockData) (pending : ℕ) (sink_old sink_new : List Bool) (meter_old meter_new : ℕ) : Type 0 where
  pub run_is : pending ≡ 0
  pub bits : sink_new ≡ sink_old ++ run ++ bits_of_set s (shortest s block)
  pub len : length sink_new ≡ length sink_old + length run + cost s (shortest s block)
  pub steps_from : meter_old + length run + cost s (shortest s block) + s.block * (best_split s block + 4) ≤ meter_new + 1
  pub steps_to : meter_new ≤ meter_old + length run + cost s (shortest s block) + s.block * (min (best_split s block + 1) (k_max s) + 5)

-- the code of blocks from the place `start` on, with which a segment begins
abbrev pub code_of_blocks : Parameters → ℕ → List BlockData → List Bool
code_of_blocks s start blocks = bits_of_sets s (data_sets s start false blocks)

-- a sink has room for it, and a meter for it and `looks` looks at residuals
abbrev pub HasRoomForBlocks : Parameters → ℕ → List BlockData → ℕ → List Bool → ℕ → Type 0
HasRoomForBlocks s start blocks looks sink meter = HasRoomFor (length (code_of_blocks s start blocks)) (length (code_of_blocks s start blocks) + looks) (length sink) meter

-- it is put, with the looks at residuals that its blocks take
pub record PutsBlocks (s : Parameters) (start : ℕ) (blocks : List BlockData) (old new : List Bool) (meter_old meter_new : ℕ) : Type 0 where
  pub bits : new ≡ old ++ code_of_blocks s start blocks
  pub steps_from : meter_old + length (code_of_blocks s start blocks) + sum_by (least_looks s) blocks ≤ meter_new
  pub steps_to : meter_new ≤ meter_old + length (code_of_blocks s start blocks) + sum_by (most_looks s) blocks
