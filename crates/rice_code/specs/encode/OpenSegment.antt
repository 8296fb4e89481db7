-- What a coder holds of the segment that it fills: its residuals, and how each call changes it.
use Rattle.std.specs.Prelude.{◌≡◌, ℕ, ◌+◌, ◌*◌, ◌/◌, ◌<◌, ◌≤◌, ◌⊎◌, Bool, true, false, ◌&&◌, ◌==◌, if◌then◌else◌, List, [], ◌∷◌, ◌++◌, length, replicate, Option, Some, None, IfSome, sum_by, ℤ}
use Rattle.rice_samples.specs.{Parameters.Parameters, Parameters.IsLegal, Parameters.IsSample, Parameters.value_count, Places.place, Places.begins_segment, Places.blocks_left}
use Rattle.rice_samples.specs.Residuals.{pattern, rank, last_of}
use Rattle.rice_code.specs.{code.CodedDataSets.CodedDataSet, code.CodedDataSets.bits_of_set, CoderSteps.least_looks, CoderSteps.most_looks, code.SoundBlocks.AreSoundBlocks, code.Blocks.BlockData}
use Rattle.rice_code.specs.{encode.HeldBlocks.held_blocks, encode.BitBuffer.sink_bits, code.Code.data_sets, Bounds.block_bound, code.Layout.layout}

-- the residuals of the segment so far and its reference, the sample before the next, and the place at which the segment begins
pub record CoderState : Type 0 where
  pub setting : Parameters
  pub residuals : List ℕ
  pub reference : Option ℕ
  pub previous : ℤ
  pub start : ℕ

-- the invariant of an open segment, which is whole with `end` residuals
pub record IsOpen (coder : CoderState) (end : ℕ) : Type 0 where
  pub legal : IsLegal coder.setting
  pub place : place coder.setting coder.start ≡ coder.start
  pub begins : begins_segment coder.setting coder.start ≡ true
  pub few : length coder.residuals ≤ coder.setting.block * blocks_left coder.setting coder.start
  pub previous : IsSample coder.setting coder.previous
  pub reference : IfSome coder.reference (λ v. v < value_count coder.setting)
  pub ends : end ≡ coder.setting.block * blocks_left coder.setting coder.start

-- the segment is whole
abbrev pub IsWhole : CoderState → Type 0
IsWhole coder = length coder.residuals ≡ coder.setting.block * blocks_left coder.setting coder.start

abbrev pub is_empty : List ℕ → Bool
is_empty [] = true
is_empty (d ∷ ds) = false

-- A coder's sink has room for the code of a segment: it holds less than a byte, or so much is left.
abbrev pub HasRoomForSegment : Parameters → List Bool → Type 0
HasRoomForSegment s sink = (length sink ≤ 7) ⊎ (length sink + 64 * block_bound s ≤ sink_bits)

-- a coder that holds nothing where the next segment begins at the place `start`, after the sample p; the first begins at 0, after 0
abbrev pub state_between : Parameters → ℕ → ℤ → CoderState
state_between s start p = record { setting = s; residuals = []; reference = None; previous = p; start = start }

-- no sample is held, and an interval begins
abbrev pub is_first : CoderState → Bool
is_first coder = is_empty coder.residuals && coder.start == 0

-- what the coder holds when it takes one sample more
abbrev pub next_residual : CoderState → ℤ → ℕ
next_residual coder x = if coder.setting.preprocess then (if is_first coder then 0 else rank coder.setting coder.previous x) else pattern coder.setting x

abbrev pub next_reference : CoderState → ℤ → Option ℕ
next_reference coder x = if coder.setting.preprocess && is_first coder then Some (pattern coder.setting x) else coder.reference

abbrev pub state_after : CoderState → ℤ → CoderState
state_after coder x = record coder { residuals = coder.residuals ++ next_residual coder x ∷ []; reference = next_reference coder x; previous = x }

-- and several: their residuals, of which only the first can be at a reference place, and the reference
abbrev pub later_residuals : Parameters → ℤ → List ℤ → List ℕ
later_residuals s p [] = []
later_residuals s p (x ∷ xs) = (if s.preprocess then rank s p x else pattern s x) ∷ later_residuals s x xs

abbrev pub next_residuals : CoderState → List ℤ → List ℕ
next_residuals coder [] = []
next_residuals coder (x ∷ xs) = next_residual coder x ∷ later_residuals coder.setting x xs

abbrev pub next_references : CoderState → List ℤ → Option ℕ
next_references coder [] = coder.reference
next_references coder (x ∷ xs) = next_reference coder x

abbrev pub state_after_all : CoderState → List ℤ → CoderState
state_after_all coder xs = record coder { residuals = coder.residuals ++ next_residuals coder xs; reference = next_references coder xs; previous = last_of coder.previous xs }

-- and when its last block is filled with n samples
abbrev pub state_with_fill : CoderState → ℕ → CoderState
state_with_fill coder n = record coder { residuals = coder.residuals ++ replicate n (next_residual coder coder.previous) }

-- what it holds after a whole segment
abbrev pub next_start : CoderState → ℕ
next_start coder = let next = coder.start + blocks_left coder.setting coder.start in if next == coder.setting.interval then 0 else next

abbrev pub state_after_segment : CoderState → CoderState
state_after_segment coder = record coder { residuals = []; reference = None; start = next_start coder }

-- the blocks that it holds,
abbrev pub blocks_held : CoderState → ℕ
blocks_held coder = length coder.residuals / coder.setting.block

abbrev pub contents_held : CoderState → List BlockData
contents_held coder = held_blocks coder.setting coder.reference (blocks_held coder) coder.residuals

-- and their coded data sets
abbrev pub sets_held : CoderState → List CodedDataSet
sets_held coder = data_sets coder.setting coder.start false (contents_held coder)

-- as they lie after `position` bits
abbrev pub code_held : CoderState → ℕ → List Bool
code_held coder position = layout coder.setting (coder.start + blocks_held coder) coder.start position (sets_held coder)

-- and the number of their bits, padding aside
abbrev pub bits_held : CoderState → ℕ
bits_held coder = sum_by (λ d. length (bits_of_set coder.setting d)) (sets_held coder)

-- whole blocks are held, and they are sound
pub record HoldsSoundBlocks (coder : CoderState) : Type 0 where
  pub sound : AreSoundBlocks coder.setting coder.start (contents_held coder)
  pub whole : length coder.residuals ≡ coder.setting.block * blocks_held coder

-- their code is appended, `count` bits and the padding of the interval that they end
pub record CodesHeld (coder : CoderState) (old new : List Bool) (count meter_old meter_new : ℕ) : Type 0 where
  pub code_is : new ≡ old ++ code_held coder (length old)
  pub bits : count ≡ bits_held coder
  pub least : meter_old + bits_held coder + sum_by (least_looks coder.setting) (contents_held coder) ≤ meter_new
  pub most : meter_new ≤ meter_old + bits_held coder + sum_by (most_looks coder.setting) (contents_held coder)
