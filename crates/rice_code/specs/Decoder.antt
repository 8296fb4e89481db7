-- The state of a decoder, the samples that it restores, and what a call of it says.
use Rattle.std.specs.Prelude.{◌≡◌, ◌≢◌, ℕ, ◌+◌, ◌<◌, ◌≤◌, ◌==◌, ◌&&◌, if◌then◌else◌, Bool, false, List, All, length, Option, Some, None, is_some, Result, Ok, ℤ, zero, suc, true, [], ◌∷◌, ◌++◌}
use Rattle.std.specs.Prelude.{replicate, Err}
use Rattle.rice_bits.specs.{declared.read.fault.BitFault.BitFault, Reader.Reader, Reader.Takes, Reader.is_blank}
use Rattle.rice_samples.specs.{Residuals.last_of, Residuals.rank, Residuals.pattern, Places.blocks_left, Places.begins_segment, Parameters.Parameters, Parameters.IsLegal, Parameters.IsSample}
use Rattle.rice_code.specs.code.Forms.{IsForm, RunIsSound, ResidualsAreSound, blocks_in}
use Rattle.rice_code.specs.{declared.decode.call_results.Step.TheVariants.Block, declared.decode.call_results.Step.TheVariants.Done, declared.decode.call_results.CodeFault.CodeFault}
use Rattle.rice_code.specs.{declared.decode.call_results.Step.Step, code.Blocks.BlockData, code.Blocks.block_data, code.Blocks.zero_block, code.CodedDataSets.CodedDataSet}
use Rattle.rice_code.specs.{code.CodedDataSets.bits_of_set, code.CodedDataSets.turns, ReadSets.SetCut, code.Layout.block_after, code.Layout.padding}
use Rattle.rice_bits.specs.declared.read.fault.BitFault.TheVariants as bit_faults
use Rattle.rice_code.specs.declared.decode.call_results.CodeFault.TheVariants as faults

-- The state of a decoder.
pub record DecoderState : Type 0 where
  pub setting : Parameters
  -- the block that comes next, by its place in its reference interval
  pub block : ℕ
  -- the sample before it
  pub before : ℤ
  -- the zero blocks of a run that are still to come
  pub run : ℕ
  -- what the decoder returns from now on
  pub stopped : Option (Result Step CodeFault)

-- what holds of the fields of each decoder
pub record IsDecoderState (s : Parameters) (block : ℕ) (before : ℤ) (run : ℕ) (stopped : Option (Result Step CodeFault)) : Type 0 where
  pub legal : IsLegal s
  pub within : block < s.interval
  pub sample : IsSample s before
  pub run_begun : 0 < run → begins_segment s block ≡ false
  pub run_fits : 0 < run → run ≤ blocks_left s block
  pub no_block : stopped ≢ Some (Ok Block)

-- a decoder that goes on there
abbrev pub decoder_at : Parameters → (block : ℕ) → (before : ℤ) → (run : ℕ) → DecoderState
decoder_at s block before run = record { setting = s; block = block; before = before; run = run; stopped = None }

-- the place of the block that stands `count` blocks further on in the interval, or begins the next one
abbrev pub place_after : Parameters → ℕ → ℕ → ℕ
place_after s b count = if b + count == s.interval then 0 else b + count

-- the state after a block with these samples, which `run` zero blocks follow
abbrev pub state_after_block : DecoderState → List ℤ → ℕ → DecoderState
state_after_block p samples run = record p { block = place_after p.setting p.block 1; before = last_of p.before samples; run = run }

-- the residual of a sample that is restored, by whether it is the first of a block with a reference
abbrev pub residual_at : Parameters → Option ℕ → Bool → ℤ → ℤ → ℕ
residual_at s reference first p x = if s.preprocess then (if first && is_some reference then 0 else rank s p x) else pattern s x

-- these are the samples of a block with these contents after the sample p, and `last` is the last of them
pub record RestoresBlock (s : Parameters) (b : ℕ) (p : ℤ) (contents : BlockData) (samples : List ℤ) (last : ℤ) : Type 0 where
  pub len : length samples ≡ s.block
  pub legal : All (IsSample s) samples
  pub contents_are : block_data s b p samples ≡ contents
  pub last_is : last ≡ last_of p samples
  pub sample : IsSample s last

-- These are the samples, after sample p, of the first of these blocks, which begin at block b; `run` zero blocks follow it.
pub record GivesBlock (s : Parameters) (b : ℕ) (p : ℤ) (samples : List ℤ) (run : ℕ) (blocks : List BlockData) : Type 0 where
  pub len : length samples ≡ s.block
  pub legal : All (IsSample s) samples
  pub blocks_are : block_data s b p samples ∷ replicate run (zero_block s None) ≡ blocks

-- A reader took a sound data set, and these are the samples of its first block.
pub record TakesSet {I : Type 0} (old new : Reader I) (old_steps new_steps : ℕ) (s : Parameters) (b : ℕ) (p : ℤ) (samples : List ℤ) (run : ℕ) : Type 0 where
  pub set : CodedDataSet
  pub form : IsForm s b set
  pub run_sound : RunIsSound s b set
  pub residuals_sound : ResidualsAreSound s set
  pub takes : Takes old new (bits_of_set s set)
  pub gives : GivesBlock s b p samples run (blocks_in s b set)
  -- each bit and each turn of the search is a step
  pub steps : new_steps + old.taken ≡ old_steps + new.taken + turns set

-- A reader skipped `count` bits, whatever they are.
pub record Skips {I : Type 0} (old new : Reader I) (count : ℕ) : Type 0 where
  pub bits : List Bool
  pub len : length bits ≡ count
  pub split : old.buffered ≡ bits ++ new.buffered
  pub same : new ≡ record old { buffered = new.buffered; taken = old.taken + count }

-- A reader took a sound coded data set and its padding, and these are the samples of its first block.
pub record GivesSet {I : Type 0} (old new : Reader I) (old_steps new_steps : ℕ) (s : Parameters) (b : ℕ) (p : ℤ) (samples : List ℤ) (run : ℕ) : Type 0 where
  pub middle : Reader I
  pub middle_steps : ℕ
  pub set : TakesSet old middle old_steps middle_steps s b p samples run
  pub skips : Skips middle new (padding s (block_after s b set.set) middle.taken)
  -- each bit that is skipped is a step
  pub steps : new_steps + middle.taken ≡ middle_steps + new.taken

-- A reader took a data set that is not sound.
pub record SetRefused {I : Type 0} (old new : Reader I) (old_steps new_steps : ℕ) (s : Parameters) (b : ℕ) (P : CodedDataSet → Type 0) : Type 0 where
  pub set : CodedDataSet
  pub form : IsForm s b set
  pub takes : Takes old new (bits_of_set s set)
  pub unsound : P set → ⊥
  -- each bit and each turn of the search is a step
  pub steps : new_steps + old.taken ≡ old_steps + new.taken + turns set

-- A reader took all that was left, where the intake has ended, and no data set begins with it. `blank`: no bit of it was a 1.
pub record SetEnds {I : Type 0} (old new : Reader I) (old_steps new_steps : ℕ) (s : Parameters) (b : ℕ) (blank : Bool) : Type 0 where
  pub cut : SetCut [] old new old_steps new_steps s b (bit_faults.End blank)
  pub reported : is_blank cut.bits ≡ blank

-- why a decoder at block b stops, whatever the intake is
abbrev pub StopsBy : {I : Type 0} → Reader I → Reader I → ℕ → ℕ → Parameters → ℕ → Result Step CodeFault → Type 0
StopsBy old new old_steps new_steps s b (Ok Block) = ⊥
-- no 1 was left
StopsBy old new old_steps new_steps s b (Ok Done) = SetEnds old new old_steps new_steps s b true
-- a 1 was left, and no data set begins with what was left
StopsBy old new old_steps new_steps s b (Err faults.CodeEnds) = SetEnds old new old_steps new_steps s b false
StopsBy old new old_steps new_steps s b (Err faults.RunPastSegment) = SetRefused old new old_steps new_steps s b (RunIsSound s b)
StopsBy old new old_steps new_steps s b (Err faults.ResidualTooLarge) = SetRefused old new old_steps new_steps s b (ResidualsAreSound s)
StopsBy old new old_steps new_steps s b (Err faults.Read) = SetCut [] old new old_steps new_steps s b bit_faults.Read
StopsBy old new old_steps new_steps s b (Err faults.TooLong) = SetCut [] old new old_steps new_steps s b bit_faults.TooLong

-- a reader from whose place on no 1 was taken
abbrev pub with_mark : {I : Type 0} → Reader I → Reader I
with_mark r = record r { blank = true }

-- What a call says that reads a data set.
abbrev pub Answers : {I : Type 0} → Reader I → Reader I → ℕ → ℕ → DecoderState → DecoderState → List ℤ → Result Step CodeFault → Type 0
Answers old new old_steps new_steps p q samples (Ok Block) = GivesSet old new old_steps new_steps p.setting p.block p.before samples q.run × (q ≡ state_after_block p samples q.run)
Answers old new old_steps new_steps p q samples (Ok Done) = StopsBy old new old_steps new_steps p.setting p.block (Ok Done) × (q ≡ record p { stopped = Some (Ok Done) }) × (samples ≡ [])
Answers old new old_steps new_steps p q samples (Err f) = StopsBy old new old_steps new_steps p.setting p.block (Err f) × (q ≡ record p { stopped = Some (Err f) }) × (samples ≡ [])

-- What a call says inside a run.
pub record GivesFromRun (p q : DecoderState) (samples : List ℤ) : Type 0 where
  pub gives : GivesBlock p.setting p.block p.before samples q.run (replicate p.run (zero_block p.setting None))
  pub moves : q ≡ state_after_block p samples q.run

-- A decoder went past `count` blocks of a run, of which each sample is the sample before them.
abbrev pub RepeatsBlocks : ℕ → DecoderState → DecoderState → Type 0
RepeatsBlocks zero p q = q ≡ p
RepeatsBlocks (suc n) p q = (m : DecoderState) × GivesFromRun p m (replicate p.setting.block p.before) × RepeatsBlocks n m q

-- what a decoder returns when its reader refuses
abbrev pub answer_to : BitFault → Result Step CodeFault
answer_to (bit_faults.End true) = Ok Done
answer_to (bit_faults.End false) = Err faults.CodeEnds
answer_to bit_faults.Read = Err faults.Read
answer_to bit_faults.TooLong = Err faults.TooLong
