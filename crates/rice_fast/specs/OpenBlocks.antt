-- What the fast coder, its sink and its meter stand for, and its open segment, whose blocks are coded as soon as they are whole.
use Rattle.std.specs.Prelude.{◌≡◌, ℕ, ◌+◌, ◌-◌, ◌*◌, ◌<◌, ◌≤◌, ◌==◌, ◌&&◌, Bool, true, false, List, [], ◌∷◌, ◌++◌, length, replicate, take, drop, sum_by, Option, Some, None, IfSome, ℤ}
use Rattle.std.specs.List.{AllByRecursion}
use Rattle.rice_bits.specs.Limits.{step_limit}
use Rattle.rice_samples.specs.Parameters.{Parameters, IsLegal, IsSample, width, value_at, value_count}
use Rattle.rice_samples.specs.{Places.blocks_left, Spelling.Reads, Spelling.spelling, Spelling.spellings, Residuals.last_of, Residuals.pattern}
use Rattle.rice_code.specs.encode.HeldBlocks.{held_blocks, pending_zeros, reference_at, code_of_blocks}
use Rattle.rice_code.specs.encode.OpenSegment.{CoderState, IsOpen, later_residuals, state_after_all}
use Rattle.rice_code.specs.{CoderSteps.least_looks, CoderSteps.most_looks, CoderSteps.coding_steps, CoderSteps.segment_steps, code.Blocks.BlockData, code.Code.data_sets}
use Rattle.rice_code.specs.{code.CodedDataSets.bits_of_sets, code.SoundBlocks.AreSoundBlocks, code.SoundBlocks.block_with, encode.Coder.CompletesNone, encode.Coder.IsCoder, encode.Coder.PushesSamples}
use Rattle.rice_fast.specs.declared.encode.coder.BlockCoder.{BlockCoder}

-- The state of a coder that puts the code of a segment only when it is whole, with its sink and its meter.
pub record Standing : Type 0 where
  pub coder : CoderState
  pub sink : List Bool
  pub meter : ℕ

-- such a coder has room for the code of a segment
pub record HasRoomAt (m : Standing) : Type 0 where
  pub room : length m.sink ≤ 7
  pub steps : m.meter + segment_steps m.coder.setting < step_limit

-- The first `count` samples that the bytes spell are taken; only the last one can make a segment whole.
pub record TakesSpelled (m m_new : Standing) (bytes : List ℕ) (count bits : ℕ) : Type 0 where
  pub samples : List ℤ
  pub reads : Reads m.coder.setting bytes samples (drop (width m.coder.setting * count) bytes)
  pub number : length samples ≡ count
  pub pushes : PushesSamples m.coder m_new.coder samples m.sink m_new.sink bits m.meter m_new.meter
  pub before_last : (n : ℕ) → n < count → CompletesNone m.coder (take n samples)
  pub whole : 0 < bits → m_new.coder.residuals ≡ []
  pub buffered : bits ≡ 0 → m_new.sink ≡ m.sink

-- These are the residuals of the samples that the bytes spell: of the first one after the sample at level `before`, of each other after the one before it.
pub record HasResidualsOf (s : Parameters) (bytes : List ℕ) (before : ℕ) (residuals : List ℕ) (last : ℕ) : Type 0 where
  pub samples : List ℤ
  pub reads : Reads s bytes samples []
  pub below : last < value_count s
  pub residuals_are : residuals ≡ later_residuals s (value_at s before) samples
  pub last_is : value_at s last ≡ last_of (value_at s before) samples

-- what is still to be put, where `run` zero blocks before block n of the segment are pending, and these blocks follow
abbrev pub to_follow : Parameters → ℕ → Option ℕ → ℕ → ℕ → List BlockData → List Bool
to_follow s start r n run more = bits_of_sets s (data_sets s (start + (n - run)) false (pending_zeros s (reference_at r (n - run)) run ++ more))

-- The code of the first blocks of a segment is put after `from`, but for the zero blocks that are pending: `bits` bits, in `steps` steps.
pub record IsAhead (s : Parameters) (start : ℕ) (r : Option ℕ) (run bits steps : ℕ) (blocks : List BlockData) (sink from : List Bool) : Type 0 where
  pub sound : AreSoundBlocks s start blocks
  pub few : length blocks ≤ blocks_left s start
  pub inside : run ≤ length blocks
  pub same : (more : List BlockData) → length blocks + length more ≤ blocks_left s start → sink ++ to_follow s start r (length blocks) run more ≡ from ++ code_of_blocks s start (blocks ++ more)
  pub len : length sink ≡ length from + bits
  pub least : bits + sum_by (least_looks s) blocks ≤ steps
  pub most : steps ≤ bits + sum_by (most_looks s) blocks

-- the coder that holds these residuals of the open segment
abbrev pub coder_with : BlockCoder → List ℕ → CoderState
coder_with c residuals = record { setting = c.setting; residuals = residuals; reference = c.reference; previous = value_at c.setting c.previous; start = c.start }

-- The open segment has these residuals: those of whole blocks, whose code is put after `from`, and those of `row`, at most a block.
pub record HoldsOpen (c : BlockCoder) (row : List ℕ) (sink : List Bool) (meter : ℕ) (residuals : List ℕ) (from : List Bool) (meter_from : ℕ) : Type 0 where
  pub opens : IsOpen (coder_with c residuals) (c.setting.block * c.end)
  pub ends : c.end ≡ blocks_left c.setting c.start
  pub below : c.previous < value_count c.setting
  pub number : length residuals ≡ c.setting.block * c.blocks + length row
  pub fits : length row ≤ c.setting.block
  pub part : drop (c.setting.block * c.blocks) residuals ≡ row
  pub steps_ahead : meter ≡ meter_from + c.steps_ahead
  pub ahead : IsAhead c.setting c.start c.reference c.run c.bits_ahead c.steps_ahead (held_blocks c.setting c.reference c.blocks residuals) sink from

-- The coder with its residuals in `row`, its sink and its meter stand for a coder that puts nothing before its segment is whole, after these samples.
pub record StandsWith (c : BlockCoder) (row : List ℕ) (sink : List Bool) (meter : ℕ) (m : Standing) (xs : List ℤ) : Type 0 where
  pub coded : IsCoder m.coder
  pub legal : AllByRecursion (IsSample m.coder.setting) xs
  pub residuals : List ℕ
  pub coder : state_after_all m.coder xs ≡ coder_with c residuals
  pub holds : HoldsOpen c row sink meter residuals m.sink (m.meter + length xs)

-- The coder stands for it after samples that may make the segment whole,
pub record StandsAfter (c : BlockCoder) (sink : List Bool) (meter : ℕ) (m : Standing) (xs : List ℤ) : Type 0 where
  pub room : length c.part ≡ 64
  pub held : c.held ≤ c.setting.block
  pub stands : StandsWith c (take c.held c.part) sink meter m xs

-- and between two calls.
pub record StandsFor (c : BlockCoder) (sink : List Bool) (meter : ℕ) (m : Standing) : Type 0 where
  pub room : length c.part ≡ 64
  pub held : c.held < c.setting.block
  pub coded : IsCoder m.coder
  pub residuals : List ℕ
  pub coder : m.coder ≡ coder_with c residuals
  pub holds : HoldsOpen c (take c.held c.part) sink meter residuals m.sink m.meter

-- the residuals of a whole block
abbrev pub whole_part : BlockCoder → List ℕ
whole_part c = take c.setting.block c.part

-- There is room for the block whose residuals are all held after those that are coded.
pub record HasRoomForBlock (c : BlockCoder) (sink : List Bool) (meter : ℕ) : Type 0 where
  pub blocks : List BlockData
  pub from : List Bool
  pub meter_from : ℕ
  pub number : length blocks ≡ c.blocks
  pub legal : IsLegal c.setting
  pub fits : IfSome c.reference (λ v. v < value_count c.setting)
  pub ahead : IsAhead c.setting c.start c.reference c.run c.bits_ahead c.steps_ahead blocks sink from
  pub sound : AreSoundBlocks c.setting c.start (blocks ++ block_with (reference_at c.reference (length blocks)) (whole_part c) ∷ [])
  pub below : length blocks < blocks_left c.setting c.start
  pub steps_ahead : meter ≡ meter_from + c.steps_ahead
  pub room : length from ≤ 7
  pub steps : meter_from + coding_steps c.setting < step_limit

-- then it is coded
abbrev pub with_block : BlockCoder → ℕ → ℕ → ℕ → BlockCoder
with_block c run bits steps = record c { blocks = c.blocks + 1; run = run; bits_ahead = bits; steps_ahead = steps }

-- the coder between two segments
abbrev pub coder_between : Parameters → ℕ → ℕ → ℕ → List ℕ → BlockCoder
coder_between s start end previous part = record {
  setting = s;
  start = start;
  blocks = 0;
  end = end;
  reference = None;
  run = 0;
  previous = previous;
  bits_ahead = 0;
  steps_ahead = 0;
  part = part;
  held = 0;
}

-- no residual is held, and a reference interval begins
abbrev pub is_at_first : BlockCoder → Bool
is_at_first c = (c.held == 0 && c.blocks == 0) && c.start == 0

-- What stands before the sample that these bytes spell first: the level of the sample before it and the reference of the segment, or what it is itself at a reference place.
pub record IsBefore (c : BlockCoder) (bytes : List ℕ) (reference : Option ℕ) (level : ℕ) : Type 0 where
  pub below : level < value_count c.setting
  pub later : (c.setting.preprocess && is_at_first c) ≡ false → (reference ≡ c.reference) × (level ≡ c.previous)
  pub first : (c.setting.preprocess && is_at_first c) ≡ true → (x : ℤ) × IsSample c.setting x × (take (width c.setting) bytes ≡ spelling c.setting x) × (value_at c.setting level ≡ x)
      × (reference ≡ Some (pattern c.setting x))

-- Zero blocks are pending, and the bytes of `count` blocks spell the sample before again and again, which is predicted.
pub record GoesOn (c : BlockCoder) (bytes : List ℕ) (count : ℕ) : Type 0 where
  pub pending : 0 < c.run
  pub predicted : c.setting.preprocess ≡ true
  pub spelled : take (width c.setting * (c.setting.block * count)) bytes ≡ spellings c.setting (replicate (c.setting.block * count) (value_at c.setting c.previous))

-- The samples are pushed. Only where they make the segment whole are bits put.
pub record PushesOpen (m m_new : Standing) (samples : List ℤ) (bits : ℕ) : Type 0 where
  pub pushes : PushesSamples m.coder m_new.coder samples m.sink m_new.sink bits m.meter m_new.meter
  pub whole : 0 < bits → m_new.coder.residuals ≡ []
  pub buffered : bits ≡ 0 → m_new.sink ≡ m.sink

-- What the coder stands for after samples has room for the code of a segment,
abbrev pub CanEnd : BlockCoder → List Bool → ℕ → Type 0
CanEnd c sink meter = (m : Standing) × (xs : List ℤ) × StandsAfter c sink meter m xs × HasRoomAt m

-- and the samples are pushed, whatever they are, with `bits` bits where they make the segment whole.
abbrev pub EndsPart : (old new : BlockCoder) → (sink_old sink_new : List Bool) → (meter_old meter_new bits : ℕ) → Type 0
EndsPart old new sink_old sink_new meter_old meter_new bits =
    (m : Standing) (xs : List ℤ) → StandsAfter old sink_old meter_old m xs → HasRoomAt m → (m_new : Standing) × StandsFor new sink_new meter_new m_new × PushesOpen m m_new xs bits

-- Whatever the coder stands for, the first samples that the bytes spell are taken.
abbrev pub TakesFrom : (old new : BlockCoder) → (sink_old sink_new : List Bool) → (meter_old meter_new : ℕ) → List ℕ → (count bits : ℕ) → Type 0
TakesFrom old new sink_old sink_new meter_old meter_new bytes count bits =
    (m : Standing) → StandsFor old sink_old meter_old m → HasRoomAt m → (m_new : Standing) × StandsFor new sink_new meter_new m_new × TakesSpelled m m_new bytes count bits
