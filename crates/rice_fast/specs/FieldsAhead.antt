-- The fields of a block ahead, looked at before they are taken: its head, the sequences of its high parts, the words of its low parts;
-- and rows of its samples, restored and spelled one after another.
use Rattle.std.specs.Prelude.{◌≡◌, ℕ, ◌+◌, ◌-◌, ◌*◌, ◌^◌, ◌<◌, ◌≤◌, Bool, List, All, drop, flat_map, length, replicate, sum, take, Option, IfSome, IfNone, slice_index_or}
use Rattle.rice_bits.specs.Bits.{fundamental_sequence, word}
use Rattle.rice_samples.specs.{Parameters.Parameters, Parameters.value_at, Parameters.value_count, Parameters.values_at, Parameters.width, Places.is_reference, Pairs.pair_codes}
use Rattle.rice_samples.specs.{Residuals.pattern, Residuals.last_number, Spelling.spellings}
use Rattle.rice_code.specs.{code.CodedDataSets.reference_bits, code.Forms.IsReference, ReadSets.reference_place}
use Rattle.rice_fast.specs.{BlocksAhead.BlockAhead, BlocksAhead.HasBits, LevelsOfParts.HaveParts, declared.fields.Fields.Fields}

-- so many bits can be looked at, which are at most those of a block and some after them
abbrev pub CanLook : ℕ → List Bool → Type 0
CanLook count bits = (count ≤ 2624) × (count ≤ length bits)

-- Block b, of `count` samples after one at this level, has a reference or none. Its samples fit lanes, and have more than `below` bits.
pub record IsBlockInLanes (below most : ℕ) (s : Parameters) (count b level : ℕ) (has_reference : Bool) : Type 0 where
  pub bits : HasBits below most s
  pub size : count ≡ s.block
  pub reference : has_reference ≡ is_reference s b
  pub before : level < value_count s

-- After the first `skip` bits, up to bit `len`, stands the reference sample of block b, if it has one. Its first sample is restored after
-- level `from`, or, without a reference, after the sample at level `before`. The first residuals, `omitted` of them, have no bits.
pub record HeadAhead (buffered : List Bool) (s : Parameters) (b before skip from omitted len : ℕ) : Type 0 where
  pub reference : Option ℕ
  pub is : IsReference s b reference
  pub place : reference_place reference ≡ replicate omitted 0
  pub few : omitted ≤ 1
  pub begins : from < value_count s
  pub value : IfSome reference (λ v. pattern s (value_at s from) ≡ v)
  pub same : IfNone reference (value_at s from ≡ value_at s before)
  pub part : ℕ
  pub len_is : len ≡ skip + part
  pub bits : reference_bits s reference ≡ take part (drop skip buffered)
  pub short : len ≤ skip + s.bits

-- The first `omitted` numbers are zeros, and the fundamental sequences of the others are the `len` bits after the first `skip`.
pub record HighsAhead (buffered : List Bool) (skip omitted : ℕ) (highs : List ℕ) (len : ℕ) : Type 0 where
  pub zeros : take omitted highs ≡ replicate omitted 0
  pub spelled : flat_map fundamental_sequence (drop omitted highs) ≡ take len (drop skip buffered)

-- The first `omitted` numbers are zeros, and the words of k bits of the others stand after the first `skip` bits.
pub record LowsAhead (buffered : List Bool) (skip omitted k : ℕ) (lows : List ℕ) : Type 0 where
  pub zeros : take omitted lows ≡ replicate omitted 0
  pub low : All (λ l. l < 2 ^ k) lows
  pub spelled : flat_map (word k) (drop omitted lows) ≡ take ((length lows - omitted) * k) (drop skip buffered)

-- The codewords of the pairs of these numbers are the `len` bits after the first `skip`, and a search for the pairs takes so many turns. The
-- first number is 0, if it stands at the place of a reference sample.
pub record PairsAhead (buffered : List Bool) (skip references : ℕ) (numbers : List ℕ) (len searched : ℕ) : Type 0 where
  pub zeros : take references numbers ≡ replicate references 0
  pub spelled : flat_map fundamental_sequence (pair_codes numbers) ≡ take len (drop skip buffered)
  pub turns_are : sum numbers ≡ searched
  pub few : searched ≤ len

-- A block ahead has these fields. Its residuals have these high parts, and low parts that are buffered and fit in lanes of `bits` bits: levels
-- with these are the block's.
pub record AreFields (buffered : List Bool) (s : Parameters) (b before size bits : ℕ) (highs : List ℕ) (f : Fields) : Type 0 where
  pub begins : f.from < value_count s
  pub few : f.omitted ≤ 1
  pub narrow : f.k ≤ bits
  pub whole : f.k ≡ bits → highs ≡ replicate 80 0
  pub places : length highs ≡ 80
  pub short : f.words ≤ 262
  pub block : (lows levels : List ℕ) → length lows ≡ size → LowsAhead buffered f.words f.omitted f.k lows → HaveParts s f.from f.k (take size highs) lows levels
      → f.words + (size - f.omitted) * f.k ≤ length buffered → BlockAhead buffered s b (value_at s before) levels (f.words + (size - f.omitted) * f.k) f.turns

-- The bytes begin with the spellings of `count` samples, the first after one at level p, whose residuals have these parts. The last of them
-- has level `last`.
pub record SpellsParts (s : Parameters) (p k count : ℕ) (highs lows : List ℕ) (last : ℕ) (bytes : List ℕ) : Type 0 where
  pub levels : List ℕ
  pub near : HaveParts s p k highs lows levels
  pub last_is : last ≡ slice_index_or levels (count - 1) 0
  pub spelled : take (width s * count) bytes ≡ spellings s (values_at s (take count levels))

-- The bytes begin with the spellings of the first `count` samples of a block with these fields and high parts. The last of them has level
-- `last`.
pub record RowsAhead (buffered : List Bool) (s : Parameters) (f : Fields) (highs : List ℕ) (count last : ℕ) (bytes : List ℕ) : Type 0 where
  pub levels : List ℕ
  pub lows : List ℕ
  pub len : length lows ≡ count
  pub words : 0 < count → LowsAhead buffered f.words f.omitted f.k lows
  pub near : HaveParts s f.from f.k (take count highs) lows levels
  pub last_is : last ≡ last_number f.from levels
  pub legal : last < value_count s
  pub spelled : take (width s * count) bytes ≡ spellings s (values_at s levels)
