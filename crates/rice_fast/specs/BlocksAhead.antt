-- Buffered blocks that are decoded in one pass from their bits to the bytes of their samples.
use Rattle.std.specs.Prelude.{◌≡◌, ◌⊎◌, ℕ, ◌+◌, ◌-◌, ◌*◌, ◌^◌, ◌<◌, ◌≤◌, Bool, false, List, All, drop, flat_map, length, take, Ok, ℤ}
use Rattle.rice_bits.specs.{Bits.word, Reader.Reader}
use Rattle.rice_samples.specs.Parameters.{Parameters, id_len, value_count, values_at, width}
use Rattle.rice_samples.specs.{Spelling.ordered_bytes, Spelling.spellings, Residuals.last_number}
use Rattle.rice_code.specs.{Bounds.most_samples_of_bit, Decoder.Answers, Decoder.DecoderState, Decoder.GivesBlock, Decoder.with_mark, code.CodedDataSets.CodedDataSet, code.CodedDataSets.bits_of_set}
use Rattle.rice_code.specs.{code.CodedDataSets.turns, code.Forms.IsForm, code.Forms.ResidualsAreSound, code.Forms.RunIsSound, code.Forms.blocks_in, declared.decode.call_results.Step.TheVariants.Block}

-- Samples of more than `below` and at most `bits` bits.
pub record HasBits (below bits : ℕ) (s : Parameters) : Type 0 where
  pub more : below < s.bits
  pub most : s.bits ≤ bits

-- The first `len` bits are a sound coded data set at block b, which takes so many turns to search, and these are the levels of the samples
-- of its one block, after sample p.
pub record BlockAhead (buffered : List Bool) (s : Parameters) (b : ℕ) (p : ℤ) (levels : List ℕ) (len searched : ℕ) : Type 0 where
  pub set : CodedDataSet
  pub form : IsForm s b set
  pub run_sound : RunIsSound s b set
  pub residuals_sound : ResidualsAreSound s set
  pub within : len ≤ length buffered
  pub bits : take len buffered ≡ bits_of_set s set
  pub turns_are : turns set ≡ searched
  pub few : searched ≤ len
  pub legal : All (λ l. l < value_count s) levels
  pub gives : GivesBlock s b p (values_at s levels) 0 (blocks_in s b set)

-- The same, and the bytes begin with the spellings of these samples, of which the last has level l.
pub record SpelledAhead (buffered : List Bool) (s : Parameters) (b : ℕ) (p : ℤ) (l len searched : ℕ) (bytes : List ℕ) : Type 0 where
  pub levels : List ℕ
  pub ahead : BlockAhead buffered s b p levels len searched
  pub from : ℕ
  pub last_is : l ≡ last_number from levels
  pub legal : l < value_count s
  pub spelled : take (width s * length levels) bytes ≡ spellings s (values_at s levels)

-- A call read a coded data set, and the bytes begin with the spellings of the samples of its first block.
pub record GivesBytes {I : Type 0} (old new : Reader I) (old_steps new_steps : ℕ) (p q : DecoderState) (bytes : List ℕ) : Type 0 where
  pub samples : List ℤ
  pub answers : Answers (with_mark old) new old_steps new_steps p q samples (Ok Block)
  pub spelled : take (width p.setting * length samples) bytes ≡ spellings p.setting samples
  -- the samples that are given and those still due are bounded by the bits
  pub by_bits : length samples + q.run * q.setting.block ≤ most_samples_of_bit * (new.taken - old.taken)

-- Samples are not predicted, and use all bits of 1, 2 or 4 bytes.
pub record IsCopied (s : Parameters) (width : ℕ) : Type 0 where
  pub preprocess : s.preprocess ≡ false
  pub widths : (width ≡ 1) ⊎ ((width ≡ 2) ⊎ (width ≡ 4))
  pub whole : s.bits ≡ 8 * width

-- The first `count` bytes are those of words of `width` bytes after an identifier, in the order of the setting.
pub record WordsAhead (buffered : List Bool) (s : Parameters) (width count : ℕ) (bytes : List ℕ) : Type 0 where
  pub words : List ℕ
  pub counted : width * length words ≡ count
  pub fit : All (λ v. v < 2 ^ (8 * width)) words
  pub bits : flat_map (word (8 * width)) words ≡ take (8 * count) (drop (id_len s) buffered)
  pub spelled : take count bytes ≡ flat_map (ordered_bytes s.msb width) words

-- the bits of a block without compression
abbrev pub copied_bits : Parameters → ℕ → ℕ
copied_bits s width = id_len s + 8 * (width * s.block)
