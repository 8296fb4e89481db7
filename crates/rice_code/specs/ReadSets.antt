-- What a reader took: rows of fields, words or fundamental sequences one after another, and coded data sets.
use Rattle.std.specs.Prelude.{◌≡◌, ℕ, suc, All, length, flat_map, sum, ◌+◌, ◌-◌, ◌*◌, ◌^◌, ◌<◌, ◌≤◌, Bool, true, false, List, [], ◌∷◌, ◌++◌, None, ◌/◌, Option, Some}
use Rattle.rice_bits.specs.Reader.{Reader, Takes, Stops, is_blank}
use Rattle.rice_bits.specs.{Limits.step_limit, Limits.most_bits_read, Bits.fundamental_sequence, Bits.word, declared.read.fault.BitFault.BitFault, Bits.joined_parts}
use Rattle.rice_samples.specs.{Pairs.pair_codes, Parameters.Parameters}
use Rattle.rice_code.specs.code.CodedDataSets.{CodedDataSet, NoCompression, SecondExtension, Split, ZeroBlocks, RemainderOfSegment, bits_of_set, turns, run_with_zeros, run_number}
use Rattle.rice_code.specs.code.CodedDataSets.{no_compression_tail, second_extension_tail, split_tail, run_tail}
use Rattle.rice_code.specs.code.Forms.{IsForm, IsBlock, IsZeroAtReference, RunIsSound, ResidualsAreSound, AllFit, blocks_in}
use Rattle.rice_code.specs.{code.Blocks.BlockData, declared.decode.options.SetSummary.TheVariants.Residuals, declared.decode.options.SetSummary.TheVariants.Zeros}
use Rattle.rice_code.specs.{declared.decode.options.BlockSummary.BlockSummary, declared.decode.options.SetSummary.SetSummary}

-- how many of the bits are 1
abbrev pub ones : List Bool → ℕ
ones [] = 0
ones (true ∷ bits) = suc (ones bits)
ones (false ∷ bits) = ones bits

-- A reader has not refused and is within its limit, and a meter has room for the steps of all that may follow.
pub record CanRead {I : Type 0} (reader : Reader I) (steps : ℕ) : Type 0 where
  pub going : reader.refusal ≡ None
  pub limit : reader.taken ≤ most_bits_read
  pub room : steps + 2 * (most_bits_read - reader.taken) + 64 < step_limit

-- the steps are at least the bits that were taken, and at most twice as many
pub record AreCounted (old_steps new_steps old_taken new_taken : ℕ) : Type 0 where
  pub forward : old_taken ≤ new_taken
  pub limit : new_taken ≤ most_bits_read
  pub least : old_steps + new_taken ≤ new_steps + old_taken
  pub most : new_steps + 2 * old_taken ≤ old_steps + 2 * new_taken

-- A reader took a piece for each of `count` numbers, which were appended to those before.
pub record Row {I : Type 0} (piece : ℕ → List Bool) (P : ℕ → Type 0) (old new : Reader I) (count : ℕ) (before after : List ℕ) : Type 0 where
  pub values : List ℕ
  pub len : length values ≡ count
  pub each : All P values
  pub appended : after ≡ before ++ values
  pub takes : Takes old new (flat_map piece values)

-- A reader took words of this width, which spell these numbers.
abbrev pub WordRow : {I : Type 0} → ℕ → Reader I → Reader I → ℕ → List ℕ → Type 0
WordRow width old new count numbers = Row (word width) (λ v. v < 2 ^ width) old new count [] numbers

-- A reader took a fundamental sequence for each of `count` numbers. If `small`, all are at most `most` and known.
pub record CountRow {I : Type 0} (old new : Reader I) (most : ℕ) (small : Bool) (count : ℕ) (reported : List ℕ) : Type 0 where
  pub values : List ℕ
  pub len : length values ≡ count
  pub reported_are : small ≡ true → (reported ≡ values) × All (λ m. m ≤ most) values
  pub refused : small ≡ false → All (λ m. m ≤ most) values → ⊥
  pub takes : Takes old new (flat_map fundamental_sequence values)

-- A reader took the codewords of `count` pairs, which have these numbers.
pub record PairRow {I : Type 0} (old new : Reader I) (count : ℕ) (values : List ℕ) (old_steps new_steps : ℕ) : Type 0 where
  pub len : length values ≡ count + count
  pub takes : Takes old new (flat_map fundamental_sequence (pair_codes values))
  -- each bit and each turn of the search is a step
  pub steps : new_steps + old.taken ≡ old_steps + new.taken + sum values
  pub turns : sum values ≤ length (flat_map fundamental_sequence (pair_codes values))

-- A reader took the fundamental sequences of the high parts of `count` residuals, and then their low parts, words of k bits.
-- `small` says that no high part is above `most`: then the residuals are these.
pub record PartsRead {I : Type 0} (old new : Reader I) (most k : ℕ) (small : Bool) (count : ℕ) (residuals : List ℕ) : Type 0 where
  pub highs : List ℕ
  pub lows : List ℕ
  pub as_many_highs : length highs ≡ count
  pub as_many_lows : length lows ≡ count
  pub low : All (λ v. v < 2 ^ k) lows
  pub takes : Takes old new (flat_map fundamental_sequence highs ++ flat_map (word k) lows)
  pub reported : small ≡ true → All (λ m. m ≤ most) highs × (residuals ≡ joined_parts k highs lows)
  pub refused : small ≡ false → All (λ m. m ≤ most) highs → ⊥

-- A reader took all that was left and refused, and the parts of no `count` residuals begin with it.
pub record PartsCut {I : Type 0} (old new : Reader I) (k count : ℕ) (fault : BitFault) : Type 0 where
  pub bits : List Bool
  pub stops : Stops old new bits fault
  pub none : (ds : List ℕ) (more : List Bool) → length ds ≡ count
      → bits ≡ (flat_map (λ d. fundamental_sequence (d / 2 ^ k)) ds ++ flat_map (word k) ds) ++ more → ⊥

-- the residual at the place of the reference sample, if there is one
abbrev pub reference_place : Option ℕ → List ℕ
reference_place None = []
reference_place (Some v) = 0 ∷ []

-- what follows the identifier of a coded data set, and the bit of second extension or a run
abbrev pub set_tail : Parameters → CodedDataSet → List Bool
set_tail s (NoCompression c) = no_compression_tail s c
set_tail s (SecondExtension c) = second_extension_tail s c
set_tail s (Split k c) = split_tail s k c
set_tail s (ZeroBlocks reference z) = run_tail s reference (run_number z)
set_tail s (RemainderOfSegment reference) = run_tail s reference 4

-- A reader took what follows the identifier of a block that this option codes. `head` has the reference, and says whether the residuals are sound: then they are these.
pub record BlockRead {I : Type 0} (old new : Reader I) (old_steps new_steps : ℕ) (s : Parameters) (b : ℕ) (option : BlockData → CodedDataSet) (head : BlockSummary) (residuals : List ℕ) : Type 0 where
  pub contents : BlockData
  pub form : IsForm s b (option contents)
  pub reference_is : contents.reference ≡ head.reference
  pub takes : Takes old new (set_tail s (option contents))
  pub reported : head.sound ≡ true → ResidualsAreSound s (option contents) × AllFit s contents × (contents.residuals ≡ residuals)
  pub refused : head.sound ≡ false → ResidualsAreSound s (option contents) → ⊥
  pub steps : new_steps + old.taken ≡ old_steps + new.taken + turns (option contents)

-- A reader took all that was left and refused, and no block that this option codes begins with it.
pub record BlockCut {I : Type 0} (old new : Reader I) (s : Parameters) (b : ℕ) (option : BlockData → CodedDataSet) (fault : BitFault) : Type 0 where
  pub bits : List Bool
  pub stops : Stops old new bits fault
  pub none : (c : BlockData) (more : List Bool) → IsForm s b (option c) → bits ≡ set_tail s (option c) ++ more → ⊥

-- A data set of one block has these residuals where they are sound.
pub record DescribesBlock (s : Parameters) (b : ℕ) (head : BlockSummary) (residuals : List ℕ) (set : CodedDataSet) : Type 0 where
  pub contents : BlockData
  pub blocks : blocks_in s b set ≡ contents ∷ []
  pub block : IsBlock s b contents
  pub reference_is : contents.reference ≡ head.reference
  pub run : RunIsSound s b set
  pub reported : head.sound ≡ true → ResidualsAreSound s set × IsZeroAtReference contents × AllFit s contents × (contents.residuals ≡ residuals)
  pub refused : head.sound ≡ false → ResidualsAreSound s set → ⊥

-- what is known of a coded data set by its head and residuals
abbrev pub DescribesSet : Parameters → ℕ → SetSummary → List ℕ → CodedDataSet → Type 0
DescribesSet s b (Residuals head) residuals set = DescribesBlock s b head residuals set
DescribesSet s b (Zeros reference zeros) residuals set = set ≡ run_with_zeros reference zeros

-- A reader took what follows `head` in a data set that begins with it, sound or not.
pub record SetRead {I : Type 0} (head : List Bool) (old new : Reader I) (old_steps new_steps : ℕ) (s : Parameters) (b : ℕ) (taken : SetSummary) (residuals : List ℕ) : Type 0 where
  pub set : CodedDataSet
  pub form : IsForm s b set
  pub rest : List Bool
  pub begins : bits_of_set s set ≡ head ++ rest
  pub takes : Takes old new rest
  pub tells : DescribesSet s b taken residuals set
  -- each bit and each turn of the search is a step
  pub steps : new_steps + old.taken ≡ old_steps + new.taken + turns set

-- A reader took all that was left and refused, and no data set begins with `head` and this.
pub record SetCut {I : Type 0} (head : List Bool) (old new : Reader I) (old_steps new_steps : ℕ) (s : Parameters) (b : ℕ) (fault : BitFault) : Type 0 where
  pub bits : List Bool
  pub stops : Stops old new bits fault
  pub none : (d : CodedDataSet) (more : List Bool) → IsForm s b d → head ++ bits ≡ bits_of_set s d ++ more → ⊥
  -- where no bit is a 1, each bit is a step, and nothing else is
  pub steps : is_blank bits ≡ true → new_steps + old.taken ≡ old_steps + new.taken
