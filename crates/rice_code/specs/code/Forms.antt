-- Which coded data sets a decoder takes at a block, and which of them are sound (own rules, wider than what the coder writes).
use Rattle.std.specs.Prelude.{◌≡◌, ℕ, ◌+◌, ◌-◌, ◌<◌, ◌≤◌, List, [], ◌∷◌, ◌++◌, length, replicate, All, slice_index, Option, None, IfSome, OnSome, is_some, ⊤}
use Rattle.rice_samples.specs.{Parameters.Parameters, Parameters.k_max, Parameters.value_count, Places.is_reference, Places.blocks_left}
use Rattle.rice_code.specs.code.CodedDataSets.{CodedDataSet, NoCompression, SecondExtension, Split, ZeroBlocks, RemainderOfSegment}
use Rattle.rice_code.specs.code.Blocks.{BlockData, zero_block}

-- a reference where block b has one, and a word of n bits
pub record IsReference (s : Parameters) (b : ℕ) (reference : Option ℕ) : Type 0 where
  pub there : is_some reference ≡ is_reference s b
  pub fits : IfSome reference (λ v. v < value_count s)

-- the value at the reference place, if there is one, is 0
abbrev pub IsZeroAtReference : BlockData → Type 0
IsZeroAtReference c = OnSome c.reference (slice_index c.residuals 0 ≡ 0)

pub record IsBlock (s : Parameters) (b : ℕ) (c : BlockData) : Type 0 where
  pub reference : IsReference s b c.reference
  pub len : length c.residuals ≡ s.block

abbrev pub AllFit : Parameters → BlockData → Type 0
AllFit s c = All (λ d. d < value_count s) c.residuals

-- a coded data set at block b, sound or not: what the bits can say
abbrev pub IsForm : Parameters → ℕ → CodedDataSet → Type 0
IsForm s b (NoCompression c) = IsBlock s b c × IsZeroAtReference c × AllFit s c
IsForm s b (SecondExtension c) = IsBlock s b c
IsForm s b (Split k c) = IsBlock s b c × IsZeroAtReference c × (k ≤ k_max s)
IsForm s b (ZeroBlocks reference z) = IsReference s b reference × (1 ≤ z)
IsForm s b (RemainderOfSegment reference) = IsReference s b reference

-- the run stays in the segment, with a codeword of at most 63 zeros
abbrev pub RunIsSound : Parameters → ℕ → CodedDataSet → Type 0
RunIsSound s b (ZeroBlocks reference z) = (z ≤ blocks_left s b) × (z ≤ 63)
RunIsSound s b _ = ⊤

-- each residual is one, and 0 at the reference place
abbrev pub ResidualsAreSound : Parameters → CodedDataSet → Type 0
ResidualsAreSound s (SecondExtension c) = IsZeroAtReference c × AllFit s c
ResidualsAreSound s (Split k c) = AllFit s c
ResidualsAreSound s _ = ⊤

-- so many blocks of zeros, of which the first may have a reference
abbrev pub zero_blocks : Parameters → Option ℕ → ℕ → List BlockData
zero_blocks s reference z = zero_block s reference ∷ replicate (z - 1) (zero_block s None)

-- the blocks that a coded data set at block b stands for
abbrev pub blocks_in : Parameters → ℕ → CodedDataSet → List BlockData
blocks_in s b (NoCompression c) = c ∷ []
blocks_in s b (SecondExtension c) = c ∷ []
blocks_in s b (Split k c) = c ∷ []
blocks_in s b (ZeroBlocks reference z) = zero_blocks s reference z
blocks_in s b (RemainderOfSegment reference) = zero_blocks s reference (blocks_left s b)

-- those of several, one after the other
abbrev pub blocks_in_all : Parameters → ℕ → List CodedDataSet → List BlockData
blocks_in_all s b [] = []
blocks_in_all s b (d ∷ ds) = blocks_in s b d ++ blocks_in_all s (b + length (blocks_in s b d)) ds
