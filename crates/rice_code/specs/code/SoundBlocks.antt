-- Blocks that a coded data set can carry.
use Rattle.std.specs.Prelude.{◌≡◌, ℕ, ◌+◌, ◌<◌, List, [], ◌∷◌, length, Option, IfSome}
use Rattle.rice_samples.specs.Parameters.{Parameters, value_count}
use Rattle.rice_code.specs.{code.Blocks.BlockData, code.Forms.IsBlock, code.Forms.IsZeroAtReference, code.Forms.AllFit}

-- a block with this reference, if there is one, and these residuals
abbrev pub block_with : Option ℕ → List ℕ → BlockData
block_with reference residuals = record { reference = reference; residuals = residuals }

-- J residuals that fit, with 0 at the reference place, and a reference that fits
pub record IsSoundData (s : Parameters) (c : BlockData) : Type 0 where
  pub len : length c.residuals ≡ s.block
  pub fit : AllFit s c
  pub reference : IfSome c.reference (λ v. v < value_count s)
  pub zero : IsZeroAtReference c

-- sound data of block b, which has a reference just where it must
pub record IsSoundBlock (s : Parameters) (b : ℕ) (c : BlockData) : Type 0 where
  pub block : IsBlock s b c
  pub at_reference : IsZeroAtReference c
  pub fit : AllFit s c

-- and of several, from block b on
abbrev pub AreSoundBlocks : Parameters → ℕ → List BlockData → Type 0
AreSoundBlocks s b [] = Unit {0}
AreSoundBlocks s b (c ∷ cs) = IsSoundBlock s b c × AreSoundBlocks s (b + 1) cs
