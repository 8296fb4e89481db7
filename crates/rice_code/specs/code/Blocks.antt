-- The blocks that samples make. (CCSDS 121.0-B-3, section 3: blocks of J samples.)
use Rattle.std.specs.Prelude.{ℕ, zero, suc, ◌+◌, ◌-◌, ◌*◌, ◌%◌, ◌==◌, Bool, if◌then◌else◌, List, [], ◌∷◌, take, drop, length, replicate, slice_index_or, Option, Some, None, ℤ}
use Rattle.std.specs.List.{list_all}
use Rattle.rice_samples.specs.{Residuals.pattern, Residuals.residuals, Residuals.last_of, Residuals.filled_samples, Places.is_reference, Places.block_count, Parameters.Parameters}

-- what a block says: its reference sample as a word, where it has one, and its residuals, with 0 at the reference place
pub record BlockData : Type 0 where
  pub reference : Option ℕ
  pub residuals : List ℕ

-- what block b says where it has these samples, after p
abbrev pub block_data : Parameters → ℕ → ℤ → List ℤ → BlockData
block_data s b p xs = record { reference = if is_reference s b then Some (pattern s (slice_index_or xs 0 p)) else None; residuals = residuals s (s.block * b) p xs }

-- the blocks that samples make, so many from block b on, after p
abbrev pub blocks_from : Parameters → ℕ → ℤ → ℕ → List ℤ → List BlockData
blocks_from s b p zero xs = []
blocks_from s b p (suc count) xs = block_data s b p (take s.block xs) ∷ blocks_from s (b + 1) (last_of p (take s.block xs)) count (drop s.block xs)

-- the blocks of all these samples, from block b on, after p
abbrev pub blocks_of : Parameters → ℕ → ℤ → List ℤ → List BlockData
blocks_of s b p xs = blocks_from s b p (block_count s (length xs)) (filled_samples s p xs)

-- how many samples fill the last block, after n samples
abbrev pub fill_count : Parameters → ℕ → ℕ
fill_count s n = (s.block - n % s.block) % s.block

-- all its residuals are 0, that at the reference place included
abbrev pub is_zero_block : BlockData → Bool
is_zero_block c = list_all (λ d. d == 0) c.residuals

-- a block of zeros
abbrev pub zero_block : Parameters → Option ℕ → BlockData
zero_block s reference = record { reference = reference; residuals = replicate s.block 0 }
