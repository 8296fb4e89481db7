-- What the coder looks at in order to code blocks. A look at a residual is a step.
use Rattle.std.specs.Prelude.{ℕ, ◌+◌, ◌-◌, ◌*◌, min, if◌then◌else◌, List, sum_by, ℤ, pos}
use Rattle.rice_samples.specs.Parameters.{Parameters, k_max}
use Rattle.rice_code.specs.{Bounds.block_bound, code.Choice.best_split, code.Code.code_bits, code.Blocks.BlockData, code.Blocks.blocks_of, code.Blocks.is_zero_block}

-- the least and the most looks at residuals that coding a block takes
abbrev pub least_looks : Parameters → BlockData → ℕ
least_looks s c = if is_zero_block c then s.block else s.block * (best_split s c + 3) - 1

abbrev pub most_looks : Parameters → BlockData → ℕ
most_looks s c = if is_zero_block c then s.block else s.block * (min (best_split s c + 1) (k_max s) + 5)

-- the least and the most looks that coding all blocks of samples takes
abbrev pub least_looks_at : Parameters → List ℤ → ℕ
least_looks_at s xs = sum_by (least_looks s) (blocks_of s 0 (pos 0) xs)

abbrev pub most_looks_at : Parameters → List ℤ → ℕ
most_looks_at s xs = sum_by (most_looks s) (blocks_of s 0 (pos 0) xs)

-- the least and the most steps of coding samples, those for the samples aside: a step is a bit put, padding aside, or a look
abbrev pub least_steps : Parameters → List ℤ → ℕ
least_steps s xs = code_bits s xs + least_looks_at s xs

abbrev pub most_steps : Parameters → List ℤ → ℕ
most_steps s xs = code_bits s xs + most_looks_at s xs

-- the most steps of coding a segment, its samples included
abbrev pub segment_steps : Parameters → ℕ
segment_steps s = 64 * (block_bound s + s.block * (k_max s + 6))

-- and those for the samples aside
abbrev pub coding_steps : Parameters → ℕ
coding_steps s = 64 * (block_bound s + s.block * (k_max s + 5))
