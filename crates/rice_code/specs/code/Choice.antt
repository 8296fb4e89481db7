-- The option that is chosen for a block: the one of least length, of several the first.
use Rattle.std.specs.Prelude.{ℕ, ◌+◌, ◌<◌, ◌≤◌, nat_lt, List, ◌∷◌, map}
use Rattle.std.specs.List.{best_of, range_with_len}
use Rattle.rice_samples.specs.Parameters.{Parameters, k_max}
use Rattle.rice_code.specs.code.{CodedDataSets.CodedDataSet, CodedDataSets.NoCompression, CodedDataSets.SecondExtension, CodedDataSets.Split, CodedDataSets.cost, Blocks.BlockData}

-- the options after no compression, in the order in which ties go (own rule)
abbrev pub other_options : Parameters → BlockData → List CodedDataSet
other_options s c = SecondExtension c ∷ map (λ k. Split k c) (range_with_len 0 (k_max s + 1))

-- the first option of least length (CCSDS 121.0-B-3, section 3: code selection; ties by an own rule)
abbrev pub shortest : Parameters → BlockData → CodedDataSet
shortest s c = best_of (λ x y. nat_lt (cost s x) (cost s y)) (NoCompression c) (other_options s c)

-- k is the smallest of the splits of least length
pub record IsBestSplit (s : Parameters) (c : BlockData) (k : ℕ) : Type 0 where
  pub at_most : k ≤ k_max s
  pub least : (j : ℕ) → j ≤ k_max s → cost s (Split k c) ≤ cost s (Split j c)
  pub first : (j : ℕ) → j < k → cost s (Split k c) < cost s (Split j c)

-- that k
abbrev pub best_split : Parameters → BlockData → ℕ
best_split s c = best_of (λ j k. nat_lt (cost s (Split j c)) (cost s (Split k c))) 0 (range_with_len 1 (k_max s))
