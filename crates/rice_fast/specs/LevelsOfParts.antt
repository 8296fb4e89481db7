-- Levels of samples whose residuals have these high and low parts, and the sums by which they are restored in the lanes of a vector.
use Rattle.std.specs.Prelude.{◌≡◌, ℕ, ◌<◌, List, All, length, cond, map, ◌+◌, ◌%◌, [], ◌∷◌}
use Rattle.rice_bits.specs.Bits.{joined_parts}
use Rattle.rice_samples.specs.{Parameters.Parameters, Parameters.value_count, Residuals.ranks_below, Parameters.values_at, Residuals.pattern}

-- Levels of samples, the first after one at level p, have residuals with these high parts and these low parts of `width` bits.
pub record AreLevelsOfParts (s : Parameters) (p width : ℕ) (highs lows levels : List ℕ) : Type 0 where
  pub len : length levels ≡ length highs
  pub legal : All (λ l. l < value_count s) levels
  pub ranked : ranks_below (value_count s) p levels ≡ joined_parts width highs lows

-- the residuals of samples at these levels, the first after one at level p: their ranks, or, where samples are not predicted, their patterns
abbrev pub residuals_at : Parameters → ℕ → List ℕ → List ℕ
residuals_at s p levels = cond s.preprocess (ranks_below (value_count s) p levels) (map (pattern s) (values_at s levels))

-- Levels of samples, the first after one at level p, have these residuals.
pub record HaveResiduals (s : Parameters) (p : ℕ) (residuals levels : List ℕ) : Type 0 where
  pub legal : All (λ l. l < value_count s) levels
  pub are : residuals_at s p levels ≡ residuals

-- They have residuals with these high parts and these low parts of `width` bits.
pub record HaveParts (s : Parameters) (p width : ℕ) (highs lows levels : List ℕ) : Type 0 where
  pub len : length levels ≡ length highs
  pub legal : All (λ l. l < value_count s) levels
  pub residuals : residuals_at s p levels ≡ joined_parts width highs lows

-- for each number, the sum of `before`, the numbers before it and its own
abbrev pub running_sums : (count before : ℕ) → List ℕ → List ℕ
running_sums count before [] = []
running_sums count before (x ∷ xs) = (before + x) % count ∷ running_sums count ((before + x) % count) xs
