-- The least value of a sample, and the values above it by their levels.
use Rattle.std.proofs.Common.{◌≡◌, ℕ, ◌<◌, arith, ℤ, pos, negsuc, ◌≤ℤ◌, ◌+ℤ◌, ◌-ℤ◌}
use Rattle.std.{proofs.lemmas.Int.ints, specs.Int.int_gap}
use Rattle.rice_samples.specs.Parameters.{Parameters, IsSample, least, value_count}

-- the gap is the difference
pub gap_is : (l x : ℤ) → l ≤ℤ x → pos (int_gap l x) ≡ x -ℤ l
gap_is (pos a) (pos x) h = omega (arith, ints)
gap_is (pos a) (negsuc x) h = absurd (omega (arith, ints))
gap_is (negsuc a) (pos x) h = omega (arith, ints)
gap_is (negsuc a) (negsuc x) h = omega (arith, ints)

-- the value with this level
pub gap_above : (l : ℤ) (n : ℕ) → int_gap l (l +ℤ pos n) ≡ n
gap_above l n = let h : l ≤ℤ (l +ℤ pos n) = omega (arith, ints) in omega (arith, ints, gap_is l (l +ℤ pos n) h)

-- the least value, with a number below the count of values added, is a sample
pub sample_at : (s : Parameters) (n : ℕ) → n < value_count s → IsSample s (least s +ℤ pos n)
sample_at s n h = (omega (arith, ints), rw (gap_above (least s) n) h)
