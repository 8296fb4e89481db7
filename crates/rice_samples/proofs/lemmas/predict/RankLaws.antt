-- The rank of a sample, which goes by levels, as a count over all samples and as the standard's fold.
use Rattle.std.proofs.Common.{◌≡◌, ℕ, zero, suc, ◌+◌, ◌*◌, ◌<◌, ◌≤◌, nat_lt, map, refl, ap, arith, ◌∙◌, ◌⊎◌, inl, inr, ℤ, pos, negsuc, ◌≤ℤ◌, ◌+ℤ◌}
use Rattle.std.{proofs.lemmas.Bool.Decides.nat_tests, proofs.lemmas.Grind.common_steps, specs.Int.int_gap, specs.Int.abs_diff, specs.List.range_with_len, specs.Prelude.count_by}
use Rattle.std.proofs.lemmas.Int.{ints}
use Rattle.rice_samples.specs.{Parameters.Parameters, Parameters.IsSample, Parameters.least, Parameters.level, Parameters.value_count, Laws.distance, Laws.nearer_count, Laws.IsSecondOfTwo}
use Rattle.rice_samples.{specs.Residuals.nearer, specs.Residuals.rank, specs.Residuals.rank_below, proofs.lemmas.predict.Ranks.nearer_is_count}

-- a value is the least one and its level
pub gap_is : (z x : ℤ) → z ≤ℤ x → x ≡ z +ℤ pos (int_gap z x)
gap_is (pos a) (pos x) h = omega (arith, ints)
gap_is (pos a) (negsuc x) h = absurd (omega (arith, ints))
gap_is (negsuc a) (pos x) h = omega (arith, ints)
gap_is (negsuc a) (negsuc x) h = omega (arith, ints)

-- a value is not above what it is with a number added
pub above_least : (z : ℤ) (l : ℕ) → z ≤ℤ (z +ℤ pos l)
above_least z l = omega (arith, ints)

-- and the gap between both is this number
pub gap_above : (z : ℤ) (l : ℕ) → int_gap z (z +ℤ pos l) ≡ l
gap_above z l = let e = gap_is z (z +ℤ pos l) (above_least z l) in omega (arith, ints)

distance_levels : (z p x : ℤ) → z ≤ℤ p → z ≤ℤ x → distance p x ≡ abs_diff (int_gap z p) (int_gap z x)
distance_levels (pos a) (pos p) (pos x) h k = omega (arith, ints)
distance_levels (pos a) (pos p) (negsuc x) h k = absurd (omega (arith, ints))
distance_levels (pos a) (negsuc p) x h k = absurd (omega (arith, ints))
distance_levels (negsuc a) (pos p) (pos x) h k = omega (arith, ints)
distance_levels (negsuc a) (pos p) (negsuc x) h k = omega (arith, ints)
distance_levels (negsuc a) (negsuc p) (pos x) h k = omega (arith, ints)
distance_levels (negsuc a) (negsuc p) (negsuc x) h k = omega (arith, ints)

-- the values that are nearer than d, counted by their levels
counted_by_levels : (z p : ℤ) (d a n : ℕ) → z ≤ℤ p →
    count_by (λ y. nat_lt (distance p y) d) (map (λ l. z +ℤ pos l) (range_with_len a n)) ≡ count_by (λ l. nat_lt (abs_diff (int_gap z p) l) d) (range_with_len a n)
counted_by_levels z p d a zero h = refl
counted_by_levels z p d a (suc n) h = grind (arith, common_steps, distance_levels, above_least, gap_above, nat_lt, counted_by_levels z p d (a + 1) n h)

-- the legal values nearer to p than x, counted one by one, are as many as the overlap by levels says
pub nearer_count_is : (s : Parameters) (p x : ℤ) → IsSample s p → IsSample s x → nearer_count s p x ≡ nearer (value_count s) (level s p) (level s x)
nearer_count_is s p x hp hx =
    counted_by_levels (least s) p (distance p x) 0 (value_count s) hp.0
    ∙ (ap (λ d. count_by (λ l. nat_lt (abs_diff (level s p) l) d) (range_with_len 0 (value_count s))) (distance_levels (least s) p x hp.0 hx.0)
    ∙ nearer_is_count (value_count s) (level s p) (level s x))

-- the second of two values as near, by levels
second_levels : (s : Parameters) (p x : ℤ) → IsSample s p → IsSample s x → IsSecondOfTwo s p x → (level s p < level s x) × (level s x ≤ 2 * level s p)
second_levels s p x hp hx h = grind (arith, common_steps, gap_is)

second_of_levels : (s : Parameters) (p x : ℤ) → IsSample s p → IsSample s x → level s p < level s x → level s x ≤ 2 * level s p → IsSecondOfTwo s p x
second_of_levels s p x hp hx lt le = grind (arith, common_steps, gap_is, gap_above)

with_tie : (count p x : ℕ) → p < x → x ≤ 2 * p → rank_below count p x ≡ nearer count p x + 1
with_tie count p x lt le = grind (arith, nat_tests)

without_tie : (count p x : ℕ) → (x ≤ p) ⊎ (2 * p < x) → rank_below count p x ≡ nearer count p x
without_tie count p x (inl le) = grind (arith, nat_tests)
without_tie count p x (inr lt) = grind (arith, nat_tests)

-- where x is the second of two values as near, its rank is one more than the number of nearer values
pub rank_of_second : (s : Parameters) (p x : ℤ) → IsSample s p → IsSample s x → IsSecondOfTwo s p x → rank s p x ≡ nearer_count s p x + 1
rank_of_second s p x hp hx h = grind (arith, common_steps, second_levels, with_tie, nearer_count_is)

-- and else it is this number
pub rank_of_other : (s : Parameters) (p x : ℤ) → IsSample s p → IsSample s x → (IsSecondOfTwo s p x → ⊥) → rank s p x ≡ nearer_count s p x
rank_of_other s p x hp hx h = grind (arith, common_steps, without_tie, nearer_count_is, second_of_levels)
