-- Each number below the count of values is the pattern of a sample, its level, and its rank from each other sample.
use Rattle.std.proofs.Common.{◌≡◌, ℕ, zero, suc, ◌+◌, ◌-◌, ◌^◌, ◌<◌, ◌≤◌, Bool, true, false, cond, refl, arith, inl, inr, ℤ, pos, negsuc, neg_ℤ, ◌≤ℤ◌}
use Rattle.std.{proofs.lemmas.Bool.Decides.nat_tests, proofs.lemmas.Grind.common_steps, proofs.lemmas.Bool.cases_lt, proofs.lemmas.Nat.pow_pos, proofs.lemmas.Int.ints, specs.Int.int_gap}
use Rattle.rice_samples.specs.Parameters.{Parameters, IsSample, level, value_count}
use Rattle.rice_samples.proofs.lemmas.{predict.Ranks.number_with, predict.Ranks.rank_of_number, setting.LevelsOfSamples.half_pow}
use Rattle.rice_samples.specs.Residuals.{twos_complement, pattern, rank}

-- a value from the least one on
abbrev Value : ℤ → ℕ → ℤ → Type 0
Value least n x = (least ≤ℤ x) × (int_gap least x < 2 ^ n)

signed_pattern : (n half v : ℕ) → 2 ^ n ≡ half + half → 0 < half → v < 2 ^ n → (x : ℤ) × Value (neg_ℤ (pos half)) n x × (twos_complement n x ≡ v)
signed_pattern n zero v e lt h = absurd (omega arith)
signed_pattern n (suc half) v e lt h =
    elim (cases_lt v (suc half)) [
      | inl low ↦ (pos v, (omega (arith, ints), omega (arith, ints)), refl)
      | inr high ↦ (negsuc (2 ^ n - 1 - v), (omega (arith, ints), omega (arith, ints)), omega arith)
    ]

unsigned_pattern : (n v : ℕ) → v < 2 ^ n → (x : ℤ) × Value (pos 0) n x × (twos_complement n x ≡ v)
unsigned_pattern n v h = (pos v, (omega (arith, ints), omega (arith, ints)), refl)

-- each number below the count of values is the pattern of a sample
pub has_pattern : (s : Parameters) → 1 ≤ s.bits → (v : ℕ) → v < value_count s → (x : ℤ) × IsSample s x × (pattern s x ≡ v)
has_pattern s h v lt = by_sign s.signed s.bits h lt
  where
    by_sign : (signed : Bool) (n : ℕ) → 1 ≤ n → v < 2 ^ n → (x : ℤ) × Value (cond signed (neg_ℤ (pos (2 ^ (n - 1)))) (pos 0)) n x × (twos_complement n x ≡ v)
    by_sign true n h lt = signed_pattern n (2 ^ (n - 1)) v (half_pow n h) (pow_pos (n - 1)) lt
    by_sign false n h lt = unsigned_pattern n v lt

signed_level : (n half l : ℕ) → 2 ^ n ≡ half + half → 0 < half → l < 2 ^ n → (x : ℤ) × Value (neg_ℤ (pos half)) n x × (int_gap (neg_ℤ (pos half)) x ≡ l)
signed_level n zero l e lt h = absurd (omega arith)
signed_level n (suc half) l e lt h =
    elim (cases_lt l (suc half)) [
      | inl low ↦ (negsuc (half - l), (omega (arith, ints), omega (arith, ints)), omega (arith, ints))
      | inr high ↦ (pos (l - suc half), (omega (arith, ints), omega (arith, ints)), omega (arith, ints))
    ]

-- and the level of one
pub has_level : (s : Parameters) → 1 ≤ s.bits → (l : ℕ) → l < value_count s → (x : ℤ) × IsSample s x × (level s x ≡ l)
has_level s h l lt = by_sign s.signed s.bits h lt
  where
    by_sign : (signed : Bool) (n : ℕ) → 1 ≤ n → l < 2 ^ n →
        (x : ℤ) × Value (cond signed (neg_ℤ (pos (2 ^ (n - 1)))) (pos 0)) n x × (int_gap (cond signed (neg_ℤ (pos (2 ^ (n - 1)))) (pos 0)) x ≡ l)
    by_sign true n h lt = signed_level n (2 ^ (n - 1)) l (half_pow n h) (pow_pos (n - 1)) lt
    by_sign false n h lt = (pos l, (omega (arith, ints), omega (arith, ints)), omega (arith, ints))

number_fits : (count p d : ℕ) → p < count → d < count → number_with count p d < count
unfolding number_with
number_fits count p d hp hd = grind (arith, nat_tests)

-- and, from any sample p, the rank of one
pub has_rank : (s : Parameters) → 1 ≤ s.bits → (p : ℤ) → IsSample s p → (d : ℕ) → d < value_count s → (x : ℤ) × IsSample s x × (rank s p x ≡ d)
has_rank s h p hp d lt =
    let n = number_with (value_count s) (level s p) d in
    let x = has_level s h n (number_fits (value_count s) (level s p) d hp.1 lt) in
    grind (arith, common_steps, rank_of_number)
