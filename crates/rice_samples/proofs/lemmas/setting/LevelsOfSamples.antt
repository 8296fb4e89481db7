-- Samples are numbered by their levels.
use Rattle.std.proofs.Common.{◌≡◌, ℕ, zero, suc, ◌+◌, ◌-◌, ◌^◌, ◌<◌, ◌≤◌, Bool, true, false, cond, ap, arith, ℤ, pos, negsuc, neg_ℤ, ◌≤ℤ◌}
use Rattle.std.{proofs.lemmas.Grind.common_steps, proofs.lemmas.Nat.pow_pos, proofs.Math.Nat.pow-suc, proofs.lemmas.Int.ints, specs.Int.int_gap}
use Rattle.rice_samples.specs.{Parameters.Parameters, Parameters.IsSample, Parameters.least, Parameters.level, Parameters.value_count, Residuals.twos_complement, Residuals.pattern}

-- from the least value the gap tells the value
pub same_gap : (l x y : ℤ) → l ≤ℤ x → l ≤ℤ y → int_gap l x ≡ int_gap l y → x ≡ y
same_gap (pos a) (pos x) (pos y) h k e = ap (λ n. pos n) (omega (arith, ints))
same_gap (pos a) (pos x) (negsuc y) h k e = absurd (omega (arith, ints))
same_gap (pos a) (negsuc x) y h k e = absurd (omega (arith, ints))
same_gap (negsuc a) (pos x) (pos y) h k e = ap (λ n. pos n) (omega (arith, ints))
same_gap (negsuc a) (pos x) (negsuc y) h k e = absurd (omega (arith, ints))
same_gap (negsuc a) (negsuc x) (pos y) h k e = absurd (omega (arith, ints))
same_gap (negsuc a) (negsuc x) (negsuc y) h k e = ap (λ n. negsuc n) (omega (arith, ints))

-- samples with the same level are the same
pub same_level : (s : Parameters) (x y : ℤ) → IsSample s x → IsSample s y → level s x ≡ level s y → x ≡ y
same_level s x y h k e = same_gap (least s) x y h.0 k.0 e

-- a power of two, halved
pub half_pow : (n : ℕ) → 1 ≤ n → 2 ^ n ≡ 2 ^ (n - 1) + 2 ^ (n - 1)
half_pow zero h = absurd (omega arith)
half_pow (suc n) h = let e : suc n - 1 ≡ n = omega arith in let f = pow-suc 2 n in let g = ap (λ m. 2 ^ m) e in omega arith

fits_signed : (n half : ℕ) (x : ℤ) → 2 ^ n ≡ half + half → 0 < half → neg_ℤ (pos half) ≤ℤ x → int_gap (neg_ℤ (pos half)) x < 2 ^ n → twos_complement n x < 2 ^ n
fits_signed n zero x e lt h k = absurd (omega arith)
fits_signed n (suc half) (pos v) e lt h k = omega (arith, ints)
fits_signed n (suc half) (negsuc v) e lt h k = omega (arith, ints)

fits_unsigned : (n : ℕ) (x : ℤ) → pos 0 ≤ℤ x → int_gap (pos 0) x < 2 ^ n → twos_complement n x < 2 ^ n
fits_unsigned n (pos v) h k = omega (arith, ints)
fits_unsigned n (negsuc v) h k = absurd (omega (arith, ints))

-- the pattern of a sample is below the count of values
pub pattern_fits : (s : Parameters) (x : ℤ) → 1 ≤ s.bits → IsSample s x → pattern s x < value_count s
pattern_fits s x h k = grind (arith, common_steps, fits_signed, half_pow, fits_unsigned)

-- 0 is a legal value, signed or not
pub zero_is_sample : (s : Parameters) → 1 ≤ s.bits → IsSample s (pos 0)
zero_is_sample s h = by_sign s.signed s.bits h
  where
    signed : (n half : ℕ) → 2 ^ n ≡ half + half → 0 < half → (neg_ℤ (pos half) ≤ℤ pos 0) × (int_gap (neg_ℤ (pos half)) (pos 0) < 2 ^ n)
    signed n zero e h = absurd (omega arith)
    signed n (suc half) e h = (omega (arith, ints), omega (arith, ints))

    by_sign : (signs : Bool) (n : ℕ) → 1 ≤ n → (cond signs (neg_ℤ (pos (2 ^ (n - 1)))) (pos 0) ≤ℤ pos 0) × (int_gap (cond signs (neg_ℤ (pos (2 ^ (n - 1)))) (pos 0)) (pos 0) < 2 ^ n)
    by_sign true n h = signed n (2 ^ (n - 1)) (half_pow n h) (pow_pos (n - 1))
    by_sign false n h = (omega (arith, ints), pow_pos n)
