-- Second extension is longer than a split that saves bits.
use Rattle.std.proofs.lemmas.Grind.{common_steps}
use Rattle.std.proofs.Common.{◌≡◌, ℕ, zero, suc, ◌+◌, ◌*◌, ◌/◌, ◌^◌, ◌<◌, ◌≤◌, List, [], ◌∷◌, length, ap, arith, Option, Some, None}
use Rattle.rice_code.proofs.Words.{sum_by, mul-le-mul_left, sum_by-cons, pair_code, pair_codes, Parameters, BlockData, IsBestSplit, SecondExtension, Split, cost, sent_residuals, sent_from}

-- the codeword of a pair is no shorter than twice its sum
half_square : (s : ℕ) → 2 * s ≤ s * (s + 1) / 2 + 1
half_square zero = omega arith
half_square (suc zero) = omega arith
half_square (suc (suc t)) = let e : suc (suc t) * (suc (suc t) + 1) ≡ t * t + 5 * t + 6 = omega arith in let f = ap (λ n. n / 2) e in omega (arith, f)

pair_long : (a b : ℕ) → 2 * (a + b) ≤ pair_code a b + 1
pair_long a b = let h = half_square (a + b) in omega (arith, h)

pairs_long : (n : ℕ) (ds : List ℕ) → length ds ≡ 2 * n → 2 * sum_by (λ d. d / 2 ^ 0) ds ≤ sum_by (λ g. g + 1) (pair_codes ds)
pairs_long n [] e = omega arith
pairs_long (suc n) (a ∷ b ∷ ds) e = grind (arith, common_steps, pair_long, sum_by-cons, pairs_long n ds (omega arith))
pairs_long _ _ e = absurd (omega arith)

coded_few : (f : ℕ → ℕ) (r : Option ℕ) (ds : List ℕ) → sum_by f (sent_from r ds) ≤ sum_by f ds
coded_few f None ds = omega arith
coded_few f (Some v) [] = omega arith
coded_few f (Some v) (d ∷ ds) = let p = sum_by-cons f d ds in omega (arith, p)

-- so where the best split is above 0, it is shorter than second extension
pub pairs_are_longer : (s : Parameters) (c : BlockData) (k n : ℕ) → IsBestSplit s c k → 0 < k → length c.residuals ≡ 2 * n → cost s (Split k c) < cost s (SecondExtension c)
pairs_are_longer s c k n h some even =
    let first = h.first 0 some in
    let more : length (sent_residuals c) * 1 ≤ length (sent_residuals c) * k = mul-le-mul_left (length (sent_residuals c)) some in
    let pairs = pairs_long n c.residuals even in
    grind (arith, common_steps, coded_few)
