-- How the sum of numbers without their lowest digits falls.
use Rattle.std.proofs.Common.{◌≡◌, ℕ, ◌+◌, ◌*◌, ◌/◌, ◌^◌, ◌≤◌, ◌∙◌, List, [], ◌∷◌, sum_by, ap, arith, sym}
use Rattle.std.proofs.{lemmas.List.Sums.sum_by-cons, Math.Nat.div-div-eq-div-mul, lemmas.Nat.pow-add}

-- the numbers without their k lowest digits
abbrev pub cut_sum : List ℕ → ℕ → ℕ
cut_sum ds k = sum_by (λ d. d / 2 ^ k) ds

-- a digit fewer halves a number at least
digit_halves : (d k : ℕ) → d / 2 ^ (k + 1) + d / 2 ^ (k + 1) ≤ d / 2 ^ k
digit_halves d k =
    let e : 2 ^ (k + 1) ≡ 2 ^ k * 2 = pow-add 2 k 1 in
    let f : d / 2 ^ (k + 1) ≡ d / 2 ^ k / 2 = ap (λ n. d / n) e ∙ sym (div-div-eq-div-mul d (2 ^ k) 2) in
    omega (arith, f)

-- so it does the sum
pub sum_halves : (ds : List ℕ) (k : ℕ) → cut_sum ds (k + 1) + cut_sum ds (k + 1) ≤ cut_sum ds k
sum_halves [] k = omega arith
sum_halves (d ∷ ds) k =
    let a = sum_by-cons (λ d. d / 2 ^ k) d ds in
    let b = sum_by-cons (λ d. d / 2 ^ (k + 1)) d ds in
    omega (arith, sum_halves ds k, digit_halves d k)

-- so what one more digit saves never rises
pub sum_saving : (ds : List ℕ) (k : ℕ) → 2 * cut_sum ds (k + 1) ≤ cut_sum ds k + cut_sum ds (k + 2)
sum_saving ds k = omega (arith, sum_halves ds k)
