-- The codes of pairs, one pair after another.
use Rattle.std.proofs.Common.{◌≡◌, ℕ, zero, suc, ◌+◌, ◌*◌, ◌<◌, List, [], ◌∷◌, length, get_or, take, sum_by, refl, arith}
use Rattle.std.proofs.lemmas.{List.Sums.sum_by-cons, Grind.common_steps}
use Rattle.rice_samples.specs.Pairs.{pair_code, pair_codes}

-- one pair more adds its number and 1, the bits of its fundamental sequence, to the sum of those before it
pub pairs_more : (i : ℕ) (xs : List ℕ) → 2 * i + 1 < length xs →
    sum_by (λ g. g + 1) (pair_codes (take (2 * (i + 1)) xs)) ≡ sum_by (λ g. g + 1) (pair_codes (take (2 * i) xs)) + (pair_code (get_or xs (2 * i) 0) (get_or xs (2 * i + 1) 0) + 1)
pairs_more i [] h = absurd (omega arith)
pairs_more i (a ∷ []) h = absurd (omega arith)
pairs_more zero (a ∷ b ∷ xs) h = refl
pairs_more (suc i) (a ∷ b ∷ xs) h =
    let ih = pairs_more i xs (omega arith) in
    let f = λ (g : ℕ). g + 1 in
    let e : 2 * (suc i + 1) ≡ suc (suc (2 * (i + 1))) = omega arith in
    let k : 2 * suc i ≡ suc (suc (2 * i)) = omega arith in
    let l : 2 * suc i + 1 ≡ suc (suc (2 * i + 1)) = omega arith in
    let left = sum_by-cons f (pair_code a b) (pair_codes (take (2 * (i + 1)) xs)) in
    grind (arith, common_steps, sum_by-cons, sum_by, get_or, common_steps)
