-- Whole blocks are not filled.
use Rattle.std.proofs.Common.{◌≡◌, ℕ, ◌-◌, ◌*◌, ◌/◌, ◌%◌, ◌≤◌, min, List, ◌++◌, length, replicate, ap, arith, ◌∙◌, append-nil, ℤ}
use Rattle.rice_code.proofs.Words.{next_multiple_of, mul-mod_right, mul-div_cancel_left, mod_self, Parameters, block_count, last_of, filled_samples, common_steps}

-- whole blocks are not filled
pub not_filled : (s : Parameters) (q : ℕ) (p : ℤ) (xs : List ℤ) → 1 ≤ s.block → length xs ≡ s.block * q → (filled_samples s p xs ≡ xs) × (block_count s (length xs) ≡ q)
not_filled s q p xs h e =
    let j = s.block in
    let r : length xs % j ≡ 0 = ap (λ n. n % j) e ∙ mul-mod_right j q in
    let d : length xs / j ≡ q = ap (λ n. n / j) e ∙ mul-div_cancel_left q h in
    let same : j - 0 ≡ j = omega arith in
    grind (arith, common_steps, mod_self, append-nil)
