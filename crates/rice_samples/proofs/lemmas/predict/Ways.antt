-- The way of a rank, by its digits.
use Rattle.std.proofs.Common.{◌≡◌, ℕ, zero, suc, ◌+◌, ◌-◌, ◌/◌, ◌%◌, ◌^◌, ◌<◌, refl, ◌∙◌, ap, arith}
use Rattle.std.{specs.Int.Bits.bit_xor, specs.Int.Bits.xor_add_and, specs.Int.Bits.xor_zero_r, proofs.Math.Nat.mod-eq_of_lt, proofs.Math.Nat.add-mod_right, specs.Prelude.bit_and}
use Rattle.std.proofs.lemmas.Nat.{and_mask, pow_pos}
use Rattle.rice_samples.specs.NearNumbers.{way}

-- half of a rank, with each of its k digits turned over where the rank is odd, is the way of this rank
pub way_lane : (k d : ℕ) → d < 2 ^ k → bit_xor (d / 2) ((0 + (2 ^ k - bit_and d 1)) % 2 ^ k) ≡ way (2 ^ k) d
way_lane k d h =
    let odd : bit_and d 1 ≡ d % 2 = and_mask d 1 in
    rw odd (by_digit (d % 2) (omega arith) refl)
  where
    some : 0 < 2 ^ k
    some = pow_pos k

    by_digit : (r : ℕ) → r < 2 → d % 2 ≡ r → bit_xor (d / 2) ((0 + (2 ^ k - d % 2)) % 2 ^ k) ≡ way (2 ^ k) d
    by_digit zero lt e =
        let s = some in
        let none : (0 + (2 ^ k - 0)) % 2 ^ k ≡ 0 = ap (λ n. n % 2 ^ k) (let f : 0 + (2 ^ k - 0) ≡ 0 + 2 ^ k = omega arith in f) ∙ (add-mod_right 0 (2 ^ k) ∙ mod-eq_of_lt s) in
        rw e (ap (bit_xor (d / 2)) none ∙ xor_zero_r (d / 2))
    by_digit (suc zero) lt e =
        let s = some in
        let ones : (0 + (2 ^ k - 1)) % 2 ^ k ≡ 2 ^ k - 1 = ap (λ n. n % 2 ^ k) (let f : 0 + (2 ^ k - 1) ≡ 2 ^ k - 1 = omega arith in f) ∙ mod-eq_of_lt (omega arith) in
        let small : d / 2 % 2 ^ k ≡ d / 2 = mod-eq_of_lt (omega arith) in
        let both = and_mask (d / 2) k in
        let sum = xor_add_and (d / 2) (2 ^ k - 1) in
        rw e (ap (bit_xor (d / 2)) ones ∙ omega (arith, small, both, sum))
    by_digit (suc (suc r)) lt e = absurd (omega arith)
