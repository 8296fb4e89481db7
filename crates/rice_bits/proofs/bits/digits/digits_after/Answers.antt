use Rattle.std.proofs.Common.{get_or, refl, ◌≡◌, ℕ, zero, suc, ◌+◌, ◌-◌, ◌*◌, ◌/◌, ◌%◌, ◌^◌, ◌<◌, ◌≤◌, arith, ap, sym, ◌∙◌}
use Rattle.std.proofs.lemmas.{Nat.and_mask, Nat.mod-mul-add, Nat.or_mod, Nat.pow-add, Nat.pow_pos, List.FromFn.get_or-map-range_with_len, Grind.common_steps}
use Rattle.std.{specs.Prelude.bit_and, specs.Prelude.bit_or, specs.Prelude.map, specs.List.range_with_len, proofs.Math.Nat.mod-one}
use Rattle.rice_bits.{specs.declared.bits.digits.TheConstants.GREATEST, proofs.lemmas.bits.FrontsOfWords.moved_up}
use Rattle.rice_bits.proofs.bits.digits.digits_after.Goals as goal

-- the last digits of a number that is shifted past them are zeros
none-low : (v n width : ℕ) → width ≤ n → n < 64 → 0 < n → v * 2 ^ n % 2 ^ 64 % 2 ^ width ≡ 0
none-low v n width h few some =
    let size : 64 - (64 - n) ≡ n = omega arith in
    let parts : (n - width) + width ≡ n = omega arith in
    let x = v % 2 ^ (64 - n) in
    let up : v * 2 ^ n % 2 ^ 64 ≡ x * 2 ^ n = ap (λ k. v * 2 ^ k % 2 ^ 64) (sym size) ∙ (moved_up (64 - n) v (omega arith) ∙ ap (λ k. x * 2 ^ k) size) in
    let split : x * 2 ^ n ≡ x * 2 ^ (n - width) * 2 ^ width + 0 = ap (λ k. x * 2 ^ k) (sym parts) ∙ grind (arith, pow-add 2 (n - width) width) in
    ap (λ k. k % 2 ^ width) (up ∙ split) ∙ mod-mul-add (x * 2 ^ (n - width)) (2 ^ width) 0 (pow_pos width)

-- the digits that a rotation brings to the end
turned : (v n width : ℕ) → width ≤ n → n < 64 → bit_or (v * 2 ^ (n % 64) % 2 ^ 64) (v / 2 ^ ((64 - n % 64) % 64)) % 2 ^ width ≡ v / 2 ^ (64 - n) % 2 ^ width
turned v zero width h few = grind (arith, common_steps, mod-one)
turned v (suc k) width h few = grind (arith, common_steps, or_mod, none-low)

greatest : (width : ℕ) → width ≤ 32 → get_or GREATEST width 0 ≡ 2 ^ width - 1
greatest width h =
    let all : map (λ i. 2 ^ i - 1) (range_with_len 0 33) ≡ GREATEST = refl in
    ap (λ xs. get_or xs width 0) (sym all) ∙ get_or-map-range_with_len (λ i. 2 ^ i - 1) 0 33 width width 0 (omega arith) (omega arith)

pub returns : goal.returns
returns c =
    ap (bit_and c.rotate_left.result) (greatest c.args.width c.requires.width) ∙
    (and_mask c.rotate_left.result c.args.width ∙ (ap (λ z. z % 2 ^ c.args.width) c.rotate_left.ensures ∙ turned c.args.value (c.args.before + c.args.width) c.args.width (omega arith)
    c.requires.there))
