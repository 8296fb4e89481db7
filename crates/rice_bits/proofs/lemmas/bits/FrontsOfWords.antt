-- The fronts of words, and the first 1 of one.
use Rattle.std.proofs.Common.{◌≡◌, ℕ, zero, suc, ◌+◌, ◌-◌, ◌*◌, ◌/◌, ◌%◌, ◌^◌, ◌<◌, ◌≤◌, false, ◌++◌, take, replicate, sym, ◌∙◌, ap, arith}
use Rattle.std.proofs.lemmas.{Nat.div-mul-add, Nat.leading_top, Nat.mod-mul-add, Nat.mod_below, Nat.pow-add, Nat.pow_pos, Nat.shr_below, Nat.shr_split, Grind.common_steps}
use Rattle.std.proofs.Math.{Seq.take-append_seam, Nat.pow-suc}
use Rattle.rice_bits.proofs.lemmas.bits.WordsAndNumbers.{length-word, shift_fits, word-cat, word-fs, word-split, word-zero}
use Rattle.rice_bits.{proofs.lemmas.bits.EightBytes.word-mod, specs.Bits.word, specs.Bits.fundamental_sequence}
use lib.Count.{count_leading_zeros, leading_of_zero}

-- the first digits of a number are a number of so many digits
pub front_below : (w n v : ℕ) → n ≤ w → v < 2 ^ w → v / 2 ^ (w - n) < 2 ^ n
front_below w n v h p = grind (arith, common_steps, shr_below)

-- what stands before the digits after the first 1 is that 1
pub one_high : (v : ℕ) → 0 < v → v < 2 ^ 64 → 1 ≡ v / 2 ^ (63 - count_leading_zeros 64 v)
one_high v p h =
    let t = leading_top 64 v p h in
    let j : 63 - count_leading_zeros 64 v ≡ t.0 = omega (arith, t.1) in
    grind (arith, common_steps, pow-suc, div-mul-add)

-- a number is its first digits and the others
pub word-parts : (size n m : ℕ) → n ≤ size → word size m ≡ word n (m / 2 ^ (size - n)) ++ word (size - n) m
word-parts size n m h =
    let e : n + (size - n) ≡ size = omega arith in
    ap (λ k. word k m) (sym e) ∙ (word-split n (size - n) m ∙ ap (λ v. word n (m / 2 ^ (size - n)) ++ v) (word-mod (size - n) (size - n) m (omega arith)))

-- the others stand at the front when the first are moved out
pub word-moved : (size n m : ℕ) → n ≤ size → word size (m * 2 ^ n % 2 ^ size) ≡ word (size - n) m ++ replicate n false
word-moved size n m h =
    let e : (size - n) + n ≡ size = omega arith in
    let plain : m * 2 ^ n + 0 ≡ m * 2 ^ n = omega arith in
    grind (arith, common_steps, word-mod, word-cat, pow_pos, word-zero)

-- the first digits of a word are those of the number without its other digits
pub take-front : (size n m : ℕ) → n ≤ size → take n (word size m) ≡ word n (m / 2 ^ (size - n))
take-front size n m h =
    let front = word n (m / 2 ^ (size - n)) in
    ap (take n) (word-parts size n m h) ∙ (ap (λ k. take k (front ++ word (size - n) m)) (sym (length-word n (m / 2 ^ (size - n)))) ∙ take-append_seam front (word (size - n) m))

-- the digits up to and with the first 1
pub first_run : (m : ℕ) → count_leading_zeros 64 m < 64 → m < 2 ^ 64
    → word (count_leading_zeros 64 m + 1) (m / 2 ^ (64 - (count_leading_zeros 64 m + 1))) ≡ fundamental_sequence (count_leading_zeros 64 m)
first_run zero short fits = absurd (omega (arith, short, leading_of_zero 64))
first_run (suc m) short fits =
    let z = count_leading_zeros 64 (suc m) in
    let e : 64 - (z + 1) ≡ 63 - z = omega arith in
    ap (λ k. word (z + 1) (suc m / 2 ^ k)) e ∙ (ap (word (z + 1)) (sym (one_high (suc m) (omega arith) fits)) ∙ word-fs z)

add-mul-mul : (q p r s m : ℕ) → p * s ≡ m → (q * p + r) * s ≡ q * m + r * s
add-mul-mul q p r s m e = rw (← e) (grind arith)

-- digits after the first ones, at the front of 64
pub moved_up : (a d : ℕ) → a < 64 → d * 2 ^ (64 - a) % 2 ^ 64 ≡ d % 2 ^ a * 2 ^ (64 - a)
moved_up a d h =
    let s = 64 - a in
    let n : a + s ≡ 64 = omega arith in
    let power : 2 ^ a * 2 ^ s ≡ 2 ^ 64 = sym (pow-add 2 a s) ∙ ap (λ k. 2 ^ k) n in
    let low : d % 2 ^ a < 2 ^ a = mod_below d (2 ^ a) (pow_pos a) in
    ap (λ k. k * 2 ^ s % 2 ^ 64) (sym (shr_split d a))
    ∙ (ap (λ k. k % 2 ^ 64) (add-mul-mul (d / 2 ^ a) (2 ^ a) (d % 2 ^ a) (2 ^ s) (2 ^ 64) power)
    ∙ mod-mul-add (d / 2 ^ a) (2 ^ 64) (d % 2 ^ a * 2 ^ s) (shift_fits a s (d % 2 ^ a) low (omega arith)))
