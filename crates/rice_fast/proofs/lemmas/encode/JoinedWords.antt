-- Words that are joined.
use Rattle.rice_fast.proofs.Words.{◌≡◌, ℕ, ◌+◌, ◌*◌, ◌^◌, ◌<◌, ◌≤◌, Bool, List, ◌++◌, length, ap, arith, sym, ◌∙◌, append_assoc, pow-le-pow_right, pow-add, pow_pos, word, length-word, word-cat}
use Rattle.rice_fast.proofs.Words.{join_below, IsShort}

-- the bits that a word of `width` digits spells are as many
pub length-word_is : (width value : ℕ) (bits : List Bool) → word width value ≡ bits → length bits ≡ width
length-word_is width value bits e = sym (ap length e) ∙ length-word width value

-- one field more
pub more_fields : {width value : ℕ} (more digits : ℕ) {joined total : ℕ} → IsShort width value → digits < 2 ^ more → width + more ≤ 56 → joined ≡ value * 2 ^ more + digits
    → total ≡ width + more → IsShort total joined
more_fields {width} {value} more digits h lt le e f = record {
  most = omega arith;
  digits = (let b = join_below width more value digits h.digits lt in let g = ap (λ n. 2 ^ n) f in omega (arith, b, g));
}

-- into a sink go the bits of a field and the word after it, or both as one joined word
pub joined_bits : (sink : List Bool) {bits : List Bool} (width value more digits : ℕ) {joined total : ℕ} → word width value ≡ bits → digits < 2 ^ more
    → joined ≡ value * 2 ^ more + digits → total ≡ width + more → sink ++ word total joined ≡ sink ++ bits ++ word more digits
joined_bits sink {bits} width value more digits e lt f g =
    (λ i. sink ++ word (g i) (f i)) ∙ (ap (λ v. sink ++ v) (word-cat width more value digits lt ∙ ap (λ v. v ++ word more digits) e) ∙ sym (append_assoc sink bits (word more digits)))

-- a one fits the width of its fundamental sequence
pub one_fits : (m : ℕ) → 1 < 2 ^ (m + 1)
one_fits m = let e : 2 ^ (m + 1) ≡ 2 ^ m * 2 = pow-add 2 m 1 in let some : 0 < 2 ^ m = pow_pos m in omega (arith, e, some)

-- a number moved up by the digits of another fits 64 bits, where both together have at most 56 digits
pub high_small : (width more v l : ℕ) → v < 2 ^ width → l < 2 ^ more → width + more ≤ 56 → v * 2 ^ more < 2 ^ 64
high_small width more v l h k few =
    let le : 2 ^ (width + more) ≤ 2 ^ 56 = pow-le-pow_right {n = 2} (omega arith) {i = width + more} {j = 56} few in
    omega (arith, le, join_below width more v l h k)
