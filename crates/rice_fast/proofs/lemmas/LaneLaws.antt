-- What the width of samples says of their bits, and their bytes where lanes are written.
use Rattle.rice_fast.proofs.Words.{◌≡◌, ℕ, ◌*◌, ◌^◌, ◌<◌, ◌≤◌, ◌∙◌, List, ap, arith, length, sym, take, take-take, Fits, w16, All, Each1, put_chunk, pow-le-pow_right, take_more_put_chunk, nat_tests}
use Rattle.rice_fast.proofs.Words.{Parameters, width, HasBits}
use Rattle.rice_fast.proofs.lemmas.vectors.NumbersInLanes.{each_of}

-- of these, those that have not three have four
pub four_bytes : (s : Parameters) → HasBits 16 32 s → (width s ≡ 3 → ⊥) → width s ≡ 4
four_bytes s has other = (let more = has.more in grind (arith, nat_tests))

-- words of at most 16 bits fit lanes of 16 bits
pub narrow_enough : (k : ℕ) (xs : List ℕ) → k ≤ 16 → All (λ v. v < 2 ^ k) xs → Each1 (Fits w16) xs
narrow_enough k xs most all =
    let fits : 2 ^ k ≤ 2 ^ 16 = pow-le-pow_right {n = 2} (omega arith) {i = k} {j = 16} most in
    each_of (Fits w16) xs (λ i d lt. (let small = all i d lt in record { fits = omega (arith, small, fits) }))

-- lanes of bytes that are written to the front of others, and the first of them
pub lanes_written : {w many : ℕ} (n width : ℕ) (old lanes : List ℕ) {spelled : List ℕ} → width ≡ w → w * n ≤ many → length lanes ≡ many → many ≤ length old → take (w * n) lanes ≡ spelled
    → take (width * n) (put_chunk 0 old lanes) ≡ spelled
lanes_written {w} {many} n width old lanes is few len room spelled =
    ap (λ v. take (v * n) (put_chunk 0 old lanes)) is
    ∙ (sym (take-take (w * n) many (put_chunk 0 old lanes) few)
    ∙ (ap (take (w * n)) (take_more_put_chunk 0 old lanes many (omega (arith, len)) (omega (arith, room))) ∙ spelled))
