-- Two vectors of words, joined.
use Rattle.rice_fast.proofs.Words.{◌≡◌, ◌≤◌, ◌^◌, ℕ, ◌<◌, List, ◌++◌, length, map, map-id, sym, ◌∙◌, arith, subst, length-append, Fits, w8, All, range_with_len, Each1, pick_l, pow-le-pow_right}
use Rattle.rice_fast.proofs.Words.{All-append, All-weaker, pick_l_whole}
use Rattle.rice_fast.proofs.lemmas.vectors.NumbersInLanes.{each_of}

-- the lanes of two vectors of eight, picked in order and each left as it is, are those of the first and then those of the second
pub narrow-is : (xs ys : List ℕ) → length xs ≡ 8 → length ys ≡ 8 → map (λ d. d) (pick_l 0 (xs ++ ys) (range_with_len 0 16)) ≡ xs ++ ys
narrow-is xs ys e f = map-id (pick_l 0 (xs ++ ys) (range_with_len 0 16)) ∙ pick_l_whole 0 (xs ++ ys) 16 (omega (arith, e, f, length-append xs ys))

-- and each fits 8 bits where those of both vectors fit fewer
pub narrow-fits : (w : ℕ) (xs ys : List ℕ) → w ≤ 8 → length xs ≡ 8 → length ys ≡ 8 → All (λ v. v < 2 ^ w) xs → All (λ v. v < 2 ^ w) ys → Each1 (Fits w8) (pick_l 0 (xs ++ ys) (range_with_len 0 16))
narrow-fits w xs ys few e f h k =
    let most = pow-le-pow_right {n = 2} (omega arith) {i = w} {j = 8} few in
    subst (Each1 (Fits w8)) (sym (pick_l_whole 0 (xs ++ ys) 16 (omega (arith, e, f, length-append xs ys))))
    (each_of (Fits w8) (xs ++ ys) (All-weaker (λ v. v < 2 ^ w) (Fits w8) (λ v lt. record { fits = omega (arith, lt, most) }) (xs ++ ys) (All-append (λ v. v < 2 ^ w) xs ys h k)))
