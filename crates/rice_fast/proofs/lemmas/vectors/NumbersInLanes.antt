-- Numbers by their digits, in lanes.
use Rattle.rice_fast.proofs.Words.{◌≡◌, ℕ, suc, ◌+◌, ◌*◌, ◌^◌, ◌<◌, List, [], ◌∷◌, ◌++◌, length, arith, All, digits_l, number_l, pow-suc, div-mul-add, mod-mul-add, Each1, Each1-from_get_or}
use Rattle.rice_fast.proofs.Words.{Each1-get_or}

-- a fact of all lanes as a fact of each
pub each_of : (P : ℕ → Type 0) (xs : List ℕ) → All P xs → Each1 P xs
each_of P xs h = Each1-from_get_or P xs 0 (λ i lt. h i 0 lt)

-- and back
pub all_of : (P : ℕ → Type 0) (xs : List ℕ) → Each1 P xs → All P xs
all_of P xs h = λ i d lt. Each1-get_or P xs i d lt h

-- the number of some digits, and of more digits above these
pub number-append : (g r : List ℕ) → number_l 256 (g ++ r) ≡ number_l 256 g + 256 ^ length g * number_l 256 r
number-append [] r = omega arith
number-append (x ∷ g) r = rw (number-append g r, pow-suc 256 (length g)) (omega arith)

-- bytes have a number below a power
pub number_below : (g : List ℕ) → All (λ b. b < 256) g → number_l 256 g < 256 ^ length g
number_below [] fit = omega arith
number_below (x ∷ g) fit = omega (arith, number_below g (λ i d lt. fit (suc i) d (omega (arith, lt))), fit 0 0 (omega arith), pow-suc 256 (length g))

-- one lane more
pub lane-more : (q n v rest : ℕ) → v < q → digits_l q (suc n) (v + q * rest) ≡ v ∷ digits_l q n rest
lane-more q n v rest lt =
    let e : v + q * rest ≡ rest * q + v = omega arith in
    rw e (λ j. mod-mul-add rest q v lt j ∷ digits_l q n (div-mul-add rest q v lt j))
