-- The first lanes of a vector, with zeros after them.
use Rattle.rice_fast.proofs.Words.{◌≡◌, ℕ, zero, suc, ◌+◌, ◌-◌, ◌%◌, ◌^◌, ◌<◌, ◌≤◌, List, [], ◌∷◌, ◌++◌, get_or, length, take, drop, take-take, replicate, refl, sym, ◌∙◌, ap, arith, bit_and, zip2}
use Rattle.rice_fast.proofs.Words.{mod-eq_of_lt, take-append-add, and_mask, drop-append-le, drop-replicate, length-replicate, take-replicate}

-- `many` equal numbers, of which `count` are left, and as many zeros: the first `many` of them
mask_is : (many count v : ℕ) → count ≤ many →
    take many (take (many + many - (many - count)) (drop (many - count) (replicate many v ++ replicate many 0))) ≡ replicate count v ++ replicate (many - count) 0
mask_is many count v most =
    let left : many - (many - count) ≡ count = omega (arith, most) in
    let ones : drop (many - count) (replicate many v) ≡ replicate count v = drop-replicate (many - count) many v ∙ ap (λ n. replicate n v) left in
    let rest : drop (many - count) (replicate many v ++ replicate many 0) ≡ replicate count v ++ replicate many 0 =
    drop-append-le (many - count) (replicate many v) (replicate many 0) (omega (arith, length-replicate {A = ℕ} many v)) ∙ ap (λ xs. xs ++ replicate many 0) ones in
    let split : length {A = ℕ} (replicate count v) + (many - count) ≡ many = omega (arith, length-replicate {A = ℕ} count v, most) in
    take-take many (many + many - (many - count)) (drop (many - count) (replicate many v ++ replicate many 0)) (omega (arith, most))
    ∙ (ap (take many) rest ∙ (ap (λ n. take n (replicate count v ++ replicate many 0)) (sym split)
    ∙ (take-append-add (replicate count v) (replicate many 0) (many - count)
    ∙ ap (λ xs. replicate count v ++ xs) (take-replicate (many - count) many 0 (omega (arith, most))))))

-- lanes of w bits of which a mask keeps the first
first_kept : (w n m : ℕ) (xs : List ℕ) → length xs ≡ n + m → ((i : ℕ) → get_or xs i 0 < 2 ^ w) → zip2 bit_and xs (replicate n (2 ^ w - 1) ++ replicate m 0) ≡ take n xs ++ replicate m 0
first_kept w zero zero [] len fits = refl
first_kept w zero zero (x ∷ xs) len fits = absurd (omega (arith, len))
first_kept w zero (suc m) [] len fits = absurd (omega (arith, len))
first_kept w zero (suc m) (x ∷ xs) len fits =
    let rest = first_kept w zero m xs (omega (arith, len)) (λ i. fits (suc i)) in
    let over : x % 2 ^ 0 ≡ 0 = omega arith in
    let none : bit_and x 0 ≡ 0 = and_mask x 0 ∙ over in
    λ j. none j ∷ rest j
first_kept w (suc n) m [] len fits = absurd (omega (arith, len))
first_kept w (suc n) m (x ∷ xs) len fits =
    let rest = first_kept w n m xs (omega (arith, len)) (λ i. fits (suc i)) in
    let same : bit_and x (2 ^ w - 1) ≡ x = and_mask x w ∙ mod-eq_of_lt (fits 0) in
    λ j. same j ∷ rest j

-- the same, with the mask as it is read
pub first_of_lanes : (w many count : ℕ) (xs : List ℕ) → count ≤ many → length xs ≡ many → ((i : ℕ) → get_or xs i 0 < 2 ^ w)
    → zip2 bit_and xs (take many (take (many + many - (many - count)) (drop (many - count) (replicate many (2 ^ w - 1) ++ replicate many 0)))) ≡ take count xs ++ replicate (many - count) 0
first_of_lanes w many count xs most len fits = ap (zip2 bit_and xs) (mask_is many count (2 ^ w - 1) most) ∙ first_kept w count (many - count) xs (omega (arith, len, most)) fits
