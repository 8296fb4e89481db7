-- The places of the ones among bits.
use Rattle.rice_fast.proofs.Words.{◌≡◌, ℕ, zero, suc, ◌+◌, ◌-◌, ◌%◌, ◌<◌, ◌≤◌, Bool, true, false, cond, nat_lt, List, [], ◌∷◌, ◌++◌, length, take, get_or, replicate, refl, sym, ◌∙◌, ap, arith}
use Rattle.rice_fast.proofs.Words.{append_assoc, Fits, w8, flat_map, zip2, sel_l, Each1, nat_tests, take-append-add, fundamental_sequence, ends_after, gaps, length-fundamental_sequence}

-- how many ends there are does not depend on the bits before all
pub ends-count : (p q : ℕ) (bits : List Bool) → length (ends_after p bits) ≡ length (ends_after q bits)
ends-count p q [] = refl
ends-count p q (true ∷ bits) = omega (arith, ends-count (p + 1) (q + 1) bits)
ends-count p q (false ∷ bits) = ends-count (p + 1) (q + 1) bits

-- there are at most as many ends as bits
pub few-ends : (p : ℕ) (bits : List Bool) → length (ends_after p bits) ≤ length bits
few-ends p [] = omega arith
few-ends p (true ∷ bits) = omega (arith, few-ends (p + 1) bits)
few-ends p (false ∷ bits) = omega (arith, few-ends (p + 1) bits)

-- the ends among two parts are those of the first, and then those of the second, which stands after the first
pub ends-append : (p : ℕ) (xs ys : List Bool) → ends_after p (xs ++ ys) ≡ ends_after p xs ++ ends_after (p + length xs) ys
ends-append p [] ys = (let n : p ≡ p + 0 = omega arith in ap (λ k. ends_after k ys) n)
ends-append p (true ∷ xs) ys =
    let n : p + 1 + length xs ≡ p + suc (length xs) = omega arith in
    ap (λ z. (p + 1) ∷ z) (ends-append (p + 1) xs ys ∙ ap (λ k. ends_after (p + 1) xs ++ ends_after k ys) n)
ends-append p (false ∷ xs) ys =
    let n : p + 1 + length xs ≡ p + suc (length xs) = omega arith in
    ends-append (p + 1) xs ys ∙ ap (λ k. ends_after (p + 1) xs ++ ends_after k ys) n

-- differences that stop at 0, in lanes
one_above_or_zero : (x y : ℕ) → x < 256 → y < 256 → (cond (nat_lt x y) y x + (256 - y)) % 256 ≡ x - y
one_above_or_zero x y h k = grind (arith, nat_tests)

abbrev pub wrapped_sub : ℕ → ℕ → ℕ
wrapped_sub a b = (a + (256 - b)) % 256

-- in lanes of 8 bits, the greater of two numbers less the second is their difference, which stops at 0
pub lanes_above_or_zero : (xs ys : List ℕ) → Each1 (Fits w8) xs → Each1 (Fits w8) ys → zip2 wrapped_sub (sel_l (zip2 nat_lt xs ys) ys xs) ys ≡ zip2 (λ x y. x - y) xs ys
lanes_above_or_zero [] ys h k = refl
lanes_above_or_zero (x ∷ xs) [] h k = refl
lanes_above_or_zero (x ∷ xs) (y ∷ ys) h k = λ i. one_above_or_zero x y h.0.fits k.0.fits i ∷ lanes_above_or_zero xs ys h.1 k.1 i

-- an end is not before those bits that stand before all
ends-from : (p q : ℕ) (bits : List Bool) (t : ℕ) → p ≤ q → t ≤ length (ends_after q bits) → p ≤ get_or (p ∷ ends_after q bits) t 0
ends-from p q bits zero le few = omega arith
ends-from p q [] (suc t) le few = absurd (omega (arith, few))
ends-from p q (true ∷ bits) (suc t) le few = omega (arith, le, ends-from (q + 1) (q + 1) bits t (omega arith) (omega (arith, few)))
ends-from p q (false ∷ bits) (suc t) le few = ends-from p (q + 1) bits (suc t) (omega (arith, le)) few

-- the bits up to and including some ones are the fundamental sequences of the gaps between them
pub gaps-spell : (p q : ℕ) (bits : List Bool) (t : ℕ) → p ≤ q → t ≤ length (ends_after q bits)
    → flat_map fundamental_sequence (take t (gaps (p ∷ ends_after q bits))) ≡ take (get_or (p ∷ ends_after q bits) t 0 - p) (replicate (q - p) false ++ bits)
gaps-spell p q bits zero le few = (let none : p - p ≡ 0 = omega arith in rw none refl)
gaps-spell p q [] (suc t) le few = absurd (omega (arith, few))
gaps-spell p q (false ∷ bits) (suc t) le few =
    let n : q + 1 - p ≡ q - p + 1 = omega (arith, le) in
    gaps-spell p (q + 1) bits (suc t) (omega (arith, le)) few
    ∙ ap (take (get_or (p ∷ ends_after (q + 1) bits) (suc t) 0 - p)) (ap (λ k. replicate k false ++ bits) n ∙ one-false (q - p) bits)
  where
    one-false : (k : ℕ) (bits : List Bool) → replicate (k + 1) false ++ bits ≡ replicate k false ++ false ∷ bits
    one-false zero bits = refl
    one-false (suc k) bits =
        let n : suc k + 1 ≡ suc (k + 1) = omega arith in
        ap (λ m. replicate m false ++ bits) n ∙ ap (λ z. false ∷ z) (one-false k bits)
gaps-spell p q (true ∷ bits) (suc t) le few =
    let es = ends_after (q + 1) bits in
    let used = get_or ((q + 1) ∷ es) t 0 in
    let front = fundamental_sequence (q + 1 - p - 1) in
    let after = gaps-spell (q + 1) (q + 1) bits t (omega arith) (omega (arith, few)) in
    let from : q + 1 ≤ used = ends-from (q + 1) (q + 1) bits t (omega arith) (omega (arith, few)) in
    let none : q + 1 - (q + 1) ≡ 0 = omega arith in
    let same : q + 1 - p - 1 ≡ q - p = omega (arith, le) in
    let rest : flat_map fundamental_sequence (take t (gaps ((q + 1) ∷ es))) ≡ take (used - (q + 1)) bits = after ∙ ap (λ k. take (used - (q + 1)) (replicate k false ++ bits)) none in
    let len : length front ≡ q - p + 1 = length-fundamental_sequence (q + 1 - p - 1) ∙ ap (λ k. k + 1) same in
    let count : length front + (used - (q + 1)) ≡ used - p = omega (arith, len, from, le) in
    let whole : front ++ bits ≡ replicate (q - p) false ++ true ∷ bits = ap (λ k. fundamental_sequence k ++ bits) same ∙ append_assoc (replicate (q - p) false) (true ∷ []) bits in
    ap (λ z. front ++ z) rest ∙ (sym (take-append-add front bits (used - (q + 1))) ∙ (λ j. take (count j) (whole j)))

-- the first gaps are those of the first numbers
pub take-gaps : (t n : ℕ) (reported : List ℕ) → t ≤ n → take t (gaps reported) ≡ take t (gaps (take (n + 1) reported))
take-gaps t n reported h = (let m : suc n ≡ n + 1 = omega arith in firsts t n reported h ∙ ap (λ k. take t (gaps (take k reported))) m)
  where
    firsts : (t n : ℕ) (reported : List ℕ) → t ≤ n → take t (gaps reported) ≡ take t (gaps (take (suc n) reported))
    firsts zero n reported h = refl
    firsts (suc t) zero reported h = absurd (omega (arith, h))
    firsts (suc t) (suc n) [] h = refl
    firsts (suc t) (suc n) (a ∷ []) h = refl
    firsts (suc t) (suc n) (a ∷ b ∷ reported) h = ap (λ z. (b - a - 1) ∷ z) (firsts t n (b ∷ reported) (omega (arith, h)))
