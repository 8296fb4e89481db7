-- The pairs of second extension, from their numbers.
use Rattle.rice_fast.proofs.Words.{◌≡◌, ◌⊎◌, ℕ, zero, suc, ◌+◌, ◌-◌, ◌*◌, ◌/◌, ◌<◌, ◌≤◌, List, [], ◌∷◌, ◌++◌, drop, length, length-append, get_or, map, take, replicate, refl, sym, ◌∙◌, ap, arith}
use Rattle.rice_fast.proofs.Words.{inl, inr, flat_map}
use Rattle.rice_fast.proofs.Words.{length-take-le, take-append-add, take-replicate, range_with_len, sum_by-append, get_or-map-range_with_len, get_or-range_with_len, fundamental_sequence}
use Rattle.rice_fast.proofs.Words.{length-fundamental_sequence, pair_code, pair_codes, FIRSTS}
use Rattle.rice_fast.proofs.Words.{SECONDS}
use Rattle.std.specs.Prelude.{sum}

-- the tables have the pair of each number
pub stands_for : (g : ℕ) → g < 64 → pair_code (get_or FIRSTS g 0) (get_or SECONDS g 0) ≡ g
stands_for g h =
    let all : map (λ g. pair_code (get_or FIRSTS g 0) (get_or SECONDS g 0)) (range_with_len 0 64) ≡ range_with_len 0 64 = refl in
    let from : 0 + g ≡ g = omega arith in
    sym (get_or-map-range_with_len (λ g. pair_code (get_or FIRSTS g 0) (get_or SECONDS g 0)) 0 64 g g 0 h (omega arith))
    ∙ (ap (λ xs. get_or xs g 0) all ∙ (get_or-range_with_len 0 64 g 0 h ∙ from))

-- a pair's sum is at most its code
sum_within : (a b : ℕ) → a + b ≤ pair_code a b
sum_within a b = grows (a + b) b
  where
    grows : (s b : ℕ) → s ≤ s * (s + 1) / 2 + b
    grows zero b = omega arith
    grows (suc s) b = omega arith

-- numbers that begin with two others
sum_after_two : (a b : ℕ) (xs : List ℕ) → sum (a ∷ b ∷ xs) ≡ a + b + sum xs
sum_after_two a b xs =
    let two : 0 + a + b ≡ a + b = omega arith in
    sum_by-append (λ (x : ℕ). x) (a ∷ b ∷ []) xs ∙ ap (λ n. n + sum xs) two

take_none : (n : ℕ) → take {A = ℕ} n [] ≡ []
take_none zero = refl
take_none (suc n) = refl

two_more_pairs : (count : ℕ) → suc count + suc count ≡ suc (suc (count + count))
two_more_pairs count = omega arith

-- the sum of whole pairs is at most the bits of their codewords
pub sum_of_pairs : (half : ℕ) (ds : List ℕ) → length ds ≡ half + half → sum ds ≤ length (flat_map fundamental_sequence (pair_codes ds))
sum_of_pairs zero [] h = omega arith
sum_of_pairs zero (d ∷ ds) h = absurd (omega arith)
sum_of_pairs (suc half) [] h = absurd (omega arith)
sum_of_pairs (suc half) (d ∷ []) h = absurd (omega arith)
sum_of_pairs (suc half) (d ∷ c ∷ ds) h =
    let rest = flat_map fundamental_sequence (pair_codes ds) in
    let bits : length (flat_map fundamental_sequence (pair_codes (d ∷ c ∷ ds))) ≡ pair_code d c + 1 + length rest =
    length-append (fundamental_sequence (pair_code d c)) rest ∙ ap (λ n. n + length rest) (length-fundamental_sequence (pair_code d c)) in
    omega (arith, sum_after_two d c ds, bits, sum_of_pairs half ds (omega arith), sum_within d c)

-- the numbers of pairs that follow others
pub pair_codes-append : (half : ℕ) (xs ys : List ℕ) → length xs ≡ half + half → pair_codes (xs ++ ys) ≡ pair_codes xs ++ pair_codes ys
pair_codes-append zero [] ys h = refl
pair_codes-append zero (x ∷ xs) ys h = absurd (omega (arith, h))
pair_codes-append (suc half) [] ys h = absurd (omega (arith, h))
pair_codes-append (suc half) (x ∷ []) ys h = absurd (omega (arith, h))
pair_codes-append (suc half) (x ∷ y ∷ xs) ys h = ap (λ gs. pair_code x y ∷ gs) (pair_codes-append half xs ys (omega (arith, h)))

-- the numbers of the first pairs
pub first_pairs : (count : ℕ) (xs : List ℕ) → pair_codes (take (count + count) xs) ≡ take count (pair_codes xs)
first_pairs zero xs = refl
first_pairs (suc count) [] = ap pair_codes (take_none (suc count + suc count)) ∙ sym (take_none (suc count))
first_pairs (suc count) (x ∷ []) = ap (λ n. pair_codes (take n (x ∷ []))) (two_more_pairs count) ∙ ap (λ xs. pair_codes (x ∷ xs)) (take_none (suc (count + count)))
first_pairs (suc count) (x ∷ y ∷ xs) = ap (λ n. pair_codes (take n (x ∷ y ∷ xs))) (two_more_pairs count) ∙ ap (λ gs. pair_code x y ∷ gs) (first_pairs count xs)

-- where all pairs after the first ones are pairs of zeros, the sum is that of the first ones
pub sum_of_first : (half count : ℕ) (xs : List ℕ) → length xs ≡ half + half → drop count (pair_codes xs) ≡ replicate (half - count) 0
    → sum xs ≡ sum (take (count + count) xs)
sum_of_first zero count [] h zeros = ap sum (sym (take_none (count + count)))
sum_of_first zero count (x ∷ xs) h zeros = absurd (omega (arith, h))
sum_of_first (suc half) count [] h zeros = absurd (omega (arith, h))
sum_of_first (suc half) count (x ∷ []) h zeros = absurd (omega (arith, h))
sum_of_first (suc half) zero (x ∷ y ∷ xs) h zeros =
    let many : suc half - 0 ≡ suc (half - 0) = omega arith in
    let all : pair_code x y ∷ pair_codes xs ≡ 0 ∷ replicate (half - 0) 0 = zeros ∙ ap (λ n. replicate n 0) many in
    let code : pair_code x y ≡ 0 = ap (λ gs. get_or gs 0 0) all in
    let rest = sum_of_first half zero xs (omega (arith, h)) (ap (drop 1) all) in
    omega (arith, code, rest, sum_within x y, sum_after_two x y xs)
sum_of_first (suc half) (suc count) (x ∷ y ∷ xs) h zeros =
    let left : suc half - suc count ≡ half - count = omega arith in
    let rest = sum_of_first half count xs (omega (arith, h)) (zeros ∙ ap (λ n. replicate n 0) left) in
    omega (arith, rest, sum_after_two x y xs, ap (λ n. sum (take n (x ∷ y ∷ xs))) (two_more_pairs count), sum_after_two x y (take (count + count) xs))

-- eight lanes of `count` numbers with zeros after them
pub eight_of_lanes : (count : ℕ) (xs : List ℕ) → count ≤ 8 → count ≤ length xs
    → take 8 (take count xs ++ replicate (16 - count) 0) ≡ take count xs ++ replicate (8 - count) 0
eight_of_lanes count xs few there =
    let first = take count xs in
    let len : length first ≡ count = length-take-le count xs there in
    let eight : 8 ≡ length first + (8 - count) = omega (arith, len, few) in
    ap (λ n. take n (first ++ replicate (16 - count) 0)) eight
    ∙ (take-append-add first (replicate (16 - count) 0) (8 - count) ∙ ap (λ zs. first ++ zs) (take-replicate (8 - count) (16 - count) 0 (omega (arith, few))))

-- the number at the place of a reference sample, if there is one, is 0
pub zero_at_reference : (r : ℕ) (xs : List ℕ) → r ≤ 1 → 1 ≤ length xs → (r ≡ 0) ⊎ (get_or xs 0 0 ≡ 0) → take r xs ≡ replicate r 0
zero_at_reference zero xs few some is = refl
zero_at_reference (suc r) [] few some is = absurd (omega (arith, some))
zero_at_reference (suc zero) (x ∷ xs) few some is = elim is [ inl none ↦ absurd (omega (arith, none)) | inr none ↦ ap (λ v. v ∷ []) none ]
zero_at_reference (suc (suc r)) xs few some is = absurd (omega (arith, few))
