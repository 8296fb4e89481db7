-- Chunks of eight numbers in the lanes of a vector.
use Rattle.std.proofs.lemmas.Grind.{common_steps}
use Rattle.std.proofs.Common.{◌≡◌, ◌≢◌, ℕ, zero, suc, ◌+◌, ◌*◌, ◌/◌, ◌%◌, ◌^◌, ◌<◌, ◌≤◌, ◌==◌, Bool, true, false, ◌&&◌, List, [], ◌∷◌, ◌++◌, map, length, take, drop, get_or, sum_by, refl, sym, ◌∙◌}
use Rattle.std.proofs.lemmas.{Simd.zip2_splat, Simd.sum-zip2, Simd.fold-sum, Simd.length-zip2, Simd.length-chunk, List.Sums.sum_by-append, List.Sums.sum_by-cons, List.Sums.sum_by-take-le}
use Rattle.std.specs.{Simd.Lanes.zip2, Simd.Lanes.Each1, Simd.Lanes.chunk, Simd.Lanes.sum_l, Simd.Lanes.fold_l, Prelude.bit_or, Prelude.replicate, List.list_all}
use Rattle.std.proofs.{lemmas.Nat.le_or_l, lemmas.Nat.le_or_r, lemmas.Nat.pow_pos, lemmas.Bool.Decides.nat_tests, Math.Nat.div-mul-le_self, Common.ap, Common.subst, Common.arith, Math.Seq.take-add}

-- the numbers up to the next chunk
pub take_chunk : (i : ℕ) (xs : List ℕ) → take (8 * (i + 1)) xs ≡ take (8 * i) xs ++ chunk (8 * i) 8 xs
take_chunk i xs = let e : 8 * (i + 1) ≡ 8 * i + 8 = omega arith in rw e (take-add (8 * i) 8 xs)

-- numbers that fill their chunks are all there once as many chunks are taken, or more
pub take_all : (n : ℕ) (xs : List ℕ) → length xs % 8 ≡ 0 → length xs / 8 ≤ n → take (8 * n) xs ≡ xs
take_all n xs e le = grind (arith, common_steps)

-- sums

-- the sum of what a function makes of numbers is their sum by this function
pub sum_map : (f : ℕ → ℕ) (xs : List ℕ) → sum_l (map f xs) ≡ sum_by f xs
sum_map f [] = refl
sum_map f (x ∷ xs) = ap (λ n. f x + n) (sum_map f xs) ∙ sym (sum_by-cons f x xs)

-- numbers below a limit, each without its k lowest digits, sum up to no more than the limit for each of them
pub sum_limit : (k limit : ℕ) (xs : List ℕ) → ((i : ℕ) → get_or xs i 0 < limit) → sum_by (λ d. d / 2 ^ k) xs ≤ length xs * limit
sum_limit k limit [] h = omega arith
sum_limit k limit (x ∷ xs) h = rw (sum_by-cons (λ d. d / 2 ^ k) x xs)
    (one x (x / 2 ^ k) (2 ^ k) (length xs) limit (sum_by (λ d. d / 2 ^ k) xs) (div-mul-le_self x (2 ^ k)) (pow_pos k) (h 0) (sum_limit k limit xs (λ i. h (suc i))))
  where
    one : (x q p n limit s : ℕ) → q * p ≤ x → 0 < p → x < limit → s ≤ n * limit → q + s ≤ suc n * limit
    one x q zero n limit s le lt h k = absurd (omega arith)
    one x q (suc p) n limit s le lt h k = omega arith

-- each number of a chunk without its k lowest digits
pub lanes_without_digits : (k : ℕ) (xs : List ℕ) → length xs ≡ 8 → zip2 (λ d s. d / 2 ^ s) xs (replicate 8 k) ≡ map (λ d. d / 2 ^ k) xs
lanes_without_digits k xs e = zip2_splat (λ d s. d / 2 ^ s) xs 8 k e

-- the sum in the lanes and that of the next chunk, without k digits each, are the sum up to the end of this chunk
pub next_sum : (k i : ℕ) (xs total : List ℕ) → length total ≡ 8 → 8 * i + 8 ≤ length xs → sum_l total ≡ sum_by (λ d. d / 2 ^ k) (take (8 * i) xs) →
    sum_l total + sum_l (zip2 (λ d s. d / 2 ^ s) (chunk (8 * i) 8 xs) (replicate 8 k)) ≡ sum_by (λ d. d / 2 ^ k) (take (8 * (i + 1)) xs)
next_sum k i xs total lanes room value = grind (arith, common_steps, lanes_without_digits, length-chunk, sum_map, take_chunk, sum_by-append)

-- digits

fold_or_above : (a : ℕ) (xs : List ℕ) → (a ≤ fold_l bit_or a xs) × Each1 (λ x. x ≤ fold_l bit_or a xs) xs
fold_or_above a [] = (omega arith, tt)
fold_or_above a (x ∷ xs) = grind (arith, common_steps, le_or_l, le_or_r, fold_or_above (bit_or a x) xs)

-- no number is above the digits of all together, joined by or
pub lanes_below_digits : (xs : List ℕ) → Each1 (λ x. x ≤ fold_l bit_or 0 xs) xs
lanes_below_digits xs = (fold_or_above 0 xs).1

-- zeros

-- where the digits of all numbers together are 0, each number is 0
pub zero_digits : (xs : List ℕ) → fold_l bit_or 0 xs ≡ 0 → list_all (λ d. d == 0) xs ≡ true
zero_digits xs e = zeros xs (subst (λ (n : ℕ). Each1 (λ x. x ≤ n) xs) e (lanes_below_digits xs))
  where
    zeros : (xs : List ℕ) → Each1 (λ x. x ≤ 0) xs → list_all (λ d. d == 0) xs ≡ true
    zeros [] h = refl
    zeros (zero ∷ xs) h = zeros xs h.1
    zeros (suc x ∷ xs) h = absurd (omega (arith, h.0))

-- and where each number is 0, so are the digits of all together
pub no_digits : (xs : List ℕ) → list_all (λ d. d == 0) xs ≡ true → fold_l bit_or 0 xs ≡ 0
no_digits [] e = refl
no_digits (zero ∷ xs) e = no_digits xs e
no_digits (suc x ∷ xs) e = absurd (grind (arith, nat_tests))

-- two lists together pass a test just where both of them pass it
pub list_all-append : (p : ℕ → Bool) (xs ys : List ℕ) → list_all p (xs ++ ys) ≡ (list_all p xs && list_all p ys)
list_all-append p [] ys = refl
list_all-append p (x ∷ xs) ys = grind (arith, common_steps, list_all-append p xs ys)

-- where all numbers before a chunk are 0, and so are the digits of the chunk together, all numbers up to its end are 0
pub more_zeros : (i : ℕ) (xs : List ℕ) → list_all (λ d. d == 0) (take (8 * i) xs) ≡ true → fold_l bit_or 0 (chunk (8 * i) 8 xs) ≡ 0 → list_all (λ d. d == 0) (take (8 * (i + 1)) xs) ≡ true
more_zeros i xs h e = rw (take_chunk i xs, list_all-append (λ d. d == 0) (take (8 * i) xs) (chunk (8 * i) 8 xs), h) (zero_digits (chunk (8 * i) 8 xs) e)

-- where the digits of a chunk together are not 0, not all numbers are 0
pub some_digits : (i : ℕ) (xs : List ℕ) → fold_l bit_or 0 (chunk (8 * i) 8 xs) ≢ 0 → list_all (λ d. d == 0) xs ≡ false
some_digits i xs h = by_value (list_all (λ d. d == 0) xs) refl
  where
    parts : (n m : ℕ) (xs : List ℕ) → list_all (λ d. d == 0) xs ≡ true → list_all (λ d. d == 0) (chunk n m xs) ≡ true
    parts n m xs e = front m (drop n xs) (after n xs e)
      where
        after : (n : ℕ) (xs : List ℕ) → list_all (λ d. d == 0) xs ≡ true → list_all (λ d. d == 0) (drop n xs) ≡ true
        after zero xs e = e
        after (suc n) [] e = refl
        after (suc n) (zero ∷ xs) e = after n xs e
        after (suc n) (suc x ∷ xs) e = absurd (grind (arith, nat_tests))

        front : (n : ℕ) (xs : List ℕ) → list_all (λ d. d == 0) xs ≡ true → list_all (λ d. d == 0) (take n xs) ≡ true
        front zero xs e = refl
        front (suc n) [] e = refl
        front (suc n) (zero ∷ xs) e = front n xs e
        front (suc n) (suc x ∷ xs) e = absurd (grind (arith, nat_tests))

    by_value : (b : Bool) → list_all (λ d. d == 0) xs ≡ b → list_all (λ d. d == 0) xs ≡ false
    by_value true e = absurd (h (no_digits (chunk (8 * i) 8 xs) (parts (8 * i) 8 xs e)))
    by_value false e = e

-- a step of a sum

-- a chunk without its k lowest digits has eight lanes still
pub lanes_shifted : (k i : ℕ) (xs : List ℕ) → 8 * i + 8 ≤ length xs → length (zip2 (λ d s. d / 2 ^ s) (chunk (8 * i) 8 xs) (replicate 8 k)) ≡ 8
lanes_shifted k i xs room = let e = length-chunk (8 * i) 8 xs room in length-zip2 (λ d s. d / 2 ^ s) (chunk (8 * i) 8 xs) (replicate 8 k) e ∙ e

-- up to a chunk the sum is within the whole
pub sums_below : (k i limit : ℕ) (xs total : List ℕ) → length total ≡ 8 → 8 * i + 8 ≤ length xs → sum_by (λ d. d / 2 ^ k) xs < limit → sum_l total ≡ sum_by (λ d. d / 2 ^ k) (take (8 * i) xs) →
    sum_l total + sum_l (zip2 (λ d s. d / 2 ^ s) (chunk (8 * i) 8 xs) (replicate 8 k)) < limit
sums_below k i limit xs total lanes room small value =
    rw (next_sum k i xs total lanes room value)
    (let a = sum_by-take-le (λ d. d / 2 ^ k) xs (8 * (i + 1)) in omega arith)

-- with at most 64 numbers below 2^32, the sum in the lanes and that of the next chunk are below 2^64 together
pub sums_fit : (k i : ℕ) (xs total : List ℕ) → length total ≡ 8 → 8 * i + 8 ≤ length xs → length xs ≤ 64 → ((j : ℕ) → get_or xs j 0 < 2 ^ 32)
    → sum_l total ≡ sum_by (λ d. d / 2 ^ k) (take (8 * i) xs) → sum_l total + sum_l (zip2 (λ d s. d / 2 ^ s) (chunk (8 * i) 8 xs) (replicate 8 k)) < 2 ^ 64
sums_fit k i xs total lanes room few small value = sums_below k i (2 ^ 64) xs total lanes room (let b = sum_limit k (2 ^ 32) xs small in omega arith) value

-- the lanes of the sum, with the next chunk added lane by lane, hold the sum up to the end of this chunk
pub sum_added : (k i : ℕ) (xs total : List ℕ) → length total ≡ 8 → 8 * i + 8 ≤ length xs → sum_l total ≡ sum_by (λ d. d / 2 ^ k) (take (8 * i) xs) →
    sum_l (zip2 (λ a b. a + b) total (zip2 (λ d s. d / 2 ^ s) (chunk (8 * i) 8 xs) (replicate 8 k))) ≡ sum_by (λ d. d / 2 ^ k) (take (8 * (i + 1)) xs)
sum_added k i xs total lanes room value = sum-zip2 total _ (lanes ∙ sym (lanes_shifted k i xs room)) ∙ next_sum k i xs total lanes room value

-- and are eight again
pub lanes_added : (k i : ℕ) (xs total : List ℕ) → length total ≡ 8 → 8 * i + 8 ≤ length xs → length (zip2 (λ a b. a + b) total (zip2 (λ d s. d / 2 ^ s) (chunk (8 * i) 8 xs) (replicate 8 k))) ≡ 8
lanes_added k i xs total lanes room = length-zip2 (λ a b. a + b) total _ (lanes ∙ sym (lanes_shifted k i xs room)) ∙ lanes

-- once all chunks are added, the lanes, summed up, are the sum of all numbers without their k lowest digits
pub whole_sum : (k n : ℕ) (xs total : List ℕ) → length xs % 8 ≡ 0 → length xs / 8 ≤ n → sum_l total ≡ sum_by (λ d. d / 2 ^ k) (take (8 * n) xs)
    → fold_l (λ s x. s + x) 0 total ≡ sum_by (λ d. d / 2 ^ k) xs
whole_sum k n xs total e le value = fold-sum 0 total ∙ (omega arith ∙ (value ∙ ap (λ ys. sum_by (λ d. d / 2 ^ k) ys) (take_all n xs e le)))

-- the sum of the chunks so far is below each limit that the sum of all numbers is below
pub total_below : (k n limit : ℕ) (xs total : List ℕ) → sum_by (λ d. d / 2 ^ k) xs < limit → sum_l total ≡ sum_by (λ d. d / 2 ^ k) (take (8 * n) xs) → 0 + sum_l total < limit
total_below k n limit xs total small value = let a = sum_by-take-le (λ d. d / 2 ^ k) xs (8 * n) in omega arith

-- so it is below 2^64 with at most 64 numbers below 2^32
pub total_fits : (k n : ℕ) (xs total : List ℕ) → length xs ≤ 64 → ((j : ℕ) → get_or xs j 0 < 2 ^ 32) → sum_l total ≡ sum_by (λ d. d / 2 ^ k) (take (8 * n) xs) → 0 + sum_l total < 2 ^ 64
total_fits k n xs total few small value = total_below k n (2 ^ 64) xs total (let b = sum_limit k (2 ^ 32) xs small in omega arith) value

-- lanes of 32 bits

-- at most 64 numbers below 2^32, each without its k lowest digits, sum up to at most 2^38
pub sum_limited : (k n : ℕ) (xs total : List ℕ) → length xs ≤ 64 → length xs % 8 ≡ 0 → length xs / 8 ≤ n → ((j : ℕ) → get_or xs j 0 < 2 ^ 32)
    → sum_l total ≡ sum_by (λ d. d / 2 ^ k) (take (8 * n) xs) → fold_l (λ s x. s + x) 0 total ≤ 2 ^ 38
sum_limited k n xs total few e le small value = let a = whole_sum k n xs total e le value in let b = sum_limit k (2 ^ 32) xs small in omega arith
