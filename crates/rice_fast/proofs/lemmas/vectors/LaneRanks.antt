-- Ranks in the lanes of vectors.
use Rattle.rice_fast.proofs.Words.{◌≡◌, ℕ, zero, suc, ◌+◌, ◌-◌, ◌≤◌, List, [], ◌∷◌, ◌++◌, get_or, take, drop, length, refl, ap, arith, sym, ◌∙◌, slice_range, range_with_len, pick_l, length-drop}
use Rattle.rice_fast.proofs.Words.{append_assoc, length-take-le, replicate, take-take, pick_l-range_with_len, ranks_below, last_number}
use Rattle.std.proofs.lemmas.List.{length-append, replicate-append-replicate}

take_kept : (n k : ℕ) (ys zs : List ℕ) → n ≤ k → take n (ys ++ take k zs) ≡ take n (ys ++ zs)
take_kept zero k ys zs h = refl
take_kept (suc n) k [] zs h = take-take (suc n) k zs h
take_kept (suc n) k (y ∷ ys) zs h = ap (λ l. y ∷ l) (take_kept n k ys zs (omega arith))

-- numbers that are moved twice
pub moved_twice : (n a b : ℕ) (xs : List ℕ) → take n (replicate a 0 ++ take n (replicate b 0 ++ xs)) ≡ take n (replicate (a + b) 0 ++ xs)
moved_twice n a b xs =
    take_kept n n (replicate a 0) (replicate b 0 ++ xs) (omega arith)
    ∙ ap (take n) (sym (append_assoc (replicate a 0) (replicate b 0) xs) ∙ ap (λ l. l ++ xs) (replicate-append-replicate a b 0))

-- the last of two rows of numbers is the last of the second, or if it has none the last of the first
pub last-append : (p : ℕ) (xs ys : List ℕ) → last_number p (xs ++ ys) ≡ last_number (last_number p xs) ys
last-append p [] ys = refl
last-append p (x ∷ xs) ys = last-append x xs ys

last_number_of : (m p : ℕ) (ys : List ℕ) → length ys ≡ suc m → get_or ys m 0 ≡ last_number p ys
last_number_of m p [] len = absurd (omega arith)
last_number_of zero p (y ∷ []) len = refl
last_number_of zero p (y ∷ z ∷ ys) len = absurd (omega arith)
last_number_of (suc m) p (y ∷ ys) len = last_number_of m y ys (omega arith)

-- the last lane of a row is the last of all numbers up to its end
pub last_of_row : (m p : ℕ) (xs ys : List ℕ) → length ys ≡ suc m → get_or ys m 0 ≡ last_number p (xs ++ ys)
last_of_row m p xs ys len = last_number_of m (last_number p xs) ys len ∙ sym (last-append p xs ys)

-- the numbers of a list from a place on to m places after it are m, where the list goes as far
pub row_long : (m at n : ℕ) (xs : List ℕ) → n ≡ at + m → n ≤ length xs → length (slice_range xs at n) ≡ m
row_long m at n xs e le = length-take-le (n - at) (drop at xs) (omega (arith, length-drop at xs)) ∙ (omega (arith, e))

-- there are as many ranks as numbers
pub length-ranks_below : (n p : ℕ) (xs : List ℕ) → length (ranks_below n p xs) ≡ length xs
length-ranks_below n p [] = refl
length-ranks_below n p (x ∷ xs) = ap (λ k. suc k) (length-ranks_below n x xs)

-- the last of one list, and the front of the next
from_last_of_front_on : (k m : ℕ) (xs ys : List ℕ) → length xs ≡ suc m → take (suc k) (drop m (xs ++ ys)) ≡ get_or xs m 0 ∷ take k ys
from_last_of_front_on k m [] ys e = absurd (omega arith)
from_last_of_front_on k zero (x ∷ []) ys e = refl
from_last_of_front_on k zero (x ∷ y ∷ xs) ys e = absurd (omega arith)
from_last_of_front_on k (suc m) (x ∷ xs) ys e = from_last_of_front_on k m xs ys (omega arith)

-- the last lane of a vector, and all but the last of another, where both lie one after the other
pub last_and_others : (m : ℕ) (xs ys : List ℕ) → length xs ≡ suc m → length ys ≡ suc m →
    pick_l 0 (xs ++ ys) (range_with_len m (suc m)) ≡ get_or xs m 0 ∷ take m ys
last_and_others m xs ys e f = pick_l-range_with_len 0 (xs ++ ys) m (suc m) (omega (arith, e, f, length-append xs ys)) ∙ from_last_of_front_on m m xs ys e
