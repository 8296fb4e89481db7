-- The high parts of residuals, in rows of sixteen numbers.
use Rattle.rice_fast.proofs.Words.{◌≡◌, ℕ, zero, suc, ◌+◌, ◌-◌, ◌*◌, ◌/◌, ◌^◌, ◌<◌, ◌≤◌, List, [], ◌∷◌, ◌++◌, length, drop, take, map, min, replicate, refl, ap, arith, sym, ◌∙◌, length-append}
use Rattle.rice_fast.proofs.Words.{append_assoc, sum_by, subst, Fits, w8, w32, flat_map, slice_range, put_chunk, zip2, Each1, Steps, fold_l, sum_l, zip2_splat, fold-sum, sum_fits, take_more_put_chunk}
use Rattle.rice_fast.proofs.Words.{All-drop, All-head, All-tail, All-take, take-append_seam, take-add, drop-append-le, drop-drop, drop-map, drop-take, length-map, length-drop, length-replicate}
use Rattle.rice_fast.proofs.Words.{length-take-le, map-append, take-replicate, take_all, flat_map-map, sum_by-append, sum_map, fundamental_sequence, with_zeros}
use Rattle.std.proofs.Common.{All}
use Rattle.std.proofs.lemmas.List.{take-take}

-- numbers that are written after others, over zeros
pub put_after : (xs ys : List ℕ) (z : ℕ) → length ys ≤ z → put_chunk (length xs) (xs ++ replicate z 0) ys ≡ xs ++ (ys ++ replicate (z - length ys) 0)
put_after [] ys z h = first ys z h
  where
    nothing : (z : ℕ) → put_chunk {A = ℕ} 0 (replicate z 0) [] ≡ replicate z 0
    nothing zero = refl
    nothing (suc z) = refl

    first : (ys : List ℕ) (z : ℕ) → length ys ≤ z → put_chunk {A = ℕ} 0 (replicate z 0) ys ≡ ys ++ replicate (z - length ys) 0
    first [] z h = let e : z ≡ z - 0 = omega arith in nothing z ∙ ap (λ n. replicate n 0) e
    first (y ∷ ys) zero h = absurd (omega arith)
    first (y ∷ ys) (suc z) h =
        let e : z - length ys ≡ suc z - suc (length ys) = omega arith in
        ap (λ l. y ∷ l) (first ys z (omega (arith, h)) ∙ ap (λ n. ys ++ replicate n 0) e)
put_after (x ∷ xs) ys z h = ap (λ l. x ∷ l) (put_after xs ys z h)

-- what a row of numbers that zeros follow holds of these numbers
pub row_ends : (m count z : ℕ) (xs : List ℕ) → m ≤ length xs + z → count ≡ min (length xs) m → take m (xs ++ replicate z 0) ≡ take count xs ++ replicate (m - count) 0
row_ends m zero z [] h e = let all : m ≡ m - 0 = omega arith in take-replicate m z 0 (omega (arith, h)) ∙ ap (λ n. replicate n 0) all
row_ends m (suc count) z [] h e = absurd (omega (arith, e))
row_ends zero zero z (x ∷ xs) h e = refl
row_ends zero (suc count) z (x ∷ xs) h e = absurd (omega (arith, e))
row_ends (suc m) zero z (x ∷ xs) h e = absurd (omega (arith, e))
row_ends (suc m) (suc count) z (x ∷ xs) h e =
    let rest : m - count ≡ suc m - suc count = omega arith in
    ap (λ l. x ∷ l) (row_ends m count z xs (omega (arith, h)) (omega (arith, e)) ∙ ap (λ n. take count xs ++ replicate n 0) rest)

-- residuals without k digits fit bytes, lane by lane
pub cut_lanes_fit : (xs : List ℕ) (at n k : ℕ) → at + n ≤ length xs → All (λ d. d / 2 ^ k < 2 ^ 8) xs → Each1 (Fits w8) (zip2 (λ d s. d / 2 ^ s) (take n (drop at xs)) (replicate n k))
cut_lanes_fit xs at n k room small =
    let row = take n (drop at xs) in
    let len : length row ≡ n = length-take-le n (drop at xs) (omega (arith, length-drop at xs, room)) in
    subst (Each1 (Fits w8)) (sym (zip2_splat (λ d s. d / 2 ^ s) row n k len)) (each row (All-take (λ d. d / 2 ^ k < 2 ^ 8) n (drop at xs) (All-drop (λ d. d / 2 ^ k < 2 ^ 8) at xs small)))
  where
    each : (xs : List ℕ) → All (λ d. d / 2 ^ k < 2 ^ 8) xs → Each1 (Fits w8) (map (λ d. d / 2 ^ k) xs)
    each [] h = tt
    each (x ∷ xs) h = (record { fits = All-head (λ d. d / 2 ^ k < 2 ^ 8) x xs h }, each xs (All-tail (λ d. d / 2 ^ k < 2 ^ 8) x xs h))

-- the sum of bytes in wider lanes
same_numbers : (xs : List ℕ) → map (λ d. d) xs ≡ xs
same_numbers [] = refl
same_numbers (x ∷ xs) = ap (λ ys. x ∷ ys) (same_numbers xs)

-- their sum, as the loop adds them
pub bytes_summed : (xs : List ℕ) → fold_l (λ s x. s + x) 0 (map (λ d. d) xs) ≡ sum_l xs
bytes_summed xs = ap (fold_l (λ s x. s + x) 0) (same_numbers xs) ∙ (fold-sum 0 xs ∙ omega arith)

-- is at most 255 for each
pub few_summed : (xs : List ℕ) → Each1 (Fits w8) xs → sum_l xs ≤ 255 * length xs
few_summed [] h = omega arith
few_summed (x ∷ xs) h = omega (arith, h.0.fits, few_summed xs h.1)

-- and so it fits
pub summed_fit : (xs : List ℕ) → Each1 (Fits w8) xs → length xs ≡ 16 → Steps (λ s x. Fits w32 (s + x)) (λ s x. s + x) 0 (map (λ d. d) xs)
summed_fit xs h len =
    let few = few_summed xs h in
    subst (Steps (λ s x. Fits w32 (s + x)) (λ s x. s + x) 0) (sym (same_numbers xs)) (sum_fits w32 0 xs (omega (arith, few, len)))

-- one row more is made
pub row_made : (f : ℕ → ℕ) (i : ℕ) (xs ys : List ℕ) {row made after : List ℕ} → 16 * i + 16 ≤ length xs → 16 * i + 16 ≤ length ys → take (16 * i) ys ≡ map f (take (16 * i) xs)
    → row ≡ take 16 (drop (16 * i) xs) → made ≡ map f row → after ≡ put_chunk (16 * i) ys made → take (16 * (i + 1)) after ≡ map f (take (16 * (i + 1)) xs)
row_made f i xs ys {row} {made} {after} room room1 before at is stored =
    let next : 16 * (i + 1) ≡ 16 * i + 16 = omega arith in
    let made_is : made ≡ map f (take 16 (drop (16 * i) xs)) = is ∙ ap (map f) at in
    let many : length made ≡ 16 = ap length made_is ∙ (length-map (take 16 (drop (16 * i) xs)) f ∙ length-take-le 16 (drop (16 * i) xs) (omega (arith, length-drop (16 * i) xs, room))) in
    ap (take (16 * (i + 1))) stored
    ∙ (take_more_put_chunk (16 * i) ys made (16 * (i + 1)) (omega (arith, many)) (omega (arith, room1))
    ∙ ((λ j. before j ++ made_is j) ∙ (sym (map-append f (take (16 * i) xs) (take 16 (drop (16 * i) xs)))
    ∙ ap (map f) (sym (take-add (16 * i) 16 xs) ∙ ap (λ n. take n xs) (sym next)))))

-- the sum of one row more
pub row_summed : (f : ℕ → ℕ) (i : ℕ) (xs : List ℕ) {row cut : List ℕ} → row ≡ take 16 (drop (16 * i) xs) → cut ≡ map f row →
    sum_by f (take (16 * i) xs) + sum_l cut ≡ sum_by f (take (16 * (i + 1)) xs)
row_summed f i xs {row} {cut} at is =
    let next : 16 * (i + 1) ≡ 16 * i + 16 = omega arith in
    ap (λ v. sum_by f (take (16 * i) xs) + v) (ap sum_l (is ∙ ap (map f) at) ∙ sum_map f (take 16 (drop (16 * i) xs)))
    ∙ (sym (sum_by-append f (take (16 * i) xs) (take 16 (drop (16 * i) xs))) ∙ ap (sum_by f) (sym (take-add (16 * i) 16 xs) ∙ ap (λ n. take n xs) (sym next)))

-- eight numbers without no digits
pub chunk_uncut : (i : ℕ) (xs : List ℕ) → 8 * i + 8 ≤ length xs → zip2 (λ d s. d / 2 ^ s) (take 8 (drop (8 * i) xs)) (replicate 8 0) ≡ take 8 (drop (8 * i) xs)
chunk_uncut i xs room =
    let row = take 8 (drop (8 * i) xs) in
    zip2_splat (λ d s. d / 2 ^ s) row 8 0 (length-take-le 8 (drop (8 * i) xs) (omega (arith, length-drop (8 * i) xs, room))) ∙ uncut row
  where
    uncut : (xs : List ℕ) → map (λ d. d / 2 ^ 0) xs ≡ xs
    uncut [] = refl
    uncut (x ∷ xs) = let one : x / 2 ^ 0 ≡ x = omega arith in λ j. one j ∷ uncut xs j

-- zeros after zeros
zeros_joined : (n m : ℕ) (ys : List ℕ) → (ys ++ replicate n 0) ++ replicate m 0 ≡ ys ++ replicate (n + m) 0
zeros_joined n m [] = all n
  where
    all : (n : ℕ) → replicate {A = ℕ} n 0 ++ replicate m 0 ≡ replicate (n + m) 0
    all zero = ap (λ k. replicate k 0) (omega arith)
    all (suc n) = let e : suc (n + m) ≡ suc n + m = omega arith in ap (λ l. 0 ∷ l) (all n) ∙ ap (λ k. replicate k 0) e
zeros_joined n m (y ∷ ys) = ap (λ l. y ∷ l) (zeros_joined n m ys)

-- a row of n numbers, with zeros after them, is written after others
pub high_more : (f : ℕ → ℕ) (i n : ℕ) (items high : List ℕ) {row after : List ℕ} → n ≤ 16 → 16 * i + n ≤ length items → 16 * i + 16 ≤ 64
    → high ≡ map f (take (16 * i) items) ++ replicate (64 - 16 * i) 0 → row ≡ map f (take n (drop (16 * i) items)) ++ replicate (16 - n) 0
    → after ≡ put_chunk (16 * i) high row → after ≡ map f (take (16 * i + n) items) ++ replicate (64 - (16 * i + n)) 0
high_more f i n items high {row} {after} few room inside before is stored =
    let old = map f (take (16 * i) items) in
    let new = map f (take n (drop (16 * i) items)) in
    let z = 64 - 16 * i in
    let place : 16 * i ≡ length old = sym (length-map (take (16 * i) items) f ∙ length-take-le (16 * i) items (omega (arith, room))) in
    let count : length new ≡ n = length-map (take n (drop (16 * i) items)) f ∙ length-take-le n (drop (16 * i) items) (omega (arith, length-drop (16 * i) items, room)) in
    let zeros : length (replicate {A = ℕ} (16 - n) 0) ≡ 16 - n = length-replicate (16 - n) 0 in
    let many : length row ≡ 16 = ap length is ∙ (length-append new (replicate (16 - n) 0) ∙ omega (arith, count, zeros, few)) in
    let left : 16 - n + (z - length row) ≡ 64 - (16 * i + n) = omega (arith, many, few, inside) in
    stored ∙ ((λ j. put_chunk (place j) (before j) row) ∙ (put_after old row z (omega (arith, many, inside))
    ∙ (ap (λ r. old ++ (r ++ replicate (z - length row) 0)) is ∙ (ap (λ v. old ++ v) (zeros_joined (16 - n) (z - length row) new ∙ ap (λ k. new ++ replicate k 0) left)
    ∙ (sym (append_assoc old new (replicate (64 - (16 * i + n)) 0))
    ∙ ap (λ v. v ++ replicate (64 - (16 * i + n)) 0) (sym (map-append f (take (16 * i) items) (take n (drop (16 * i) items))) ∙ ap (map f) (sym (take-add (16 * i) n items))))))))

-- once all are written
pub high_all : (f : ℕ → ℕ) (n : ℕ) (items high : List ℕ) → n ≡ length items → high ≡ map f (take n items) ++ replicate (64 - n) 0 → high ≡ with_zeros (map f items)
high_all f n items high last is =
    let whole : take n items ≡ items = take_all n items (omega (arith, last)) in
    let left : 64 - n ≡ 64 - length (map f items) = omega (arith, last, length-map items f) in
    is ∙ (λ j. map f (whole j) ++ replicate (left j) 0)

-- a row of numbers that zeros follow, with a range of them
pub row_zeros : (i len : ℕ) (numbers : List ℕ) {row : List ℕ} {count : ℕ} → length numbers ≡ 64 → 16 * i ≤ len → 16 * i + 16 ≤ 64 → len ≤ 64 → numbers ≡ with_zeros (take len numbers)
    → row ≡ take 16 (drop (16 * i) numbers) → count ≡ min (len - 16 * i) 16 → row ≡ take count row ++ replicate (16 - count) 0
row_zeros i len numbers {row} {count} many place inside few zeros at is =
    let ms = take len numbers in
    let z = 64 - length ms in
    let n : length ms ≡ len = length-take-le len numbers (omega (arith, many, few)) in
    let xs = drop (16 * i) ms in
    let left : length xs ≡ len - 16 * i = length-drop (16 * i) ms ∙ ap (λ m. m - 16 * i) n in
    let rest : drop (16 * i) numbers ≡ xs ++ replicate z 0 = ap (drop (16 * i)) zeros ∙ drop-append-le (16 * i) ms (replicate z 0) (omega (arith, n, place)) in
    let whole : row ≡ take count xs ++ replicate (16 - count) 0 = at ∙ (ap (take 16) rest ∙ row_ends 16 count z xs (omega (arith, left, n, inside, place, few)) (omega (arith, is, left))) in
    let size : length (take count xs) ≡ count = length-take-le count xs (omega (arith, is, left)) in
    let front : take count row ≡ take count xs =
    ap (take count) whole ∙ (ap (λ m. take m (take count xs ++ replicate (16 - count) 0)) (sym size) ∙ take-append_seam (take count xs) (replicate (16 - count) 0)) in
    whole ∙ ap (λ v. v ++ replicate (16 - count) 0) (sym front)

-- a range of a row is one of all numbers
pub row_slice : (i from count : ℕ) (numbers : List ℕ) {row : List ℕ} → from ≤ count → count ≤ 16 → row ≡ take 16 (drop (16 * i) numbers)
    → slice_range row from count ≡ slice_range numbers (16 * i + from) (16 * i + count)
row_slice i from count numbers {row} le few at =
    let parts : 16 ≡ from + (16 - from) = omega (arith, le, few) in
    let more : 16 - from ≡ (count - from) + (16 - count) = omega (arith, le, few) in
    let size : count - from ≡ 16 * i + count - (16 * i + from) = omega arith in
    let ys = drop from (drop (16 * i) numbers) in
    ap (λ r. take (count - from) (drop from r)) at
    ∙ (ap (λ n. take (count - from) (drop from (take n (drop (16 * i) numbers)))) parts
    ∙ (ap (take (count - from)) (drop-take from (16 - from) (drop (16 * i) numbers))
    ∙ (ap (λ n. take (count - from) (take n ys)) more
    ∙ (take-take (count - from) ((count - from) + (16 - count)) ys (omega arith)
    ∙ ((λ j. take (size j) (drop-drop from (16 * i) numbers j)))))))

-- the sequences of high parts are those of the residuals that are sent
pub high_text : (k from n : ℕ) (ds sent : List ℕ) {high : List ℕ} → n ≡ length ds → from ≤ n → high ≡ with_zeros (map (λ d. d / 2 ^ k) ds) → sent ≡ drop from ds
    → flat_map fundamental_sequence (slice_range high from n) ≡ flat_map (λ d. fundamental_sequence (d / 2 ^ k)) sent
high_text k from n ds sent {high} count le e coded =
    let f = λ (d : ℕ). d / 2 ^ k in
    let ms = map f ds in
    let z : List ℕ = replicate (64 - length ms) 0 in
    let len : length ms ≡ n = length-map ds f ∙ sym count in
    let within : from ≤ length ms = omega (arith, len, le) in
    let rest : drop from high ≡ drop from ms ++ z = ap (drop from) e ∙ drop-append-le from ms z within in
    let size : n - from ≡ length (drop from ms) = ap (λ m. m - from) (sym len) ∙ sym (length-drop from ms) in
    ap (λ xs. flat_map fundamental_sequence (take (n - from) xs)) rest
    ∙ (ap (λ m. flat_map fundamental_sequence (take m (drop from ms ++ z))) size
    ∙ (ap (flat_map fundamental_sequence) (take-append_seam (drop from ms) z ∙ (drop-map f from ds ∙ ap (map f) (sym coded)))
    ∙ flat_map-map fundamental_sequence f sent))
