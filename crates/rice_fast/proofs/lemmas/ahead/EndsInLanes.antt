-- The ends of the ones of a word, joined in lanes.
use Rattle.rice_fast.proofs.Words.{◌≡◌, ℕ, zero, suc, ◌+◌, ◌-◌, ◌*◌, ◌/◌, ◌%◌, ◌^◌, ◌<◌, ◌≤◌, Bool, cond, ◌||◌, List, [], ◌∷◌, ◌++◌, length, take, drop, get_or, replicate, map, length-append, refl}
use Rattle.rice_fast.proofs.Words.{take-map, sym, ◌∙◌, ap, arith, append_assoc, subst, take-take, w8, bit_or, range_with_len, zip2, Each1, pick_l, ones, or_zero_l, or_zero_r, ones-le, ones-ones}
use Rattle.rice_fast.proofs.Words.{ones_cat, T, leb, ltb, map-replicate, zeroes, take-add, length-replicate, length-take-le, map-append, replicate-append-replicate, take-replicate}
use Rattle.rice_fast.proofs.Words.{get_or-map-range_with_len, add-mul, div-mul-add, mod_below, pow-add, pow_pos, shr_below, shr_split, Each1-chunk, SwzOk, SwzOk-from_Each1, swz_l, pick_l_whole, word}
use Rattle.rice_fast.proofs.Words.{ends_after, word-mod, front_below, take-front, length-word, in_lanes, places_after, row_of_place, SLIDE, ROWS}
use Rattle.rice_fast.proofs.lemmas.{ahead.WordsInBytes.table_row, ahead.EndsAndGapsLemmas.ends-append, ahead.EndsAndGapsLemmas.ends-count, ahead.EndsAndGapsLemmas.few-ends}
use Rattle.std.specs.Prelude.{◌==◌}

-- the tables

-- the row of the tables for a byte at a place below seven has the ends of its ones, and zeros up to eight numbers
pub row_of : (place byte : ℕ) → place < 7 → byte < 256 → get_or (get_or ROWS place []) byte [] ≡ row_of_place place byte
unfolding word
row_of place byte h k = table_row row_of_place 7 256 ROWS refl place byte h k

abbrev from_slide : ℕ → List ℕ
from_slide n = take 16 (drop (48 - n) SLIDE)

-- sixteen numbers of the slide, from 48 less a count on, are for each lane the place so many lanes before it, or 128 where there is none
pub slide_places : (count : ℕ) → count ≤ 48 → take 16 (drop (48 - count) SLIDE) ≡ places_after count
slide_places count h =
    let all : map from_slide (range_with_len 0 49) ≡ map places_after (range_with_len 0 49) = refl in
    sym (get_or-map-range_with_len from_slide 0 49 count count [] (omega (arith, h)) (omega arith))
    ∙ (ap (λ xs. get_or xs count []) all ∙ get_or-map-range_with_len places_after 0 49 count count [] (omega (arith, h)) (omega arith))

-- a row in lanes

-- a row has eight numbers
pub length-row : (place byte : ℕ) → length (row_of_place place byte) ≡ 8
length-row place byte =
    let es = ends_after (8 * place) (word 8 byte) in
    let zs : List ℕ = replicate (8 - length es) 0 in
    omega (arith, length-word 8 byte, few-ends (8 * place) (word 8 byte), length-append es zs, length-replicate {A = ℕ} (8 - length es) 0)

row-filled : (place byte : ℕ) → row_of_place place byte ++ replicate 8 0 ≡ in_lanes (ends_after (8 * place) (word 8 byte))
row-filled place byte =
    let es = ends_after (8 * place) (word 8 byte) in
    let few : length es ≤ 8 = omega (arith, length-word 8 byte, few-ends (8 * place) (word 8 byte)) in
    let n : 8 - length es + 8 ≡ 16 - length es = omega (arith, few) in
    append_assoc es (replicate (8 - length es) 0) (replicate 8 0)
    ∙ (ap (λ z. es ++ z) (replicate-append-replicate (8 - length es) 8 0 ∙ ap (λ k. replicate k 0) n)
    ∙ filled 16 16 es (omega (arith, few)) (omega arith))
  where
    filled : (k m : ℕ) (es : List ℕ) → length es ≤ k → k ≤ m → es ++ replicate (k - length es) 0 ≡ take k (es ++ replicate m 0)
    filled k m [] h le = (let n : k - 0 ≡ k = omega arith in ap (λ (j : ℕ). replicate {A = ℕ} j 0) n ∙ sym (take-replicate {X = ℕ} k m 0 le))
    filled zero m (e ∷ es) h le = absurd (omega (arith, h))
    filled (suc k) m (e ∷ es) h le =
        let same : suc k - suc (length es) ≡ k - length es = omega arith in
        ap (λ n. e ∷ (es ++ replicate n 0)) same ∙ ap (λ z. e ∷ z) (filled k m es (omega (arith, h)) (omega (arith, le)))

abbrev sixteen_of : List ℕ → List ℕ
sixteen_of xs = pick_l 0 xs (range_with_len 0 16)

-- a row and eight zeros, picked in order into sixteen lanes, are the ends of a byte's ones in lanes
pub row-lanes : (place byte : ℕ) (row : List ℕ) → row ≡ row_of_place place byte → sixteen_of (row ++ replicate 8 0) ≡ in_lanes (ends_after (8 * place) (word 8 byte))
row-lanes place byte row e =
    let whole : length (row ++ replicate 8 0) ≡ 16 = omega (arith, ap length e, length-row place byte, length-append row (replicate 8 0)) in
    pick_l_whole 0 (row ++ replicate 8 0) 16 whole ∙ (ap (λ r. r ++ replicate 8 0) e ∙ row-filled place byte)

-- moved lanes

abbrev HasPlace : ℕ → Type 0
HasPlace j = T (zeroes 16 w8 j || ltb j 16)

after_all : (n : ℕ) (js : List ℕ) → Each1 HasPlace js → Each1 HasPlace (replicate n 128 ++ js)
after_all zero js h = h
after_all (suc n) js h = (tt, after_all n js h)

length-after : (count : ℕ) → length (places_after count) ≡ 16
length-after count = length-take-le 16 (replicate count 128 ++ range_with_len 0 16) (omega (arith, length-append (replicate count 128) (range_with_len 0 16)))

-- each of the places after a count is 128 or one of sixteen lanes, as a swizzle asks
pub places_are_ok : (count : ℕ) → SwzOk w8 16 16 0 (places_after count)
places_are_ok count =
    SwzOk-from_Each1 w8 16 1 16 0 (places_after count) (omega arith) (omega (arith, length-after count))
    (Each1-chunk HasPlace 0 16 (replicate count 128 ++ range_with_len 0 16)
    (after_all count (range_with_len 0 16) (tt, (tt, (tt, (tt, (tt, (tt, (tt, (tt, (tt, (tt, (tt, (tt, (tt, (tt, (tt, (tt, tt))))))))))))))))))

abbrev picked : List ℕ → ℕ → ℕ
picked xs j = cond (leb 128 j) 0 (get_or xs j 0)

swizzle_picks : (xs : List ℕ) (i : ℕ) (js : List ℕ) → i + length js ≤ 16 → swz_l w8 16 xs i js ≡ map (picked xs) js
swizzle_picks xs i [] h = refl
swizzle_picks xs i (j ∷ js) h =
    let none : 16 * (i / 16) + j ≡ j = omega (arith, h) in
    let rest = swizzle_picks xs (suc i) js (omega (arith, h)) in
    λ k. cond (leb 128 j) 0 (get_or xs (none k) 0) ∷ rest k

-- a swizzle by these places moves sixteen lanes after so many zeros
pub lanes-moved : (xs : List ℕ) (count : ℕ) → length xs ≡ 16 → swz_l w8 16 xs 0 (places_after count) ≡ take 16 (replicate count 0 ++ xs)
lanes-moved xs count n =
    let places = range_with_len 0 16 in
    let whole : map (picked xs) places ≡ xs = pick_l_whole 0 xs 16 n in
    swizzle_picks xs 0 (places_after count) (omega (arith, length-after count))
    ∙ (sym (take-map (picked xs) 16 (replicate count 128 ++ places))
    ∙ ap (take 16) (map-append (picked xs) (replicate count 128) places ∙ (λ k. map-replicate (picked xs) count 128 k ++ whole k)))

-- numbers in lanes, and those after them

zeros-joined : (k m : ℕ) (ys : List ℕ) → k ≤ m → zip2 bit_or (take k (replicate m 0)) (take k ys) ≡ take k ys
zeros-joined zero m ys h = refl
zeros-joined (suc k) zero ys h = absurd (omega (arith, h))
zeros-joined (suc k) (suc m) [] h = refl
zeros-joined (suc k) (suc m) (y ∷ ys) h =
    let rest = zeros-joined k m ys (omega (arith, h)) in
    λ i. or_zero_l y i ∷ rest i

lanes-joined : (k m : ℕ) (xs ys : List ℕ) → k ≤ m → zip2 bit_or (take k (xs ++ replicate m 0)) (take k (replicate (length xs) 0 ++ ys)) ≡ take k (xs ++ ys)
lanes-joined zero m xs ys h = refl
lanes-joined (suc k) m [] ys h = zeros-joined (suc k) m ys h
lanes-joined (suc k) m (x ∷ xs) ys h =
    let rest = lanes-joined k m xs ys (omega (arith, h)) in
    λ i. or_zero_r x i ∷ rest i

take-after : (k n : ℕ) (xs ys : List ℕ) → k ≤ n → take k (xs ++ take n ys) ≡ take k (xs ++ ys)
take-after k n [] ys h = take-take k n ys h
take-after zero n (x ∷ xs) ys h = refl
take-after (suc k) n (x ∷ xs) ys h = ap (λ z. x ∷ z) (take-after k n xs ys (omega (arith, h)))

-- numbers in lanes, with others that are moved after them, are both in lanes
pub joined-lanes : (xs ys : List ℕ) → zip2 bit_or (in_lanes xs) (take 16 (replicate (length xs) 0 ++ in_lanes ys)) ≡ in_lanes (xs ++ ys)
joined-lanes xs ys =
    lanes-joined 16 16 xs (in_lanes ys) (omega arith)
    ∙ (take-after 16 16 xs (ys ++ replicate 16 0) (omega arith) ∙ ap (take 16) (sym (append_assoc xs ys (replicate 16 0))))

-- the bytes of a word, and the ones in them

ones_of_zero : ones 0 ≡ 0
ones_of_zero = omega (arith, ones-le 0 0 (omega arith))

ones_of_one : ones 1 ≡ 1
ones_of_one = ones-ones 1

more_ones : (d : ℕ) (bits : List Bool) → d < 2 → ones d + length (ends_after 0 bits) ≡ length (ends_after 0 ((d % 2 == 1) ∷ bits))
more_ones zero bits h = omega (arith, ones_of_zero, ends-count 0 1 bits)
more_ones (suc zero) bits h = omega (arith, ones_of_one, ends-count 0 1 bits)
more_ones (suc (suc d)) bits h = absurd (omega arith)

ones-counted : (w n : ℕ) → n < 2 ^ w → ones n ≡ length (ends_after 0 (word w n))
unfolding word
ones-counted zero zero h = ones_of_zero
ones-counted zero (suc n) h = absurd (omega (arith, h))
ones-counted (suc w) n h =
    let high = n / 2 ^ w in
    let low = n % 2 ^ w in
    let m : suc w ≡ 1 + w = omega arith in
    let below : low < 2 ^ w = mod_below n (2 ^ w) (pow_pos w) in
    ap ones (sym (shr_split n w)) ∙ (ones_cat w high low below
    ∙ (ap (λ k. ones high + k) (ones-counted w low below ∙ ap (λ b. length (ends_after 0 b)) (word-mod w w n (omega arith)))
    ∙ more_ones high (word w n) (shr_below n 1 w (subst (λ k. n < 2 ^ k) m h))))

-- the first digits of a number have as many ones as there are ends among them
pub ones-of : (front n : ℕ) → n ≤ 64 → front < 2 ^ 64 → ones (front / 2 ^ (64 - n)) ≡ length (ends_after 0 (take n (word 64 front)))
ones-of front n h fits =
    ones-counted n (front / 2 ^ (64 - n)) (front_below 64 n front h fits) ∙ ap (λ b. length (ends_after 0 b)) (sym (take-front 64 n front h))

-- the zeros of a number are the ones of the other digits
ones_of_complement : (w n : ℕ) → n < 2 ^ w → ones (2 ^ w - 1 - n) + ones n ≡ w
ones_of_complement zero zero h = omega (arith, ones_of_zero)
ones_of_complement zero (suc n) h = absurd (omega (arith, h))
ones_of_complement (suc w) n h =
    let high = n / 2 ^ w in
    let low = n % 2 ^ w in
    let m : suc w ≡ 1 + w = omega arith in
    let below : low < 2 ^ w = mod_below n (2 ^ w) (pow_pos w) in
    let few : high < 2 = shr_below n 1 w (subst (λ k. n < 2 ^ k) m h) in
    let split : n ≡ high * 2 ^ w + low = sym (shr_split n w) in
    let double : 2 ^ suc w ≡ 2 * 2 ^ w = omega arith in
    let rest : 2 ^ suc w - 1 - n ≡ (1 - high) * 2 ^ w + (2 ^ w - 1 - low) = parts high low (2 ^ w) (2 ^ suc w) n few below double split in
    let other : 2 ^ w - 1 - low < 2 ^ w = omega (arith, pow_pos w) in
    let all : ones (2 ^ suc w - 1 - n) ≡ ones (1 - high) + ones (2 ^ w - 1 - low) = ap ones rest ∙ ones_cat w (1 - high) (2 ^ w - 1 - low) other in
    let here : ones n ≡ ones high + ones low = ap ones split ∙ ones_cat w high low below in
    omega (arith, all, here, ones_of_complement w low below, digit high few)
  where
    parts : (high low p q n : ℕ) → high < 2 → low < p → q ≡ 2 * p → n ≡ high * p + low → q - 1 - n ≡ (1 - high) * p + (p - 1 - low)
    parts zero low p q n few below double split = omega (arith, below, double, split)
    parts (suc zero) low p q n few below double split = omega (arith, below, double, split)
    parts (suc (suc d)) low p q n few below double split = absurd (omega (arith, few))

    digit : (high : ℕ) → high < 2 → ones (1 - high) + ones high ≡ 1
    digit zero few = omega (arith, ones_of_zero, ones_of_one)
    digit (suc zero) few = omega (arith, ones_of_zero, ones_of_one)
    digit (suc (suc d)) few = absurd (omega (arith, few))

-- the front of the other digits
front-other : (front n : ℕ) → n ≤ 64 → front < 2 ^ 64 → (2 ^ 64 - 1 - front) / 2 ^ (64 - n) ≡ 2 ^ n - 1 - front / 2 ^ (64 - n)
front-other front n h fits =
    let d = 2 ^ (64 - n) in
    let q = front / d in
    let r = front % d in
    let below : r < d = mod_below front d (pow_pos (64 - n)) in
    let e : n + (64 - n) ≡ 64 = omega (arith, h) in
    let all : 2 ^ 64 ≡ 2 ^ n * d = ap (λ k. 2 ^ k) (sym e) ∙ pow-add 2 n (64 - n) in
    let few : q < 2 ^ n = front_below 64 n front h fits in
    let split : front ≡ q * d + r = sym (shr_split front (64 - n)) in
    let other : 2 ^ 64 - 1 - front ≡ (2 ^ n - 1 - q) * d + (d - 1 - r) = parts (2 ^ n - 1 - q) q r (2 ^ n) d (2 ^ 64) front (omega (arith, few)) below all split in
    ap (λ x. x / d) other ∙ div-mul-add (2 ^ n - 1 - q) d (d - 1 - r) (omega (arith, below))
  where
    parts : (p q r m d all front : ℕ) → m ≡ p + (q + 1) → r < d → all ≡ m * d → front ≡ q * d + r → all - 1 - front ≡ p * d + (d - 1 - r)
    parts p q r m d all front m_is below whole split =
        let sum : m * d ≡ p * d + (q * d + d) = ap (λ k. k * d) m_is ∙ (add-mul p (q + 1) d ∙ ap (λ k. p * d + k) (add-mul q 1 d ∙ omega arith)) in
        omega (arith, sum, below, whole, split)

-- the ones of the first n digits of a number's complement, and the ends among the number's own first n, are n together
pub zeros-of : (front n : ℕ) → n ≤ 64 → front < 2 ^ 64 → ones ((2 ^ 64 - 1 - front) / 2 ^ (64 - n)) + length (ends_after 0 (take n (word 64 front))) ≡ n
zeros-of front n h fits =
    let other = ap ones (front-other front n h fits) in
    omega (arith, other, ones-of front n h fits, ones_of_complement n (front / 2 ^ (64 - n)) (front_below 64 n front h fits))

-- one byte more: the ends of its ones, moved after those before it and joined with them, are the ends of all in lanes
pub byte-joined : (front : ℕ) {place : ℕ} (byte : ℕ) {before more shifted : List ℕ} (count : ℕ) → place < 7
    → before ≡ in_lanes (ends_after 0 (take (8 * place) (word 64 front))) → word 8 byte ≡ take 8 (drop (8 * place) (word 64 front))
    → more ≡ in_lanes (ends_after (8 * place) (word 8 byte)) → count ≡ length (ends_after 0 (take (8 * place) (word 64 front)))
    → shifted ≡ take 16 (replicate count 0 ++ more) → zip2 bit_or before shifted ≡ in_lanes (ends_after 0 (take (8 * (place + 1)) (word 64 front)))
byte-joined front {place} byte {more} count h old byte_is new counted moved =
    let bits = word 64 front in
    let first = take (8 * place) bits in
    let after = take 8 (drop (8 * place) bits) in
    let es = ends_after 0 first in
    let fs = ends_after (8 * place) after in
    let n : 8 * (place + 1) ≡ 8 * place + 8 = omega arith in
    let len : 0 + length first ≡ 8 * place = omega (arith, length-take-le (8 * place) bits (omega (arith, h, length-word 64 front))) in
    let all : ends_after 0 (take (8 * (place + 1)) bits) ≡ es ++ fs =
    ap (λ k. ends_after 0 (take k bits)) n ∙ (ap (ends_after 0) (take-add (8 * place) 8 bits) ∙ (ends-append 0 first after ∙ ap (λ k. es ++ ends_after k after) len)) in
    let lanes : more ≡ in_lanes fs = new ∙ ap (λ b. in_lanes (ends_after (8 * place) b)) byte_is in
    (λ i. zip2 bit_or (old i) ((moved ∙ (λ j. take 16 (replicate (counted j) 0 ++ lanes j))) i)) ∙ (joined-lanes es fs ∙ ap in_lanes (sym all))
