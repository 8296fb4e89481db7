-- The words of bytes in either order, in the lanes of vectors.
use Rattle.rice_fast.proofs.Words.{◌≡◌, ℕ, zero, suc, ◌+◌, ◌*◌, ◌/◌, ◌%◌, ◌^◌, ◌<◌, ◌≤◌, Bool, true, false, List, [], ◌∷◌, ◌++◌, length, take, drop, replicate, reverse, refl, sym, ◌∙◌, ap, arith}
use Rattle.rice_fast.proofs.Words.{subst, All, flat_map, Each1, digits_l, number_l, mul-le-mul_left, pow-suc, take-add, length-drop, length-reverse, length-take-le, All-drop, All-take}
use Rattle.rice_fast.proofs.Words.{All-permutation, IsPermutation-reverse, in_order, words_in_order, ordered_bytes, bytes_are_digits, in_order-twice}
use Rattle.rice_fast.proofs.lemmas.vectors.NumbersInLanes.{lane-more, number-append, number_below}

-- a power of 256 is not 0
pub pow_some : (k : ℕ) → 0 < 256 ^ k
pow_some zero = omega arith
pow_some (suc k) = omega (arith, pow_some k, pow-suc 256 k)

digits_of_number : (g : List ℕ) → All (λ b. b < 256) g → digits_l 256 (length g) (number_l 256 g) ≡ g
digits_of_number [] fit = refl
digits_of_number (x ∷ g) fit =
    let low = fit 0 0 (omega arith) in
    let first : (x + 256 * number_l 256 g) % 256 ≡ x = omega (arith, low) in
    let after : (x + 256 * number_l 256 g) / 256 ≡ number_l 256 g = omega (arith, low) in
    let rest = ap (digits_l 256 (length g)) after ∙ digits_of_number g (λ i d lt. fit (suc i) d (omega (arith, lt))) in
    λ j. first j ∷ rest j

number-zeros : (n : ℕ) (r : List ℕ) → number_l 256 (replicate n 0 ++ r) ≡ 256 ^ n * number_l 256 r
number-zeros zero r = omega arith
number-zeros (suc n) r = rw (number-zeros n r, pow-suc 256 n) (omega arith)

-- bytes in the other order are as many
pub length-in_order : (turned : Bool) (g : List ℕ) → length (in_order turned g) ≡ length g
length-in_order true g = length-reverse g
length-in_order false g = refl

-- and are bytes still
pub fit-in_order : (turned : Bool) (g : List ℕ) → All (λ b. b < 256) g → All (λ b. b < 256) (in_order turned g)
fit-in_order true g fit = All-permutation (λ b. b < 256) g (reverse g) (IsPermutation-reverse g) fit
fit-in_order false g fit = fit

-- the bytes of a word's number are the word's bytes
word_read : (msb : Bool) (w : ℕ) (g : List ℕ) → length g ≡ w → All (λ b. b < 256) g → ordered_bytes msb w (number_l 256 (in_order msb g)) ≡ g
word_read msb w g len fit =
    let ordered = in_order msb g in
    bytes_are_digits msb w (number_l 256 ordered)
    ∙ (ap (λ k. in_order msb (digits_l 256 k (number_l 256 ordered))) (sym (length-in_order msb g ∙ len))
    ∙ (ap (in_order msb) (digits_of_number ordered (fit-in_order msb g fit)) ∙ in_order-twice msb g))

-- bytes, read as lanes of `w` and `more` bytes, are words of `w` bytes
pub record AreWords (msb : Bool) (w n : ℕ) (bytes words : List ℕ) : Type 0 where
  pub read : flat_map (ordered_bytes msb w) words ≡ take (n * w) bytes
  pub fit : Each1 (λ v. v < 256 ^ w) words

-- so they are read as words
pub words_read : (msb : Bool) (w more n : ℕ) (xs : List ℕ) → n * w ≤ length xs → All (λ b. b < 256) xs → AreWords msb w n xs
    (digits_l (256 ^ w * 256 ^ more) n (number_l 256 (words_in_order msb w more n xs)))
words_read msb w more zero xs le fit = record { read = (let none : 0 ≡ 0 * w = omega arith in ap (λ n. take n xs) none); fit = tt }
words_read msb w more (suc n) xs le fit =
    let g = take w xs in
    let r = drop w xs in
    let some : suc n * w ≡ w + n * w = omega arith in
    let size : length g ≡ w = length-take-le w xs (omega (arith, le, some)) in
    let small = All-take (λ b. b < 256) w xs fit in
    let v = number_l 256 (in_order msb g) in
    let len : length (in_order msb g) ≡ w = length-in_order msb g ∙ size in
    let after = words_in_order msb w more n r in
    let rest = words_read msb w more n r (omega (arith, le, some, length-drop w xs)) (All-drop (λ b. b < 256) w xs fit) in
    let below : v < 256 ^ w = subst (λ k. v < 256 ^ k) len (number_below (in_order msb g) (fit-in_order msb g small)) in
    let inside : v < 256 ^ w * 256 ^ more = omega (arith, below, mul-le-mul_left (256 ^ w) (pow_some more)) in
    let all : number_l 256 (in_order msb g ++ (replicate more 0 ++ after)) ≡ v + 256 ^ w * 256 ^ more * number_l 256 after =
    number-append (in_order msb g) (replicate more 0 ++ after) ∙ rw (len, number-zeros more after) (omega arith) in
    let lanes = ap (digits_l (256 ^ w * 256 ^ more) (suc n)) all ∙ lane-more (256 ^ w * 256 ^ more) n v (number_l 256 after) inside in
    record {
      read = ap (flat_map (ordered_bytes msb w)) lanes ∙ ((λ j. word_read msb w g size small j ++ rest.read j) ∙ (sym (take-add w (n * w) xs) ∙ ap (λ k. take k xs) (sym some)));
      fit = subst (Each1 (λ v. v < 256 ^ w)) (sym lanes) (below, rest.fit);
    }
