-- Words of a few digits, found in the bytes that hold each.
use Rattle.rice_fast.proofs.Words.{◌≡◌, ℕ, zero, suc, ◌+◌, ◌-◌, ◌*◌, ◌/◌, ◌%◌, ◌^◌, ◌<◌, ◌≤◌, List, [], ◌∷◌, ◌++◌, length, take, drop, get_or, map, replicate, false, refl, sym, ◌∙◌, ap, arith, subst}
use Rattle.rice_fast.proofs.Words.{take-take, Fits, w8, All, flat_map, slice_index, range_with_len, Each1, digits_l, number_l, zip2, div-div-eq-div-mul, mod-lt, take-add, pow-add, pow_pos, drop-drop}
use Rattle.rice_fast.proofs.Words.{drop-take, length-drop, length-take-le, take-append-le, All-append, All-cons, All-nil, get_or-map-range_with_len, chunk-fits, bits_of, word, FACTORS, PLACES}
use Rattle.rice_fast.proofs.Words.{front_below, take-front, word-moved, word-parts, length-word, word-cat, word-nil, drop-bits_of, drop-seam, take-bits_of}
use Rattle.rice_fast.specs.declared.ahead.wide_words.TheConstants.{FACTORS as WIDE_FACTORS, PLACES as WIDE_PLACES}
use Rattle.rice_fast.proofs.lemmas.vectors.NumbersInLanes.{lane-more, number-append, number_below}

-- the tables

-- the row of a table at a width and a number of bits
pub table_row : (f : ℕ → ℕ → List ℕ) (n m : ℕ) (table : List (List (List ℕ))) → map (λ w. map (f w) (range_with_len 0 m)) (range_with_len 0 n) ≡ table → (w r : ℕ) → w < n → r < m
    → get_or (get_or table w []) r [] ≡ f w r
table_row f n m table all w r h k =
    ap (λ t. get_or (get_or t w []) r []) (sym all)
    ∙ (ap (λ t. get_or t r []) (get_or-map-range_with_len (λ w. map (f w) (range_with_len 0 m)) 0 n w w [] h (omega arith)) ∙ get_or-map-range_with_len (f w) 0 m r r [] k (omega arith))

-- a place and those after it, the last first
abbrev places_from : (count place : ℕ) → List ℕ
places_from zero q = []
places_from (suc k) q = (q + k) ∷ places_from k q

-- for each of some words, from one on, the places of the bytes that hold it
abbrev places : (k w r from count : ℕ) → List ℕ
places k w r a n = flat_map (λ j. places_from k ((r + j * w) / 8)) (range_with_len a n)

-- for each of some words, the power of 2 that moves it to the front of its bytes
abbrev factors : (n w r : ℕ) → List ℕ
factors n w r = map (λ j. 2 ^ ((r + j * w) % 8)) (range_with_len 0 n)

-- the tables have these places and factors: for words in two bytes,
pub places_are : (w r : ℕ) → w ≤ 9 → r < 8 → get_or (get_or PLACES w []) r [] ≡ places 2 w r 0 8
places_are w r h k = table_row (λ w r. places 2 w r 0 8) 10 8 PLACES refl w r (omega arith) k

factors_are : (w r : ℕ) → w ≤ 9 → r < 8 → get_or (get_or FACTORS w []) r [] ≡ factors 8 w r
factors_are w r h k = table_row (factors 8) 10 8 FACTORS refl w r (omega arith) k

-- and for words in four
pub wide_places_are : (w r : ℕ) → w ≤ 24 → r < 8 → get_or (get_or WIDE_PLACES w []) r [] ≡ places 4 w r 0 4
wide_places_are w r h k = table_row (λ w r. places 4 w r 0 4) 25 8 WIDE_PLACES refl w r (omega arith) k

wide_factors_are : (w r : ℕ) → r < 8 → get_or (get_or WIDE_FACTORS (w % 8) []) r [] ≡ factors 4 w r
wide_factors_are w r k =
    let a : (r + 0 * (w % 8)) % 8 ≡ (r + 0 * w) % 8 = omega arith in
    let b : (r + 1 * (w % 8)) % 8 ≡ (r + 1 * w) % 8 = omega arith in
    let c : (r + 2 * (w % 8)) % 8 ≡ (r + 2 * w) % 8 = omega arith in
    let d : (r + 3 * (w % 8)) % 8 ≡ (r + 3 * w) % 8 = omega arith in
    table_row (factors 4) 8 8 WIDE_FACTORS refl (w % 8) r (omega arith) k ∙ (λ i. 2 ^ (a i) ∷ 2 ^ (b i) ∷ 2 ^ (c i) ∷ 2 ^ (d i) ∷ [])

inside_from : (k q : ℕ) → q + k ≤ 16 → All (λ p. p < 16) (places_from k q)
inside_from zero q h = All-nil (λ p. p < 16)
inside_from (suc k) q h = All-cons (λ p. p < 16) (q + k) (places_from k q) (omega arith) (inside_from k q (omega arith))

-- all places are among sixteen where the last word begins early enough
pub places_inside : (k w r a n : ℕ) → k ≤ 8 → r + (a + n) * w < 8 * (17 - k) + w → All (λ p. p < 16) (places k w r a n)
places_inside k w r a zero few h = All-nil (λ p. p < 16)
places_inside k w r a (suc n) few h =
    let size : (a + suc n) * w ≡ a * w + w + n * w = omega arith in
    let next : (a + 1 + n) * w ≡ (a + suc n) * w = omega arith in
    All-append (λ p. p < 16) (places_from k ((r + a * w) / 8)) (places k w r (a + 1) n) (inside_from k ((r + a * w) / 8) (omega (arith, size)))
    (places_inside k w r (a + 1) n few (omega (arith, next)))

-- lanes of 8 bits are below 256, and so is the 0 past their end
lanes_below : (bytes : List ℕ) → Each1 (Fits w8) bytes → (i : ℕ) → get_or bytes i 0 < 256
lanes_below [] h i = omega arith
lanes_below (b ∷ bytes) h zero = h.0.fits
lanes_below (b ∷ bytes) h (suc i) = lanes_below bytes h.1 i

-- the byte at a place has the eight digits there
pub byte_at : (q : ℕ) (bytes : List ℕ) → q < length bytes → take 8 (drop (8 * q) (bits_of bytes)) ≡ word 8 (get_or bytes q 0)
unfolding word bits_of
byte_at q [] h = absurd (omega (arith, h))
byte_at zero (a ∷ bytes) h = refl
byte_at (suc q) (a ∷ bytes) h =
    let e : 8 * suc q ≡ suc (suc (suc (suc (suc (suc (suc (suc (8 * q)))))))) = omega arith in
    ap (λ n. take 8 (drop n (bits_of (a ∷ bytes)))) e ∙ byte_at q bytes (omega (arith, h))

-- a word after the first digits of a longer one
word-after : (size w s x : ℕ) → s + w ≤ size → word w (x * 2 ^ s % 2 ^ size / 2 ^ (size - w)) ≡ take w (drop s (word size x))
word-after size w s x h =
    let front = word s (x / 2 ^ (size - s)) in
    let rest : drop s (word size x) ≡ word (size - s) x =
    ap (drop s) (word-parts size s x (omega arith)) ∙ drop-seam front (word (size - s) x) s (length-word s (x / 2 ^ (size - s))) in
    sym (take-front size w (x * 2 ^ s % 2 ^ size) (omega arith)) ∙ (ap (take w) (word-moved size s x (omega arith))
    ∙ (take-append-le w (word (size - s) x) (replicate s false) (omega (arith, length-word (size - s) x)) ∙ ap (take w) (sym rest)))

module _ (bytes : List ℕ) (fit : (i : ℕ) → get_or bytes i 0 < 256) where
  abbrev at_places : List ℕ → List ℕ
  at_places ps = map (λ p. slice_index bytes p) ps

  fit_at : (ps : List ℕ) → All (λ b. b < 256) (at_places ps)
  fit_at [] = All-nil (λ b. b < 256)
  fit_at (p ∷ ps) = All-cons (λ b. b < 256) (slice_index bytes p) (at_places ps) (fit p) (fit_at ps)

  -- the number of the bytes from a place on
  abbrev number_at : (k q : ℕ) → ℕ
  number_at k q = number_l 256 (at_places (places_from k q))

  number_word : (k q : ℕ) → q + k ≤ length bytes → word (8 * k) (number_at k q) ≡ take (8 * k) (drop (8 * q) (bits_of bytes))
  number_word zero q h = word-nil (number_at 0 q)
  number_word (suc k) q h =
      let bits = bits_of bytes in
      let b = slice_index bytes (q + k) in
      let n : 8 * suc k ≡ 8 * k + 8 = omega arith in
      let v : b + 256 * number_at k q ≡ number_at k q * 2 ^ 8 + b = omega arith in
      let place : 8 * (q + k) ≡ 8 * q + 8 * k = omega arith in
      let last : word 8 b ≡ take 8 (drop (8 * k) (drop (8 * q) bits)) = sym (byte_at (q + k) bytes (omega (arith, h))) ∙ ap (take 8)
      (ap (λ m. drop m bits) place ∙ sym (drop-drop (8 * k) (8 * q) bits)) in
      (λ j. word (n j) (v j)) ∙ (word-cat (8 * k) 8 (number_at k q) b (fit (q + k)) ∙ ((λ j. number_word k q (omega (arith, h)) j ++ last j)
      ∙ (sym (take-add (8 * k) 8 (drop (8 * q) bits)) ∙ ap (λ m. take m (drop (8 * q) bits)) (sym n))))

  length-from : (k q : ℕ) → length (at_places (places_from k q)) ≡ k
  length-from zero q = refl
  length-from (suc k) q = ap suc (length-from k q)

  -- the bytes that hold the words, as lanes
  lanes_held : (k w r a n : ℕ) → digits_l (256 ^ k) n (number_l 256 (flat_map (λ j. at_places (places_from k ((r + j * w) / 8))) (range_with_len a n)))
      ≡ map (λ j. number_at k ((r + j * w) / 8)) (range_with_len a n)
  lanes_held k w r a zero = refl
  lanes_held k w r a (suc n) =
      let q = (r + a * w) / 8 in
      let g = at_places (places_from k q) in
      let rest = flat_map (λ j. at_places (places_from k ((r + j * w) / 8))) (range_with_len (a + 1) n) in
      let below = number_below g (fit_at (places_from k q)) in
      ap (digits_l (256 ^ k) (suc n)) (number-append g rest ∙ ap (λ m. number_l 256 g + 256 ^ m * number_l 256 rest) (length-from k q))
      ∙ (lane-more (256 ^ k) n (number_l 256 g) (number_l 256 rest) (rw (length-from k q) at below) ∙ ap (λ l. number_l 256 g ∷ l) (lanes_held k w r (a + 1) n))

  -- a word in its lane: moved to the front of its bytes, and down to the width
  abbrev lane : (k w r j : ℕ) → ℕ
  lane k w r j = number_at k ((r + j * w) / 8) * 2 ^ ((r + j * w) % 8) % 2 ^ (8 * k) / 2 ^ (8 * k - w)

  lane_word : (k w r j : ℕ) → w + 7 ≤ 8 * k → (r + j * w) / 8 + k ≤ length bytes → word w (lane k w r j) ≡ take w (drop (r + j * w) (bits_of bytes))
  lane_word k w r j few h =
      let bits = bits_of bytes in
      let at = r + j * w in
      let q = at / 8 in
      let s = at % 8 in
      let size : s + (8 * k - s) ≡ 8 * k = omega arith in
      let there : 8 * q + s ≡ at = omega arith in
      word-after (8 * k) w s (number_at k q) (omega (arith, few))
      ∙ (ap (λ v. take w (drop s v)) (number_word k q h ∙ ap (λ m. take m (drop (8 * q) bits)) (sym size))
      ∙ (ap (take w) (drop-take s (8 * k - s) (drop (8 * q) bits) ∙ ap (take (8 * k - s)) (drop-drop s (8 * q) bits))
      ∙ (take-take w (8 * k - s) (drop (8 * q + s) bits) (omega (arith, few)) ∙ ap (λ m. take w (drop m bits)) there)))

  -- these lanes spell the words
  lanes_words : (k w r a n : ℕ) → length bytes ≡ 16 → k ≤ 8 → w + 7 ≤ 8 * k → r + (a + n) * w < 8 * (17 - k) + w
      → flat_map (word w) (map (lane k w r) (range_with_len a n)) ≡ take (n * w) (drop (r + a * w) (bits_of bytes))
  lanes_words k w r a zero len some few h = (let none : 0 ≡ 0 * w = omega arith in ap (λ m. take m (drop (r + a * w) (bits_of bytes))) none)
  lanes_words k w r a (suc n) len some few h =
      let bits = bits_of bytes in
      let size : (a + suc n) * w ≡ a * w + w + n * w = omega arith in
      let next : (a + 1 + n) * w ≡ (a + suc n) * w = omega arith in
      let more : w + n * w ≡ suc n * w = omega arith in
      let place : r + (a + 1) * w ≡ (r + a * w) + w = omega arith in
      let one = lane_word k w r a few (omega (arith, len, size)) in
      let rest = lanes_words k w r (a + 1) n len some few (omega (arith, next)) ∙ ap (take (n * w)) (ap (λ m. drop m bits) place ∙ sym (drop-drop w (r + a * w) bits)) in
      (λ j. one j ++ rest j) ∙ (sym (take-add w (n * w) (drop (r + a * w) bits)) ∙ ap (λ m. take m (drop (r + a * w) bits)) more)

  lanes_fit : (k w r : ℕ) (js : List ℕ) → w ≤ 8 * k → All (λ v. v < 2 ^ w) (map (lane k w r) js)
  lanes_fit k w r [] few = All-nil (λ v. v < 2 ^ w)
  lanes_fit k w r (j ∷ js) few =
      All-cons (λ v. v < 2 ^ w) (lane k w r j) (map (lane k w r) js)
      (front_below (8 * k) w (number_at k ((r + j * w) / 8) * 2 ^ ((r + j * w) % 8) % 2 ^ (8 * k)) few (mod-lt (number_at k ((r + j * w) / 8) * 2 ^ ((r + j * w) % 8)) (pow_pos (8 * k))))
      (lanes_fit k w r js few)

-- words that lanes spell, of sixteen bytes after some bits
pub record SpellsWords (bytes : List ℕ) (w r n : ℕ) (lanes : List ℕ) : Type 0 where
  pub bits : flat_map (word w) lanes ≡ take (n * w) (drop r (bits_of bytes))
  pub fit : All (λ v. v < 2 ^ w) lanes

spells : (bytes : List ℕ) (fit : (i : ℕ) → get_or bytes i 0 < 256) (k w r n : ℕ) → length bytes ≡ 16 → k ≤ 8 → w + 7 ≤ 8 * k → r + n * w < 8 * (17 - k) + w
    → SpellsWords bytes w r n (map (lane bytes fit k w r) (range_with_len 0 n))
spells bytes fit k w r n len some few h =
    let first : r + 0 * w ≡ r = omega arith in
    let all : r + (0 + n) * w ≡ r + n * w = omega arith in
    record {
      bits = lanes_words bytes fit k w r 0 n len some few (omega (arith, h, all)) ∙ ap (λ m. take (n * w) (drop m (bits_of bytes))) first;
      fit = lanes_fit bytes fit k w r (range_with_len 0 n) (omega (arith, few));
    }

-- lanes of two bytes that begin with a word of `w` digits, moved down to it in two steps
abbrev moved_down : ℕ → List ℕ → List ℕ
moved_down w fronts = zip2 (λ a s. a / 2 ^ s) (zip2 (λ a s. a / 2 ^ s) fronts (replicate 8 1)) (replicate 8 (15 - w))

-- eight words of at most nine digits, in two bytes each
pub eight_words : (bytes picked : List ℕ) (w r : ℕ) → length bytes ≡ 16 → ((i : ℕ) → get_or bytes i 0 < 256) → w ≤ 9 → r < 8
    → picked ≡ map (λ p. slice_index bytes p) (get_or (get_or PLACES w []) r [])
    → SpellsWords bytes w r 8 (moved_down w (zip2 (λ a b. a * b % 65536) (digits_l 65536 8 (number_l 256 picked)) (get_or (get_or FACTORS w []) r [])))
eight_words bytes picked w r len fit few before e =
    subst (SpellsWords bytes w r 8) (sym ((λ i. moved_down w (zip2 (λ a b. a * b % 65536) (held i) (factors_are w r few before i))) ∙ in_one (range_with_len 0 8)))
    (spells bytes fit 2 w r 8 len (omega arith) (omega (arith, few)) (omega (arith, few, before)))
  where
    held : digits_l 65536 8 (number_l 256 picked) ≡ map (λ j. number_at bytes fit 2 ((r + j * w) / 8)) (range_with_len 0 8)
    held = ap (λ ps. digits_l 65536 8 (number_l 256 ps)) (e ∙ ap (map (λ p. slice_index bytes p)) (places_are w r few before)) ∙ lanes_held bytes fit 2 w r 0 8

    in_steps : ℕ → ℕ
    in_steps j = number_at bytes fit 2 ((r + j * w) / 8) * 2 ^ ((r + j * w) % 8) % 65536 / 2 ^ 1 / 2 ^ (15 - w)

    in_one : (js : List ℕ) → map in_steps js ≡ map (lane bytes fit 2 w r) js
    in_one [] = refl
    in_one (j ∷ js) =
        let x = number_at bytes fit 2 ((r + j * w) / 8) * 2 ^ ((r + j * w) % 8) % 65536 in
        let n : 1 + (15 - w) ≡ 16 - w = omega (arith, few) in
        let one : x / 2 ^ 1 / 2 ^ (15 - w) ≡ x / 2 ^ (16 - w) = div-div-eq-div-mul x (2 ^ 1) (2 ^ (15 - w)) ∙ ap (λ m. x / m) (sym (pow-add 2 1 (15 - w)) ∙ ap (λ k. 2 ^ k) n) in
        λ i. one i ∷ in_one js i

-- four words of at most 24 digits, in four bytes each
pub four_words : (bytes picked : List ℕ) (w r : ℕ) → length bytes ≡ 16 → ((i : ℕ) → get_or bytes i 0 < 256) → w ≤ 24 → r < 8
    → picked ≡ map (λ p. slice_index bytes p) (get_or (get_or WIDE_PLACES w []) r [])
    → SpellsWords bytes w r 4 (zip2 (λ a s. a / 2 ^ s) (zip2 (λ a b. a * b % 4294967296) (digits_l 4294967296 4 (number_l 256 picked)) (get_or (get_or WIDE_FACTORS (w % 8) []) r []))
    (replicate 4 (32 - w)))
four_words bytes picked w r len fit few before e =
    subst (SpellsWords bytes w r 4) (sym moved) (spells bytes fit 4 w r 4 len (omega arith) (omega (arith, few)) (omega (arith, few, before)))
  where
    moved : zip2 (λ a s. a / 2 ^ s) (zip2 (λ a b. a * b % 4294967296) (digits_l 4294967296 4 (number_l 256 picked)) (get_or (get_or WIDE_FACTORS (w % 8) []) r [])) (replicate 4 (32 - w))
        ≡ map (lane bytes fit 4 w r) (range_with_len 0 4)
    moved = λ i. zip2 (λ a s. a / 2 ^ s) (zip2 (λ a b. a * b % 4294967296)
        ((ap (λ ps. digits_l 4294967296 4 (number_l 256 ps)) (e ∙ ap (map (λ p. slice_index bytes p)) (wide_places_are w r few before)) ∙ lanes_held bytes fit 4 w r 0 4) i)
        (wide_factors_are w r before i))
        (replicate 4 (32 - w))

-- sixteen bytes of many
pub sixteen_loaded : (bytes : List ℕ) (q : ℕ) → q + 16 ≤ length bytes → length (take 16 (drop q bytes)) ≡ 16
sixteen_loaded bytes q h = length-take-le 16 (drop q bytes) (omega (arith, h, length-drop q bytes))

-- each of them is a byte
pub loaded_below : (bytes : List ℕ) (q : ℕ) → ((i : ℕ) → Fits w8 (get_or bytes i 0)) → (i : ℕ) → get_or (take 16 (drop q bytes)) i 0 < 256
loaded_below bytes q h = lanes_below (take 16 (drop q bytes)) (chunk-fits w8 q 16 bytes h)

-- and their bits
pub words-loaded : (bytes : List ℕ) (at n : ℕ) → at / 8 + 16 ≤ length bytes → n ≤ 120 → take n (drop (at % 8) (bits_of (take 16 (drop (at / 8) bytes)))) ≡ take n (drop at (bits_of bytes))
words-loaded bytes at n h few =
    let q = at / 8 in
    let s = at % 8 in
    let rest = drop q bytes in
    let size : s + (128 - s) ≡ 128 = omega arith in
    let place : 8 * q + s ≡ at = omega arith in
    ap (λ z. take n (drop s z)) (sym (take-bits_of 16 rest (omega (arith, h, length-drop q bytes))) ∙ ap (λ k. take k (bits_of rest)) (sym size))
    ∙ (ap (take n) (drop-take s (128 - s) (bits_of rest)) ∙ (take-take n (128 - s) (drop s (bits_of rest)) (omega (arith, few))
    ∙ ap (take n) (ap (drop s) (sym (drop-bits_of q bytes (omega (arith, h)))) ∙ (drop-drop s (8 * q) (bits_of bytes) ∙ ap (λ k. drop k (bits_of bytes)) place))))
