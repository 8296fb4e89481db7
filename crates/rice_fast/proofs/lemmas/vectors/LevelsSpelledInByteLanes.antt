-- Samples that are spelled in lanes, of any number of bytes.
use Rattle.rice_fast.proofs.Words.{◌≡◌, ℕ, zero, suc, ◌+◌, ◌-◌, ◌*◌, ◌/◌, ◌%◌, ◌^◌, ◌<◌, ◌≤◌, Bool, true, false, List, [], ◌∷◌, ◌++◌, length, take, replicate, refl, sym, ◌∙◌, ap, arith, append-nil}
use Rattle.rice_fast.proofs.Words.{All, flat_map, Each1, digits_l, number_l, pick_l, zip2, div-add-mod, mod-lt, pow-suc, nat_tests, drop_at, length-replicate, take_at, length-zip2, pick_l_whole}
use Rattle.rice_fast.proofs.Words.{pow_bytes, Parameters, IsLegal, value_at, value_count, values_at, width, twos_complement, in_order, words_in_order, ordered_bytes, spelling, spellings, offset}
use Rattle.rice_fast.proofs.Words.{bytes_are_digits, word_in_lane}
use Rattle.rice_fast.proofs.lemmas.vectors.WordsOfBytes.{pow_some}

-- samples of at most 8 bits have a byte each
pub one_byte : (s : Parameters) → s.bits ≤ 8 → width s ≡ 1
one_byte s h = grind (arith, nat_tests)

few_bits : (s : Parameters) → IsLegal s → s.bits ≤ 8 * width s
few_bits s legal = let most = legal.bits_to in grind (arith, nat_tests)

digits-more : (k m v rest : ℕ) → v < 256 ^ k → digits_l 256 (k + m) (v + 256 ^ k * rest) ≡ digits_l 256 k v ++ digits_l 256 m rest
digits-more zero m v rest lt =
    let e : v + 1 * rest ≡ rest = omega arith in
    let n : 0 + m ≡ m = omega arith in
    λ j. digits_l 256 (n j) (e j)
digits-more (suc k) m v rest lt =
    let p = 256 ^ k * rest in
    let n : suc k + m ≡ suc (k + m) = omega arith in
    let all : v + 256 ^ suc k * rest ≡ v + 256 * p = rw (pow-suc 256 k) (omega arith) in
    let first : (v + 256 * p) % 256 ≡ v % 256 = omega arith in
    let after : (v + 256 * p) / 256 ≡ v / 256 + p = omega arith in
    let small : v / 256 < 256 ^ k = omega (arith, lt, pow-suc 256 k) in
    rw (n, all) (λ j. first j ∷ (ap (digits_l 256 (k + m)) after ∙ digits-more k m (v / 256) rest small) j)

-- the lanes of a vector, read as bytes
bytes_of_lanes : (k : ℕ) (vs : List ℕ) → Each1 (λ v. v < 256 ^ k) vs → digits_l 256 (length vs * k) (number_l (256 ^ k) vs) ≡ flat_map (digits_l 256 k) vs
bytes_of_lanes k [] h = (let none : 0 * k ≡ 0 = omega arith in rw none refl)
bytes_of_lanes k (v ∷ vs) h =
    let n : suc (length vs) * k ≡ k + length vs * k = omega arith in
    rw n (digits-more k (length vs * k) v (number_l (256 ^ k) vs) h.0 ∙ ap (λ d. digits_l 256 k v ++ d) (bytes_of_lanes k vs h.1))

digits-mod : (w v : ℕ) → digits_l 256 w (v % 256 ^ w) ≡ digits_l 256 w v
digits-mod w v =
    let p = 256 ^ w in
    let all : v % p + p * (v / p) ≡ v = omega (arith, div-add-mod v p) in
    let n : w + 0 ≡ w = omega arith in
    sym (append-nil (digits_l 256 w (v % p))) ∙ (sym (digits-more w 0 (v % p) (v / p) (mod-lt v (pow_some w))) ∙ (λ j. digits_l 256 (n j) (all j)))

-- so many digits
pub length-digits : (p k v : ℕ) → length (digits_l p k v) ≡ k
length-digits p zero v = refl
length-digits p (suc k) v = ap suc (length-digits p k (v / p))

abbrev bytes_in_order : Bool → ℕ → List ℕ → List ℕ
bytes_in_order turned w vs = flat_map (λ v. in_order turned (digits_l 256 w v)) vs

words_turned : (turned : Bool) (w : ℕ) (vs : List ℕ) → words_in_order turned w 0 (length vs) (flat_map (digits_l 256 w) vs) ≡ bytes_in_order turned w vs
words_turned turned w [] = refl
words_turned turned w (v ∷ vs) =
    let one = take_at (digits_l 256 w v) (flat_map (digits_l 256 w) vs) w (length-digits 256 w v) in
    let rest = ap (words_in_order turned w 0 (length vs)) (drop_at (digits_l 256 w v) (flat_map (digits_l 256 w) vs) w (length-digits 256 w v)) ∙ words_turned turned w vs in
    λ j. in_order turned (one j) ++ rest j

-- levels of samples, in lanes of `k` bytes, from which an offset is taken
pub record SpelledLevels (s : Parameters) (w n o : ℕ) (levels : List ℕ) : Type 0 where
  pub legal : IsLegal s
  pub wide : width s ≡ w
  pub offset_is : o ≡ offset s
  pub len : length levels ≡ n
  pub levels_are : All (λ l. l < value_count s) levels

abbrev words_of : (k n o : ℕ) → List ℕ → List ℕ
words_of k n o levels = zip2 (λ a b. (a + (256 ^ k - b)) % 256 ^ k) levels (replicate n o)

words_below : (k n o : ℕ) (levels : List ℕ) → Each1 (λ v. v < 256 ^ k) (words_of k n o levels)
words_below k n o [] = tt
words_below k zero o (l ∷ levels) = tt
words_below k (suc n) o (l ∷ levels) = (mod-lt (l + (256 ^ k - o)) (pow_some k), words_below k n o levels)

length-words : (k n o : ℕ) (levels : List ℕ) → length levels ≡ n → length (words_of k n o levels) ≡ n
length-words k n o levels len = length-zip2 (λ a b. (a + (256 ^ k - b)) % 256 ^ k) levels (replicate n o) (omega (arith, length-replicate n o)) ∙ len

words_spelled : (s : Parameters) (k w n o : ℕ) (levels : List ℕ) → w ≤ k → SpelledLevels s w n o levels → bytes_in_order s.msb w (words_of k n o levels) ≡ spellings s (values_at s levels)
words_spelled s k w n o [] le h = refl
words_spelled s k w zero o (l ∷ levels) le h = absurd (omega (arith, h.len))
words_spelled s k w (suc n) o (l ∷ levels) le h =
    let v = (l + (256 ^ k - o)) % 256 ^ k in
    let wide : width s ≡ w = h.wide in
    let few : s.bits ≤ 8 * w = omega (arith, few_bits s h.legal, wide) in
    let word : v % 256 ^ w ≡ twos_complement (8 * w) (value_at s l) =
    rw (pow_bytes k, pow_bytes w) (word_in_lane s (8 * k) (8 * w) l o h.legal.bits_from few (omega (arith, le)) h.offset_is (h.levels_are 0 0 (omega arith))) in
    let one : in_order s.msb (digits_l 256 w v) ≡ spelling s (value_at s l) =
    ap (in_order s.msb) (sym (digits-mod w v) ∙ ap (digits_l 256 w) word) ∙ (sym (bytes_are_digits s.msb w (twos_complement (8 * w) (value_at s l)))
    ∙ ap (λ w. ordered_bytes s.msb w (twos_complement (8 * w) (value_at s l))) (sym wide)) in
    let rest = words_spelled s k w n o levels le (record {
      legal = h.legal;
      wide = h.wide;
      offset_is = h.offset_is;
      len = omega (arith, h.len);
      levels_are = λ i d lt. h.levels_are (suc i) d
          (omega (arith, lt));
    }) in
    λ j. one j ++ rest j

-- lanes of single bytes
single : (turned : Bool) (vs : List ℕ) → Each1 (λ v. v < 256) vs → bytes_in_order turned 1 vs ≡ vs
single turned [] h = refl
single turned (v ∷ vs) h = (let e : v % 256 ≡ v = omega (arith, h.0) in λ j. one turned (e j) j ++ single turned vs h.1 j)
  where
    one : (turned : Bool) (b : ℕ) → in_order turned (b ∷ []) ≡ b ∷ []
    one true b = refl
    one false b = refl

-- levels in lanes of a byte, less the offset, are the bytes that spell the samples
pub bytes-spelled : (s : Parameters) (n o : ℕ) (levels : List ℕ) → SpelledLevels s 1 n o levels → zip2 (λ a b. (a + (256 - b)) % 256) levels (replicate n o) ≡ spellings s (values_at s levels)
bytes-spelled s n o levels h = sym (single s.msb (words_of 1 n o levels) (words_below 1 n o levels)) ∙ words_spelled s 1 1 n o levels (omega arith) h

lanes_in_bytes : (k n o : ℕ) (levels : List ℕ) → length levels ≡ n → digits_l 256 (n * k) (number_l (256 ^ k) (words_of k n o levels)) ≡ flat_map (digits_l 256 k) (words_of k n o levels)
lanes_in_bytes k n o levels len =
    ap (λ n'. digits_l 256 (n' * k) (number_l (256 ^ k) (words_of k n o levels))) (sym (length-words k n o levels len)) ∙ bytes_of_lanes k (words_of k n o levels) (words_below k n o levels)

-- levels in lanes of `w` bytes, less the offset, are bytes that spell the samples where those of each lane are in the order of the setting
pub lanes-spelled : (s : Parameters) (turned : Bool) (w n o : ℕ) (levels : List ℕ) → SpelledLevels s w n o levels → turned ≡ s.msb
    → words_in_order turned w 0 n (digits_l 256 (n * w) (number_l (256 ^ w) (words_of w n o levels))) ≡ spellings s (values_at s levels)
lanes-spelled s turned w n o levels h order =
    let vs = words_of w n o levels in
    (λ j. words_in_order (order j) w 0 (sym (length-words w n o levels h.len) j) (lanes_in_bytes w n o levels h.len j))
    ∙ (words_turned s.msb w vs ∙ words_spelled s w w n o levels (omega arith) h)

-- the places of three bytes of each lane of four
abbrev three_places : Bool → List ℕ
three_places true = 2 ∷ 1 ∷ 0 ∷ 6 ∷ 5 ∷ 4 ∷ 10 ∷ 9 ∷ 8 ∷ 14 ∷ 13 ∷ 12 ∷ 18 ∷ 17 ∷ 16 ∷ 22 ∷ 21 ∷ 20 ∷ 26 ∷ 25 ∷ 24 ∷ 30 ∷ 29 ∷ 28 ∷ 0 ∷ 0 ∷ 0 ∷ 0 ∷ 0 ∷ 0 ∷ 0 ∷ 0 ∷ []
three_places false = 0 ∷ 1 ∷ 2 ∷ 4 ∷ 5 ∷ 6 ∷ 8 ∷ 9 ∷ 10 ∷ 12 ∷ 13 ∷ 14 ∷ 16 ∷ 17 ∷ 18 ∷ 20 ∷ 21 ∷ 22 ∷ 24 ∷ 25 ∷ 26 ∷ 28 ∷ 29 ∷ 30 ∷ 0 ∷ 0 ∷ 0 ∷ 0 ∷ 0 ∷ 0 ∷ 0 ∷ 0 ∷ []

threes_picked : (turned : Bool) (vs : List ℕ) → length vs ≡ 8 → let bytes = flat_map (digits_l 256 4) vs in take 24 (pick_l 0 (bytes ++ bytes) (three_places turned)) ≡ bytes_in_order turned 3 vs
threes_picked true vs n = rw (← pick_l_whole 0 vs 8 n) refl
threes_picked false vs n = rw (← pick_l_whole 0 vs 8 n) refl

-- these bytes spell the samples
pub threes-spelled : (s : Parameters) (turned : Bool) (o : ℕ) (levels : List ℕ) → SpelledLevels s 3 8 o levels → turned ≡ s.msb
    → let bytes = digits_l 256 32 (number_l 4294967296 (words_of 4 8 o levels)) in take 24 (pick_l 0 (bytes ++ bytes) (three_places turned)) ≡ spellings s (values_at s levels)
threes-spelled s turned o levels h order =
    ap (λ bytes. take 24 (pick_l 0 (bytes ++ bytes) (three_places turned))) (lanes_in_bytes 4 8 o levels h.len)
    ∙ (threes_picked turned (words_of 4 8 o levels) (length-words 4 8 o levels h.len) ∙ (ap (λ t. bytes_in_order t 3 (words_of 4 8 o levels)) order ∙ words_spelled s 4 3 8 o levels (omega arith) h))
