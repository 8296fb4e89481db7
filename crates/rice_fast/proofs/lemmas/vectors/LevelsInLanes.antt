-- Levels in lanes: of the values that words spell, and to their patterns.
use Rattle.rice_fast.proofs.Words.{◌≡◌, ℕ, zero, suc, ◌+◌, ◌-◌, ◌*◌, ◌%◌, ◌^◌, ◌<◌, ◌≤◌, inl, inr, Bool, true, false, cond, List, [], ◌∷◌, ◌++◌, get_or, length, map, replicate, drop, take, refl, sym}
use Rattle.rice_fast.proofs.Words.{subst, ◌∙◌, ap, arith, pos, negsuc, neg_ℤ, ◌+ℤ◌, All, bit_and, flat_map, Each1, digits_l, number_l, zip2, flat_map-append, drop-drop, length-drop, length-take-le}
use Rattle.rice_fast.proofs.Words.{take-append-drop, take_all, All-drop, All-from_get_or, All-take, ints, and_mask, pow_pos, mod-mod-pow, pow_mono, Parameters, value_at, value_count, values_at, width}
use Rattle.rice_fast.proofs.Words.{pattern, twos_complement, words_in_order, ordered_bytes, spelling, spellings, offset, word_in_lane, mod_once, half_pow}
use Rattle.std.proofs.Common.{mod-eq_of_lt}
use Rattle.std.proofs.lemmas.List.{take-take}
use Rattle.rice_fast.proofs.lemmas.vectors.WordsOfBytes.{AreWords, words_read}

-- the level that is read from a word tells the word, also where it is not legal
level_of_word : (s : Parameters) (more word o : ℕ) → 1 ≤ s.bits → s.bits ≤ more → more ≤ 32 → o ≡ offset s → word < 2 ^ more → twos_complement more (value_at s ((word + o) % 2 ^ 32 % 2 ^ more)) ≡ word
level_of_word s more word o h le few e lt =
    let all : 32 ≡ 32 - more + more = omega arith in
    let low : (word + o) % 2 ^ 32 % 2 ^ more ≡ (word + offset s) % 2 ^ more = ap (λ k. (word + o) % 2 ^ k % 2 ^ more) all
    ∙ (mod-mod-pow (word + o) (32 - more) more ∙ ap (λ m. (word + m) % 2 ^ more) e) in
    ap (λ l. twos_complement more (value_at s l)) low ∙ by_sign s.signed
  where
    halves : (half count : ℕ) → count ≡ 2 ^ more → half ≤ count → 0 < half → word < count → twos_complement more (neg_ℤ (pos half) +ℤ pos ((word + half) % count)) ≡ word
    halves zero count e le some lt = absurd (omega arith)
    halves (suc half) count e le some lt =
        elim (mod_once (word + suc half) count (omega arith)) [
          | inl p ↦
              let v : neg_ℤ (pos (suc half)) +ℤ pos ((word + suc half) % count) ≡ pos word = ap (λ m. neg_ℤ (pos (suc half)) +ℤ pos m) p.0 ∙ (omega (arith, ints)) in
              ap (twos_complement more) v
          | inr p ↦
              let m : (word + suc half) % count ≡ word + suc half - count = omega (arith, p.0) in
              let v : neg_ℤ (pos (suc half)) +ℤ pos ((word + suc half) % count) ≡ negsuc (count - 1 - word) = ap (λ m. neg_ℤ (pos (suc half)) +ℤ pos m) m ∙ (omega (arith, ints, p.1)) in
              ap (twos_complement more) v ∙ omega (arith, e, lt)
        ]

    by_sign : (b : Bool) → twos_complement more (cond b (neg_ℤ (pos (2 ^ (s.bits - 1)))) (pos 0) +ℤ pos ((word + cond b (2 ^ (s.bits - 1)) 0) % 2 ^ more)) ≡ word
    by_sign true = halves (2 ^ (s.bits - 1)) (2 ^ more) refl (pow_mono {i = s.bits - 1} {j = more} (omega arith)) (pow_pos (s.bits - 1)) lt
    by_sign false =
        let m : (word + 0) % 2 ^ more ≡ word = let same : word + 0 ≡ word = omega arith in ap (λ n. n % 2 ^ more) same ∙ mod-eq_of_lt lt in
        let z : pos 0 +ℤ pos word ≡ pos word = omega (arith, ints) in
        ap (λ n. twos_complement more (pos 0 +ℤ pos n)) m ∙ ap (twos_complement more) z

-- the number of values below 0 fits lanes that have room for samples
pub offset_fits : (s : Parameters) (k : ℕ) → 1 ≤ s.bits → s.bits ≤ k → offset s < 2 ^ k
offset_fits s k h le = by_sign s.signed
  where
    by_sign : (b : Bool) → cond b (2 ^ (s.bits - 1)) 0 < 2 ^ k
    by_sign true =
        let few : 2 ^ (s.bits - 1) ≤ 2 ^ (k - 1) = pow_mono {i = s.bits - 1} {j = k - 1} (omega arith) in
        let some = pow_pos (k - 1) in
        let halves = half_pow k (omega arith) in
        omega arith
    by_sign false = pow_pos k

-- the greatest of some values fits lanes that have room for these
pub greatest_fits : (greatest bits k : ℕ) → greatest + 1 ≡ 2 ^ bits → bits ≤ k → greatest < 2 ^ k
greatest_fits greatest bits k e le = (let most : 2 ^ bits ≤ 2 ^ k = pow_mono {i = bits} {j = k} le in omega arith)

-- and so does each level of a sample
pub level_fits : (s : Parameters) (l k : ℕ) → l < value_count s → s.bits ≤ k → l < 2 ^ k
level_fits s l k lt le = (let most : 2 ^ s.bits ≤ 2 ^ k = pow_mono {i = s.bits} {j = k} le in omega (arith, lt, most))

-- the low digits of a number that wraps, in a lane
low_in_lane : (k n a greatest : ℕ) → n ≤ k → greatest + 1 ≡ 2 ^ n → bit_and (a % 2 ^ k) greatest ≡ a % 2 ^ n
low_in_lane k n a greatest le e =
    let mask : greatest ≡ 2 ^ n - 1 = omega arith in
    let wide : k ≡ k - n + n = omega arith in
    ap (bit_and (a % 2 ^ k)) mask ∙ (and_mask (a % 2 ^ k) n ∙ (ap (λ m. a % 2 ^ m % 2 ^ n) wide ∙ mod-mod-pow a (k - n) n))

-- a word plus the offset is the level of the value that this word spells
one_word : (s : Parameters) (k w v o greatest : ℕ) → 1 ≤ s.bits → s.bits ≤ 8 * w → w ≡ width s → 8 * w ≤ k → k ≤ 32 → o ≡ offset s → greatest + 1 ≡ 2 ^ (8 * w) → v < 2 ^ (8 * w)
    → spelling s (value_at s (bit_and ((v + o) % 2 ^ k) greatest)) ≡ ordered_bytes s.msb w v
one_word s k w v o greatest some holds is room few e g lt =
    let n = 8 * w in
    let l = bit_and ((v + o) % 2 ^ k) greatest in
    let all : 32 ≡ 32 - n + n = omega arith in
    let low : l ≡ (v + o) % 2 ^ n = low_in_lane k n (v + o) greatest room g in
    let same : (v + o) % 2 ^ 32 % 2 ^ n ≡ (v + o) % 2 ^ n = ap (λ m. (v + o) % 2 ^ m % 2 ^ n) all ∙ mod-mod-pow (v + o) (32 - n) n in
    let digits : twos_complement n (value_at s l) ≡ v = ap (λ m. twos_complement n (value_at s m)) (low ∙ sym same) ∙ level_of_word s n v o some holds (omega arith) e lt in
    (λ j. ordered_bytes s.msb (sym is j) (twos_complement (8 * sym is j) (value_at s l))) ∙ ap (ordered_bytes s.msb w) digits

-- and so in each lane
pub words_spelled : (s : Parameters) (k n w o greatest : ℕ) (vs : List ℕ) → 1 ≤ s.bits → s.bits ≤ 8 * w → w ≡ width s → 8 * w ≤ k → k ≤ 32 → o ≡ offset s → greatest + 1 ≡ 2 ^ (8 * w)
    → length vs ≡ n → ((i : ℕ) → get_or vs i 0 < 2 ^ (8 * w))
    → spellings s (values_at s (zip2 bit_and (zip2 (λ a b. (a + b) % 2 ^ k) vs (replicate n o)) (replicate n greatest))) ≡ flat_map (ordered_bytes s.msb w) vs
words_spelled s k n w o greatest [] some holds is room few e g len fit = refl
words_spelled s k zero w o greatest (v ∷ vs) some holds is room few e g len fit = absurd (omega arith)
words_spelled s k (suc n) w o greatest (v ∷ vs) some holds is room few e g len fit =
    let one = one_word s k w v o greatest some holds is room few e g (fit 0) in
    let rest = words_spelled s k n w o greatest vs some holds is room few e g (omega arith) (λ i. fit (suc i)) in
    λ j. one j ++ rest j

-- a level less the offset, in each lane, is the pattern of the sample
pub patterns_in_lanes : (s : Parameters) (k n o greatest : ℕ) (ls : List ℕ) → 1 ≤ s.bits → s.bits ≤ k → o ≡ offset s → greatest + 1 ≡ value_count s → length ls ≡ n → Each1 (λ l. l < value_count s) ls
    → zip2 bit_and (zip2 (λ a b. (a + (2 ^ k - b)) % 2 ^ k) ls (replicate n o)) (replicate n greatest) ≡ map (pattern s) (values_at s ls)
patterns_in_lanes s k n o greatest [] some room e g len legal = refl
patterns_in_lanes s k zero o greatest (l ∷ ls) some room e g len legal = absurd (omega arith)
patterns_in_lanes s k (suc n) o greatest (l ∷ ls) some room e g len legal =
    let mask : greatest ≡ 2 ^ s.bits - 1 = omega (arith, g) in
    let one : bit_and ((l + (2 ^ k - o)) % 2 ^ k) greatest ≡ pattern s (value_at s l) = ap (bit_and ((l + (2 ^ k - o)) % 2 ^ k)) mask
    ∙ (and_mask ((l + (2 ^ k - o)) % 2 ^ k) s.bits ∙ word_in_lane s k s.bits l o some (omega arith) room e legal.0) in
    let rest = patterns_in_lanes s k n o greatest ls some room e g (omega arith) legal.1 in
    λ j. one j ∷ rest j

-- words of one byte are these bytes
pub single_bytes : (msb : Bool) (vs : List ℕ) → ((i : ℕ) → get_or vs i 0 < 2 ^ 8) → flat_map (ordered_bytes msb 1) vs ≡ vs
single_bytes msb [] fit = refl
single_bytes msb (v ∷ vs) fit = (let e : v % 256 ≡ v = omega (arith, fit 0) in λ j. (one msb v ∙ ap (λ b. b ∷ []) e) j ++ single_bytes msb vs (λ i. fit (suc i)) j)
  where
    one : (msb : Bool) (v : ℕ) → ordered_bytes msb 1 v ≡ v % 256 ∷ []
    one true v = refl
    one false v = refl

-- what holds of each of two lists holds of each of both
pub Each1-append : (P : ℕ → Type 0) (xs ys : List ℕ) → Each1 P xs → Each1 P ys → Each1 P (xs ++ ys)
Each1-append P [] ys h k = k
Each1-append P (x ∷ xs) ys h k = (h.0, Each1-append P xs ys h.1 k)

-- numbers of which each is below a limit are so at any place, also past the end
each_at : (m : ℕ) (xs : List ℕ) (i : ℕ) → 0 < m → Each1 (λ x. x < m) xs → get_or xs i 0 < m
each_at m [] i some h = some
each_at m (x ∷ xs) zero some h = h.0
each_at m (x ∷ xs) (suc i) some h = each_at m xs i some h.1

-- lanes that are read from the bytes of words, in the order of these words
pub words_of_lanes : (msb turned : Bool) (w n k : ℕ) (bytes vs : List ℕ) → turned ≡ msb → length bytes ≡ n * w → length bytes ≡ k → ((i : ℕ) → get_or bytes i 0 < 2 ^ 8)
    → vs ≡ digits_l (256 ^ w * 256 ^ 0) n (number_l 256 (words_in_order turned w 0 n (take k bytes))) → flat_map (ordered_bytes msb w) vs ≡ bytes
words_of_lanes msb turned w n k bytes vs order len size fit is =
    let all : take k bytes ≡ bytes = take_all k bytes (omega (arith, size)) in
    ap (flat_map (ordered_bytes msb w)) (is ∙ (λ j. digits_l (256 ^ w * 256 ^ 0) n (number_l 256 (words_in_order (order j) w 0 n (all j)))))
    ∙ ((words_read msb w 0 n bytes (omega (arith, len)) (All-from_get_or (λ b. b < 256) bytes 0 (λ i lt. fit i))).read ∙ take_all (n * w) bytes (omega (arith, len)))

abbrev threes_of : Bool → List ℕ → List ℕ
threes_of msb bytes = digits_l 4294967296 4 (number_l 256 (words_in_order msb 3 1 4 bytes))

-- words of the first twelve of 24 bytes, and of the last twelve, one after the other
pub record ThreesOfHalves (msb turned : Bool) (bytes low high words : List ℕ) : Type 0 where
  pub order : turned ≡ msb
  pub len : length bytes ≡ 24
  pub fit : (i : ℕ) → get_or bytes i 0 < 2 ^ 8
  pub low_is : low ≡ words_in_order turned 3 1 4 (take 16 bytes)
  pub high_is : high ≡ words_in_order turned 3 1 4 (drop 4 (take 16 (drop 8 bytes)))
  pub words_are : words ≡ digits_l 4294967296 4 (number_l 256 low) ++ digits_l 4294967296 4 (number_l 256 high)

module _ {msb turned : Bool} {bytes low_bytes high_bytes words : List ℕ} (h : ThreesOfHalves msb turned bytes low_bytes high_bytes words) where
  last : drop 4 (take 16 (drop 8 bytes)) ≡ drop 12 bytes
  last = ap (drop 4) (take_all 16 (drop 8 bytes) (omega (arith, h.len, length-drop 8 bytes))) ∙ drop-drop 4 8 bytes

  whole : All (λ b. b < 256) bytes
  whole = All-from_get_or (λ b. b < 256) bytes 0 (λ i lt. h.fit i)

  low : AreWords msb 3 4 (take 16 bytes) (threes_of msb (take 16 bytes))
  low = words_read msb 3 1 4 (take 16 bytes) (omega (arith, h.len, length-take-le 16 bytes (omega (arith, h.len)))) (All-take (λ b. b < 256) 16 bytes whole)

  high : AreWords msb 3 4 (drop 12 bytes) (threes_of msb (drop 12 bytes))
  high = words_read msb 3 1 4 (drop 12 bytes) (omega (arith, h.len, length-drop 12 bytes)) (All-drop (λ b. b < 256) 12 bytes whole)

  halves : words ≡ threes_of msb (take 16 bytes) ++ threes_of msb (drop 12 bytes)
  halves =
      h.words_are ∙ (λ j. digits_l 4294967296 4 (number_l 256 ((h.low_is ∙ ap (λ t. words_in_order t 3 1 4 (take 16 bytes)) h.order) j))
      ++ digits_l 4294967296 4 (number_l 256 ((h.high_is ∙ (λ j. words_in_order (h.order j) 3 1 4 (last j))) j)))

  -- the words of both halves spell the bytes
  pub halves_read : flat_map (ordered_bytes msb 3) words ≡ bytes
  halves_read =
      ap (flat_map (ordered_bytes msb 3)) halves ∙ (flat_map-append (ordered_bytes msb 3) (threes_of msb (take 16 bytes)) (threes_of msb (drop 12 bytes))
      ∙ ((λ j. (low.read ∙ take-take 12 16 bytes (omega arith)) j ++ (high.read ∙ take_all 12 (drop 12 bytes) (omega (arith, h.len, length-drop 12 bytes))) j) ∙ take-append-drop 12 bytes))

  -- and have three bytes each
  pub halves_fit : (i : ℕ) → get_or words i 0 < 2 ^ 24
  halves_fit i =
      each_at (2 ^ 24) words i (omega arith) (subst (Each1 (λ v. v < 2 ^ 24)) (sym halves)
      (Each1-append (λ v. v < 2 ^ 24) (threes_of msb (take 16 bytes)) (threes_of msb (drop 12 bytes)) low.fit high.fit))
