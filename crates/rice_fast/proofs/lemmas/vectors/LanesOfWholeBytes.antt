-- Words of whole bytes in lanes, and the samples that have them as patterns.
use Rattle.rice_fast.proofs.Words.{◌≡◌, ℕ, zero, suc, ◌+◌, ◌*◌, ◌^◌, ◌<◌, ◌≤◌, ◌⊎◌, inl, inr, Bool, true, false, List, [], ◌∷◌, ◌++◌, length, map, take, drop, not, refl, sym, ◌∙◌, ap, arith, subst}
use Rattle.rice_fast.proofs.Words.{length-append, ℤ, All, flat_map, bytes_high_first, digits_l, number_l, take-add, flat_map-append, length-drop, length-take-le, take_all, All-append, All-cons}
use Rattle.rice_fast.proofs.Words.{All-drop, All-nil, All-take, pick_l_whole, bits_of, word, bits_of-high_first, pow_bytes, Parameters, IsSample, value_count, width, pattern, twos_complement}
use Rattle.rice_fast.proofs.Words.{OrdersWords, in_order, words_in_order, spelling, spellings, ordered_bytes, has_pattern}
use Rattle.rice_fast.proofs.lemmas.vectors.WordsOfBytes.{fit-in_order, length-in_order, words_read}
use Rattle.rice_fast.proofs.lemmas.{vectors.NumbersInLanes.all_of, vectors.LevelsSpelledInByteLanes.length-digits}

-- words whose bytes stay in their order
kept : (w n : ℕ) (bs : List ℕ) → words_in_order false w 0 n bs ≡ take (n * w) bs
kept w zero bs = (let none : 0 ≡ 0 * w = omega arith in ap (λ k. take k bs) none)
kept w (suc n) bs =
    let some : w + n * w ≡ suc n * w = omega arith in
    ap (λ l. take w bs ++ l) (kept w n (drop w bs)) ∙ (sym (take-add w (n * w) bs) ∙ ap (λ k. take k bs) some)

-- bytes that are put in another order are as many, and bytes
pub length-ordered : (turned : Bool) (w n : ℕ) (bs : List ℕ) → n * w ≤ length bs → length (words_in_order turned w 0 n bs) ≡ n * w
length-ordered turned w zero bs le = omega arith
length-ordered turned w (suc n) bs le =
    let some : w + n * w ≡ suc n * w = omega arith in
    let first = length-in_order turned (take w bs) ∙ length-take-le w bs (omega (arith, le, some)) in
    let rest = length-ordered turned w n (drop w bs) (omega (arith, le, some, length-drop w bs)) in
    omega (arith, length-append (in_order turned (take w bs)) (words_in_order turned w 0 n (drop w bs)), first, rest, some)

fit-ordered : (turned : Bool) (w n : ℕ) (bs : List ℕ) → All (λ v. v < 256) bs → All (λ v. v < 256) (words_in_order turned w 0 n bs)
fit-ordered turned w zero bs fit = All-nil (λ v. v < 256)
fit-ordered turned w (suc n) bs fit =
    All-append (λ v. v < 256) (in_order turned (take w bs)) (words_in_order turned w 0 n (drop w bs)) (fit-in_order turned (take w bs) (All-take (λ v. v < 256) w bs fit))
    (fit-ordered turned w n (drop w bs) (All-drop (λ v. v < 256) w bs fit))

-- the bits of words are those of their bytes
bits_of_words : (w : ℕ) (vs : List ℕ) → flat_map (word (8 * w)) vs ≡ flat_map (word 8) (flat_map (bytes_high_first w) vs)
unfolding bits_of
bits_of_words w [] = refl
bits_of_words w (v ∷ vs) =
    (λ j. sym (bits_of-high_first w v) j ++ bits_of_words w vs j) ∙ sym (flat_map-append (word 8) (bytes_high_first w v) (flat_map (bytes_high_first w) vs))

-- the bytes of words, the most significant first, and the bytes of these words in an order
pub words_ordered : (msb : Bool) (w n : ℕ) (bs : List ℕ) → length bs ≡ n * w → All (λ v. v < 2 ^ 8) bs → OrdersWords msb w bs (words_in_order (not msb) w 0 n bs)
words_ordered msb w n bs len fit =
    let q = 256 ^ w * 256 ^ 0 in
    let vs = digits_l q n (number_l 256 (words_in_order true w 0 n bs)) in
    let words = words_read true w 0 n bs (omega (arith, len)) fit in
    let read : flat_map (bytes_high_first w) vs ≡ bs = words.read ∙ take_all (n * w) bs (omega (arith, len)) in
    record {
      words = vs;
      count = (let many : w * n ≡ n * w = omega arith in ap (λ k. w * k) (length-digits q n (number_l 256 (words_in_order true w 0 n bs))) ∙ (many ∙ sym len));
      fit = subst (λ m. All (λ v. v < m) vs) (pow_bytes w) (all_of (λ v. v < 256 ^ w) vs words.fit);
      bits = bits_of_words w vs ∙ ap (flat_map (word 8)) read;
      ordered_are = by_order msb read;
    }
  where
    by_order : (msb : Bool) → let vs = digits_l (256 ^ w * 256 ^ 0) n (number_l 256 (words_in_order true w 0 n bs)) in
        flat_map (bytes_high_first w) vs ≡ bs → words_in_order (not msb) w 0 n bs ≡ flat_map (ordered_bytes msb w) vs
    by_order true read = kept w n bs ∙ (take_all (n * w) bs (omega (arith, len)) ∙ sym read)
    by_order false read =
        let ys = words_in_order true w 0 n bs in
        let size = length-ordered true w n bs (omega (arith, len)) in
        let all : take (n * w) ys ≡ ys = take_all (n * w) ys (omega (arith, size)) in
        sym (ap (λ ys. flat_map (ordered_bytes false w) (digits_l (256 ^ w * 256 ^ 0) n (number_l 256 ys))) (sym (kept w n ys ∙ all))
        ∙ ((words_read false w 0 n ys (omega (arith, size)) (fit-ordered true w n bs fit)).read ∙ all))

-- the widths of which sixteen bytes are whole words
pub whole_words : (w : ℕ) → (w ≡ 1) ⊎ ((w ≡ 2) ⊎ (w ≡ 4)) → (n : ℕ) × (16 ≡ n * w)
whole_words w (inl e) = (16, rw e refl)
whole_words w (inr (inl e)) = (8, rw e refl)
whole_words w (inr (inr e)) = (4, rw e refl)

-- bytes stay as they are where the most significant of each word comes first
pub kept_words : (msb : Bool) (w : ℕ) (bs : List ℕ) → (w ≡ 1) ⊎ ((w ≡ 2) ⊎ (w ≡ 4)) → msb ≡ true → length bs ≡ 16 → All (λ v. v < 2 ^ 8) bs → OrdersWords msb w bs bs
kept_words msb w bs widths m len fit =
    let n = whole_words w widths in
    let size : length bs ≡ n.0 * w = len ∙ n.1 in
    subst (OrdersWords msb w bs) (ap (λ t. words_in_order (not t) w 0 n.0 bs) m ∙ (kept w n.0 bs ∙ take_all (n.0 * w) bs (omega (arith, size)))) (words_ordered msb w n.0 bs size fit)

-- and where each word is a byte
pub single_words : (msb : Bool) (w : ℕ) (bs : List ℕ) → w ≡ 1 → length bs ≡ 16 → All (λ v. v < 2 ^ 8) bs → OrdersWords msb w bs bs
single_words msb w bs e len fit = rw e (subst (OrdersWords msb 1 bs) (by_order (not msb)) (words_ordered msb 1 16 bs len fit))
  where
    by_order : (turned : Bool) → words_in_order turned 1 0 16 bs ≡ bs
    by_order true = rw (← pick_l_whole 0 bs 16 len) refl
    by_order false = rw (← pick_l_whole 0 bs 16 len) refl

-- else those of each word are turned around
pub turned_words : (msb : Bool) (w n : ℕ) (bs ordered : List ℕ) → msb ≡ false → length bs ≡ n * w → All (λ v. v < 2 ^ 8) bs → ordered ≡ words_in_order true w 0 n bs → OrdersWords msb w bs ordered
turned_words msb w n bs ordered m len fit is = subst (OrdersWords msb w bs) (ap (λ t. words_in_order (not t) w 0 n bs) m ∙ sym is) (words_ordered msb w n bs len fit)

-- words of four bytes that are turned around as lanes take them
pub words_of_turned : (n : ℕ) (bs vs : List ℕ) → length bs ≡ n * 4 → All (λ v. v < 2 ^ 8) bs → vs ≡ digits_l 4294967296 n (number_l 256 (words_in_order true 4 0 n bs))
    → flat_map (word 32) vs ≡ flat_map (word 8) bs
unfolding words_ordered
words_of_turned n bs vs len fit is = ap (flat_map (word 32)) is ∙ (words_ordered false 4 n bs len fit).bits

-- samples that have words of all their bits as patterns
pub record SamplesOfWords (s : Parameters) (w : ℕ) (words : List ℕ) : Type 0 where
  pub samples : List ℤ
  pub len : length samples ≡ length words
  pub legal : All (IsSample s) samples
  pub patterns : map (pattern s) samples ≡ words
  pub spelled : spellings s samples ≡ flat_map (ordered_bytes s.msb w) words

-- words that use all bits of their bytes are samples
pub samples_of_words : (s : Parameters) (w : ℕ) (words : List ℕ) → 1 ≤ s.bits → s.bits ≡ 8 * w → w ≡ width s → All (λ v. v < 2 ^ (8 * w)) words → SamplesOfWords s w words
samples_of_words s w [] some whole wide fit = record { samples = []; len = refl; legal = All-nil (IsSample s); patterns = refl; spelled = refl }
samples_of_words s w (v ∷ words) some whole wide fit =
    let small : v < value_count s = subst (λ n. v < 2 ^ n) (sym whole) (fit 0 0 (omega arith)) in
    let x = has_pattern s some v small in
    let rest = samples_of_words s w words some whole wide (λ i d lt. fit (suc i) d (omega (arith, lt))) in
    let same : twos_complement (8 * width s) x.0 ≡ v = ap (λ n. twos_complement n x.0) (ap (λ k. 8 * k) (sym wide) ∙ sym whole) ∙ x.2 in
    let one : spelling s x.0 ≡ ordered_bytes s.msb w v = λ j. ordered_bytes s.msb (sym wide j) (same j) in
    record {
      samples = x.0 ∷ rest.samples;
      len = ap suc rest.len;
      legal = All-cons (IsSample s) x.0 rest.samples x.1 rest.legal;
      patterns = λ j. x.2 j ∷ rest.patterns j;
      spelled = λ j. one j ++ rest.spelled j;
    }
