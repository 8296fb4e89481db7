-- Blocks without compression, copied as the bytes that they are.
use Rattle.rice_fast.proofs.Words.{◌≡◌, ℕ, zero, suc, ◌+◌, ◌-◌, ◌*◌, ◌/◌, ◌^◌, ◌<◌, ◌≤◌, ◌==◌, Bool, true, false, cond, List, [], ◌∷◌, ◌++◌, length, take, drop, map, refl, sym, ◌∙◌, ap, subst, arith}
use Rattle.rice_fast.proofs.Words.{take-take, length-append, None, ℤ, pos, inl, inr, ◌⊎◌, All, flat_map, nat_le, slice_index_or, put_chunk, mul-div_cancel_left, mul-le-mul_right, take-add, cases_lt}
use Rattle.rice_fast.proofs.Words.{nat_tests, flat_map-append, drop-drop, drop-take, drop_at, get_or-map, length-map, length-take-le, take_at, All-append, All-cons, All-nil, All-take}
use Rattle.rice_fast.proofs.Words.{take_more_put_chunk, number_of, word, length-word, number_of-word, Parameters, IsLegal, IsSample, id_len, level, value_at, value_count, values_at, width, place}
use Rattle.rice_fast.proofs.Words.{last_number, last_of, pattern, OrdersWords, ordered_bytes, spellings, same_pattern, sample_at, pattern_fits, last_at, level_of_value, value_of_level, BlockData}
use Rattle.rice_fast.proofs.Words.{NoCompression, IsReference, GivesBlock, SpelledAhead, IsCopied, WordsAhead, copied_bits, contents_of_patterns}
use Rattle.std.proofs.Common.{take-append-drop}
use Rattle.std.specs.Prelude.{◌&&◌}
use Rattle.rice_fast.proofs.lemmas.vectors.LanesOfWholeBytes.{SamplesOfWords, samples_of_words}

-- A block without compression is buffered, and the bytes begin with those of its samples.
pub record CopiedBlock (buffered : List Bool) (s : Parameters) (width : ℕ) (bytes : List ℕ) : Type 0 where
  pub there : copied_bits s width ≤ length buffered
  pub id : word (id_len s) (2 ^ id_len s - 1) ≡ take (id_len s) buffered
  pub words : WordsAhead buffered s width (width * s.block) bytes

-- the width of copied words is that in which their samples are spelled
pub copied_width : (s : Parameters) (w : ℕ) → IsCopied s w → w ≡ width s
copied_width s w h = elim h.widths [
  | inl e ↦ (let b : s.bits ≡ 8 = omega (arith, h.whole, e) in let v : width s ≡ 1 = grind (arith, nat_tests) in e ∙ sym v)
  | inr other ↦ elim other [
    | inl e ↦ (let b : s.bits ≡ 16 = omega (arith, h.whole, e) in let v : width s ≡ 2 = grind (arith, nat_tests) in e ∙ sym v)
    | inr e ↦
        let b : s.bits ≡ 32 = omega (arith, h.whole, e) in
        let v : width s ≡ 4 = ap (λ n. cond (nat_le n 8) 1 (cond (nat_le n 16) 2 (cond (s.three && nat_le n 24) 3 4))) b ∙ ap (λ t. cond t 3 4) (never s.three) in
        e ∙ sym v
  ]
]
  where
    never : (three : Bool) → (three && false) ≡ false
    never true = refl
    never false = refl

some_bytes : (s : Parameters) (w : ℕ) → IsCopied s w → 0 < w
some_bytes s w h = elim h.widths [ inl e ↦ omega (arith, e) | inr other ↦ elim other [ inl e ↦ omega (arith, e) | inr e ↦ omega (arith, e) ] ]

-- words of whole bytes
length-ordered : (msb : Bool) (w v : ℕ) → (w ≡ 1) ⊎ ((w ≡ 2) ⊎ (w ≡ 4)) → length (ordered_bytes msb w v) ≡ w
length-ordered true w v widths = elim widths [
  | inl e ↦ ap (λ k. length (ordered_bytes true k v)) e ∙ sym e
  | inr other ↦ elim other [ inl e ↦ ap (λ k. length (ordered_bytes true k v)) e ∙ sym e | inr e ↦ ap (λ k. length (ordered_bytes true k v)) e ∙ sym e ]
]
length-ordered false w v widths = elim widths [
  | inl e ↦ ap (λ k. length (ordered_bytes false k v)) e ∙ sym e
  | inr other ↦ elim other [ inl e ↦ ap (λ k. length (ordered_bytes false k v)) e ∙ sym e | inr e ↦ ap (λ k. length (ordered_bytes false k v)) e ∙ sym e ]
]

-- texts of words that are all as long, the first of them, and the one at a place
length-texts : {A : Type 0} (f : ℕ → List A) (k : ℕ) (ws : List ℕ) → ((v : ℕ) → length (f v) ≡ k) → length (flat_map f ws) ≡ k * length ws
length-texts f k [] each = omega arith
length-texts f k (v ∷ ws) each =
    let more : k * suc (length ws) ≡ k + k * length ws = omega arith in
    length-append (f v) (flat_map f ws) ∙ ((λ j. each v j + length-texts f k ws each j) ∙ sym more)

first-texts : {A : Type 0} (f : ℕ → List A) (k n : ℕ) (ws : List ℕ) → ((v : ℕ) → length (f v) ≡ k) → n ≤ length ws → take (k * n) (flat_map f ws) ≡ flat_map f (take n ws)
first-texts f k n ws each h =
    let front = flat_map f (take n ws) in
    let len : length front ≡ k * n = length-texts f k (take n ws) each ∙ ap (λ m. k * m) (length-take-le n ws h) in
    let both : flat_map f ws ≡ front ++ flat_map f (drop n ws) = ap (flat_map f) (sym (take-append-drop n ws)) ∙ flat_map-append f (take n ws) (drop n ws) in
    ap (take (k * n)) both ∙ take_at front (flat_map f (drop n ws)) (k * n) len

text-at : {A : Type 0} (f : ℕ → List A) (k i : ℕ) (ws : List ℕ) → ((v : ℕ) → length (f v) ≡ k) → i < length ws → take k (drop (k * i) (flat_map f ws)) ≡ f (slice_index_or ws i 0)
text-at f k i [] each h = absurd (omega (arith, h))
text-at f k zero (v ∷ ws) each h =
    let none : k * 0 ≡ 0 = omega arith in
    ap (λ n. take k (drop n (f v ++ flat_map f ws))) none ∙ take_at (f v) (flat_map f ws) k (each v)
text-at f k (suc i) (v ∷ ws) each h =
    let more : k * suc i ≡ k + k * i = omega arith in
    ap (λ n. take k (drop n (f v ++ flat_map f ws))) more
    ∙ (ap (take k) (sym (drop-drop (k * i) k (f v ++ flat_map f ws)) ∙ ap (drop (k * i)) (drop_at (f v) (flat_map f ws) k (each v))) ∙ text-at f k i ws each (omega (arith, h)))

-- no words at all
pub no_words : (buffered : List Bool) (s : Parameters) (w : ℕ) (bytes : List ℕ) → WordsAhead buffered s w (16 * 0) bytes
no_words buffered s w bytes = record { words = []; counted = omega arith; fit = All-nil (λ v. v < 2 ^ (8 * w)); bits = refl; spelled = refl }

-- the words of sixteen bytes more are buffered after others, and their bytes are written after those of the others
pub words_more : {buffered : List Bool} {s : Parameters} {w : ℕ} (i : ℕ) {old patterns spelled : List ℕ} → WordsAhead buffered s w (16 * i) old
    → OrdersWords s.msb w patterns spelled → length patterns ≡ 16 → length spelled ≡ 16 → 16 * i + 16 ≤ length old
    → flat_map (word 8) patterns ≡ take 128 (drop (id_len s + 128 * i) buffered) → WordsAhead buffered s w (16 * (i + 1)) (put_chunk (16 * i) old spelled)
words_more {buffered} {s} {w} i {old} {spelled} h o sixteen len room read =
    let here : 16 * (i + 1) ≡ 16 * i + 16 = omega arith in
    let bits_here : 8 * (16 * (i + 1)) ≡ 8 * (16 * i) + 128 = omega arith in
    let at : id_len s + 128 * i ≡ id_len s + 8 * (16 * i) = omega arith in
    let rest = drop (id_len s) buffered in
    let more : flat_map (word (8 * w)) o.words ≡ take 128 (drop (8 * (16 * i)) rest) = o.bits
    ∙ (read ∙ ap (take 128) (ap (λ n. drop n buffered) at ∙ sym (drop-drop (8 * (16 * i)) (id_len s) buffered))) in
    record {
      words = h.words ++ o.words;
      counted = ap (λ n. w * n) (length-append h.words o.words)
          ∙ (let d : w * (length h.words + length o.words) ≡ w * length h.words + w * length o.words = omega arith in omega (arith, d, h.counted, o.count, sixteen));
      fit = All-append (λ v. v < 2 ^ (8 * w)) h.words o.words h.fit o.fit;
      bits = flat_map-append (word (8 * w)) h.words o.words ∙ ((λ j. h.bits j ++ more j) ∙ (sym (take-add (8 * (16 * i)) 128 rest) ∙ ap (λ n. take n rest) (sym bits_here)));
      spelled = take_more_put_chunk (16 * i) old spelled (16 * (i + 1)) (omega (arith, here, len)) (omega (arith, here, room))
          ∙ ((λ j. h.spelled j ++ o.ordered_are j) ∙ sym (flat_map-append (ordered_bytes s.msb w) h.words o.words));
    }

-- and so many of them as a block has
pub block_words : (buffered : List Bool) (s : Parameters) (w n : ℕ) (bytes : List ℕ) → IsCopied s w → WordsAhead buffered s w n bytes → w * s.block ≤ n → WordsAhead buffered s w (w * s.block) bytes
block_words buffered s w n bytes copied h le =
    let count = s.block in
    let few : count ≤ length h.words = within w (some_bytes s w copied) count (length h.words) (omega (arith, le, h.counted)) in
    let digits : 8 * (w * count) ≡ 8 * w * count = omega arith in
    let part : 8 * (w * count) ≤ 8 * n = omega (arith, le) in
    record {
      words = take count h.words;
      counted = ap (λ m. w * m) (length-take-le count h.words few);
      fit = All-take (λ v. v < 2 ^ (8 * w)) count h.words h.fit;
      bits =
          sym (first-texts (word (8 * w)) (8 * w) count h.words (λ v. length-word (8 * w) v) few) ∙ (ap (λ m. take m (flat_map (word (8 * w)) h.words)) (sym digits)
          ∙ (ap (take (8 * (w * count))) h.bits ∙ take-take (8 * (w * count)) (8 * n) (drop (id_len s) buffered) part));
      spelled =
          sym (take-take (w * count) n bytes le) ∙ (ap (take (w * count)) h.spelled ∙ first-texts (ordered_bytes s.msb w) w count h.words (λ v. length-ordered s.msb w v copied.widths) few);
    }
  where
    within : (w : ℕ) → 0 < w → (a b : ℕ) → w * a ≤ w * b → a ≤ b
    within w some a b h =
        elim (cases_lt b a) [
          | inr le ↦ le
          | inl more ↦
              let m : suc b * w ≤ a * w = mul-le-mul_right w more in
              let x : suc b * w ≡ w * b + w = omega arith in
              let y : a * w ≡ w * a = omega arith in
              absurd (omega (arith, m, x, y, h, some))
        ]

-- samples of whole bytes
record WholeBytes (s : Parameters) (w : ℕ) : Type 0 where
  some : 1 ≤ s.bits
  whole : s.bits ≡ 8 * w

-- words that are the patterns of samples
record PatternsOfSamples (s : Parameters) (w i : ℕ) (words : List ℕ) (samples : List ℤ) : Type 0 where
  words_are : length words ≡ suc i
  len : length samples ≡ suc i
  fit : All (λ v. v < 2 ^ (8 * w)) words
  legal : All (IsSample s) samples
  same : map (pattern s) samples ≡ words

-- the sample at a level is the last one if it has its word
last_is_at : (buffered : List Bool) {s : Parameters} (w : ℕ) {i l : ℕ} (p : ℤ) {words : List ℕ} (samples : List ℤ) → WholeBytes s w → PatternsOfSamples s w i words samples
    → flat_map (word (8 * w)) words ≡ take (8 * (w * suc i)) (drop (id_len s) buffered)
    → l < value_count s → word (8 * w) (pattern s (value_at s l)) ≡ take (8 * w) (drop (id_len s + 8 * (w * suc i - w)) buffered) → value_at s l ≡ last_of p samples
last_is_at buffered {s} w {i} {l} p {words} samples bytes of_samples bits small last =
    let n = 8 * w in
    let rest = drop (id_len s) buffered in
    let z = slice_index_or words i 0 in
    let x = slice_index_or samples i (pos 0) in
    let inside : i < length words = omega (arith, of_samples.words_are) in
    let within : i < length samples = omega (arith, of_samples.len) in
    let all : 8 * (w * suc i) ≡ n * i + n = omega arith in
    let at : id_len s + 8 * (w * suc i - w) ≡ id_len s + n * i = (let d : w * suc i ≡ w * i + w = omega arith in omega (arith, d)) in
    let read : word n z ≡ take n (drop (n * i) rest) =
    sym (text-at (word n) n i words (λ v. length-word n v) inside)
    ∙ (ap (λ b. take n (drop (n * i) b)) (bits ∙ ap (λ m. take m rest) all) ∙ (ap (take n) (drop-take (n * i) n rest) ∙ take-take n n (drop (n * i) rest) (omega arith))) in
    let same : word n (pattern s (value_at s l)) ≡ word n z = last ∙ (ap (λ m. take n (drop m buffered)) at ∙ (ap (take n) (sym (drop-drop (n * i) (id_len s) buffered)) ∙ sym read)) in
    let sample = sample_at s l small in
    let fits : pattern s (value_at s l) < 2 ^ n = subst (λ m. pattern s (value_at s l) < 2 ^ m) bytes.whole (pattern_fits s (value_at s l) bytes.some sample) in
    let reported : pattern s (value_at s l) ≡ z = sym (number_of-word n (pattern s (value_at s l)) fits) ∙ (ap number_of same ∙ number_of-word n z (of_samples.fit i 0 inside)) in
    let pat : pattern s x ≡ z = sym (get_or-map (pattern s) samples i (pos 0) 0 within) ∙ ap (λ ws. slice_index_or ws i 0) of_samples.same in
    let end : length samples - 1 ≡ i = omega (arith, of_samples.len) in
    same_pattern s (value_at s l) x bytes.some sample (of_samples.legal i (pos 0) within) (reported ∙ sym pat) ∙ sym
    (last_at p (pos 0) samples (omega (arith, of_samples.len)) ∙ ap (λ m. slice_index_or samples m (pos 0)) end)

-- the samples of a block
samples_in : (s : Parameters) (w : ℕ) (words : List ℕ) → IsLegal s → IsCopied s w → All (λ v. v < 2 ^ (8 * w)) words → SamplesOfWords s w words
samples_in s w words legal copied fit = samples_of_words s w words legal.bits_from copied.whole (copied_width s w copied) fit

counted_words : (s : Parameters) (w n : ℕ) → IsCopied s w → w * n ≡ w * s.block → n ≡ s.block
counted_words s w n copied e = sym (mul-div_cancel_left n (some_bytes s w copied)) ∙ (ap (λ m. m / w) e ∙ mul-div_cancel_left s.block (some_bytes s w copied))

-- samples are those at their levels
at_levels : (s : Parameters) (xs : List ℤ) → All (IsSample s) xs → values_at s (map (level s) xs) ≡ xs
at_levels s [] all = refl
at_levels s (x ∷ xs) all =
    let first = value_of_level s x (all 0 (pos 0) (omega arith)) in
    let rest = at_levels s xs (λ i d k. all (suc i) d (omega (arith, k))) in
    λ j. first j ∷ rest j

levels_fit : (s : Parameters) (xs : List ℤ) → All (IsSample s) xs → All (λ l. l < value_count s) (map (level s) xs)
levels_fit s [] all = All-nil (λ l. l < value_count s)
levels_fit s (x ∷ xs) all =
    let sample = all 0 (pos 0) (omega arith) in
    All-cons (λ l. l < value_count s) (level s x) (map (level s) xs) sample.1 (levels_fit s xs (λ i d k. all (suc i) d (omega (arith, k))))

last_level : (s : Parameters) (p : ℤ) (xs : List ℤ) → last_number (level s p) (map (level s) xs) ≡ level s (last_of p xs)
last_level s p [] = refl
last_level s p (x ∷ xs) = last_level s x xs

-- a copied block that is buffered, and the bytes of its samples, of which the last has level `l`
pub copied_ahead : {buffered : List Bool} {s : Parameters} {w l : ℕ} {bytes : List ℕ} → IsLegal s → IsCopied s w → CopiedBlock buffered s w bytes → l < value_count s
    → word (8 * w) (pattern s (value_at s l)) ≡ take (8 * w) (drop (id_len s + 8 * (w * s.block - w)) buffered) → (b : ℕ) (p : ℤ) → SpelledAhead buffered s b p l (copied_bits s w) 0 bytes
copied_ahead {buffered} {s} {w} {l} {bytes} legal copied h small read b p =
    let words = h.words in
    let given = samples_in s w words.words legal copied words.fit in
    let samples = given.samples in
    let levels = map (level s) samples in
    let count : length words.words ≡ s.block = counted_words s w (length words.words) copied words.counted in
    let many : length samples ≡ s.block = given.len ∙ count in
    let one : suc (s.block - 1) ≡ s.block = (let some = legal.block.0 in omega (arith, some)) in
    let last_is = last_is_at buffered {s = s} w p samples (record { some = legal.bits_from; whole = copied.whole })
    (record { words_are = count ∙ sym one; len = many ∙ sym one; fit = words.fit; legal = given.legal; same = given.patterns })
    (words.bits ∙ ap (λ n. take (8 * (w * n)) (drop (id_len s) buffered)) (sym one)) small
    (read ∙ ap (λ n. take (8 * w) (drop (id_len s + 8 * (w * n - w)) buffered)) (sym one)) in
    let reference : IsReference s b None = record { there = sym (ap (λ v. v && (place s b == 0)) copied.preprocess); fits = tt } in
    let c : BlockData = record { reference = None; residuals = words.words } in
    let back : values_at s levels ≡ samples = at_levels s samples given.legal in
    let gives : GivesBlock s b p samples 0 (c ∷ []) = record {
      len = many;
      legal = given.legal;
      blocks_are = ap (λ d. d ∷ []) (contents_of_patterns s b p words.words samples reference copied.preprocess given.patterns);
    } in
    let bytes_are : width s * length levels ≡ w * s.block = λ j. sym (copied_width s w copied) j * (length-map samples (level s) ∙ many) j in
    record {
      levels = levels;
      ahead = record {
        set = NoCompression c;
        form = (record { reference = reference; len = count }, tt, subst (λ n. All (λ v. v < 2 ^ n) words.words) (sym copied.whole) words.fit);
        run_sound = tt;
        residuals_sound = tt;
        within = h.there;
        bits = take-add (id_len s) (8 * (w * s.block)) buffered ∙ (λ j. sym h.id j ++ (sym words.bits ∙ ap (λ n. flat_map (word n) words.words) (sym copied.whole)) j);
        turns_are = refl;
        few = omega arith;
        legal = levels_fit s samples given.legal;
        gives = subst (λ xs. GivesBlock s b p xs 0 (c ∷ [])) (sym back) gives;
      };
      from = level s p;
      last_is = sym (level_of_value s l) ∙ (ap (level s) last_is ∙ sym (last_level s p samples));
      legal = small;
      spelled = ap (λ n. take n bytes) bytes_are ∙ (words.spelled ∙ (sym given.spelled ∙ ap (spellings s) (sym back)));
    }
