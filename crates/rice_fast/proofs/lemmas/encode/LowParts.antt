-- The lowest digits of several residuals in one word.
use Rattle.rice_fast.proofs.Words.{◌≡◌, ℕ, zero, suc, take, ◌+◌, ◌-◌, ◌*◌, ◌/◌, ◌%◌, ◌^◌, ◌<◌, ◌≤◌, List, [], ◌∷◌, ◌++◌, length, drop, get_or, map, refl, ap, arith, sym, subst, ◌∙◌, append_assoc}
use Rattle.rice_fast.proofs.Words.{flat_map, slice_range, bit_and, bit_or, Each1, drop-append_seam, drop-append-le, take_all, pow-le-pow_right, and_mask, mod_below, one_shl, pow_pos, or_shifted, word}
use Rattle.rice_fast.proofs.Words.{length-word, word-split, word-cat, join_below, low_word, low_digits_of_each, joined_in_pairs}
use Rattle.std.proofs.Common.{mod-eq_of_lt}
use Rattle.rice_fast.proofs.lemmas.encode.AddedBits.{slice_to_end}

-- the last digits of a word
pub tail_of_word : (n m v : ℕ) → word m (v % 2 ^ m) ≡ drop n (word (n + m) v)
tail_of_word n m v =
    let whole = word-split n m v in
    let cut : drop (length (word n (v / 2 ^ m))) (word n (v / 2 ^ m) ++ word m (v % 2 ^ m)) ≡ word m (v % 2 ^ m) = drop-append_seam (word n (v / 2 ^ m)) (word m (v % 2 ^ m)) in
    sym (ap (drop n) whole ∙ (ap (λ k. drop k (word n (v / 2 ^ m) ++ word m (v % 2 ^ m))) (sym (length-word n (v / 2 ^ m))) ∙ cut))

-- the words of the lowest digits of numbers are those of the numbers
pub words_of_low : (w : ℕ) (xs : List ℕ) → flat_map (word w) (low_digits_of_each w xs) ≡ flat_map (word w) xs
words_of_low w [] = refl
words_of_low w (x ∷ xs) = (λ i. low_word w x _ refl i ++ words_of_low w xs i)

-- a mask takes them
pub masked : (w : ℕ) (xs : List ℕ) → map (λ d. bit_and d (2 ^ w - 1)) xs ≡ low_digits_of_each w xs
masked w [] = refl
masked w (x ∷ xs) = λ i. and_mask x w i ∷ masked w xs i

-- each of them fits
pub low_fit : (w : ℕ) (xs : List ℕ) → Each1 (λ x. x < 2 ^ w) (low_digits_of_each w xs)
low_fit w [] = tt
low_fit w (x ∷ xs) = (mod_below x (2 ^ w) (pow_pos w), low_fit w xs)

-- numbers that are joined in pairs spell what they spell one by one,
pub words_of_pairs : (n w : ℕ) (xs : List ℕ) → length xs ≡ 2 * n → Each1 (λ x. x < 2 ^ w) xs → flat_map (word (w + w)) (joined_in_pairs w xs) ≡ flat_map (word w) xs
words_of_pairs n w [] len h = refl
words_of_pairs n w (x ∷ []) len h = absurd (omega arith)
words_of_pairs zero w (x ∷ y ∷ xs) len h = absurd (omega arith)
words_of_pairs (suc n) w (x ∷ y ∷ xs) len h =
    (λ i. word-cat w w x y h.1.0 i ++ words_of_pairs n w xs (omega (arith, len)) h.1.1 i) ∙ append_assoc (word w x) (word w y) (flat_map (word w) xs)

-- and each pair fits
pub pairs_fit : (w : ℕ) (xs : List ℕ) → Each1 (λ x. x < 2 ^ w) xs → Each1 (λ v. v < 2 ^ (w + w)) (joined_in_pairs w xs)
pairs_fit w [] h = tt
pairs_fit w (x ∷ []) h = tt
pairs_fit w (x ∷ y ∷ xs) h = (join_below w w x y h.0 h.1.0, pairs_fit w xs h.1.1)

-- the digits of words from the first or the second on
pub words_from : (w from : ℕ) (xs : List ℕ) → from ≤ 1 → 1 ≤ length xs → drop (from * w) (flat_map (word w) xs) ≡ flat_map (word w) (drop from xs)
words_from w zero xs le some = let none : 0 * w ≡ 0 = omega arith in ap (λ k. drop k (flat_map (word w) xs)) none
words_from w (suc zero) [] le some = absurd (omega arith)
words_from w (suc zero) (x ∷ xs) le some =
    let all = flat_map (word w) xs in
    let n : 1 * w ≡ length (word w x) = omega (arith, length-word w x) in
    ap (λ k. drop k (word w x ++ all)) n ∙ drop-append_seam (word w x) all
words_from w (suc (suc from)) xs le some = absurd (omega arith)

-- These numbers of so many digits spell the words of residuals.
pub record Spells (width : ℕ) (numbers : List ℕ) (w : ℕ) (xs : List ℕ) : Type 0 where
  pub fit : Each1 (λ v. v < 2 ^ width) numbers
  pub words : flat_map (word width) numbers ≡ flat_map (word w) xs

-- the lowest digits of eight do,
pub low_spell : (w : ℕ) (xs : List ℕ) {low : List ℕ} → length xs ≡ 8 → low ≡ low_digits_of_each w (take 8 xs) → Spells w low w xs
low_spell w xs {low} len e =
    let whole : take 8 xs ≡ xs = take_all 8 xs (omega (arith, len)) in
    subst (λ ls. Spells w ls w xs) (sym (e ∙ ap (low_digits_of_each w) whole)) (record { fit = low_fit w xs; words = words_of_low w xs })

-- and joined in pairs they still do
pub pairs_spell : (n width : ℕ) (numbers : List ℕ) {twice w : ℕ} {xs pairs : List ℕ} → length numbers ≡ 2 * n → twice ≡ 2 * width → Spells width numbers w xs → pairs ≡ joined_in_pairs width numbers
    → Spells twice pairs w xs
pairs_spell n width numbers {twice} {w} {xs} {pairs} len two h e =
    let same : width + width ≡ twice = omega (arith, two) in
    subst (λ m. Spells m pairs w xs) same (subst (λ ps. Spells (width + width) ps w xs) (sym e)
    (record { fit = pairs_fit width numbers h.fit; words = words_of_pairs n width numbers len h.fit ∙ h.words }))

-- and two of them in one number
pub all_spelled : (numbers : List ℕ) {width w : ℕ} (twice : ℕ) {xs : List ℕ} {all : ℕ} → length numbers ≡ 2 → twice ≡ 2 * width → Spells width numbers w xs
    → all ≡ get_or numbers 0 0 * 2 ^ width + get_or numbers 1 0 → Spells twice (all ∷ []) w xs
all_spelled (a ∷ b ∷ []) {width} twice len two h e = pairs_spell 1 width (a ∷ b ∷ []) refl two h (ap (λ n. n ∷ []) e)
all_spelled _ twice len two h e = absurd (omega arith)

-- the pairs of eight residuals
pub pairs_of_eight : (w : ℕ) (xs : List ℕ) {low pairs : List ℕ} → length xs ≡ 8 → low ≡ low_digits_of_each w (take 8 xs) → length low ≡ 8 → pairs ≡ joined_in_pairs w low → Spells (2 * w) pairs w xs
pairs_of_eight w xs {low} len is lanes joined = pairs_spell 4 w low lanes refl (low_spell w xs len is) joined

-- the fours
pub fours_of_eight : (w : ℕ) (xs : List ℕ) {low pairs fours : List ℕ} → length xs ≡ 8 → low ≡ low_digits_of_each w (take 8 xs) → length low ≡ 8 → pairs ≡ joined_in_pairs w low
    → length pairs ≡ 4 → fours ≡ joined_in_pairs (2 * w) pairs → Spells (4 * w) fours w xs
fours_of_eight w xs {pairs = pairs} len is lanes joined four = pairs_spell 2 (2 * w) pairs four (omega arith) (pairs_of_eight w xs len is lanes joined)

-- the digits that are spelled, without those of the first residual
pub spelled_from : {width w : ℕ} {numbers xs : List ℕ} (from : ℕ) {skipped : ℕ} → Spells width numbers w xs → skipped ≡ from * w → from ≤ 1 → 1 ≤ length xs
    → drop skipped (flat_map (word width) numbers) ≡ flat_map (word w) (drop from xs)
spelled_from {width} {w} {numbers} {xs} from h skip le some = (λ i. drop (skip i) (h.words i)) ∙ words_from w from xs le some

-- the digits of the first of several numbers, without some of them
pub first_digits : (width skipped : ℕ) (v : ℕ) → skipped ≤ width → width ≤ 56 → word (width - skipped) (v % (1 * 2 ^ (width - skipped) % 2 ^ 64)) ≡ drop skipped (word width v)
first_digits width skipped v le few =
    let parts : skipped + (width - skipped) ≡ width = omega (arith, le) in
    let mask : 1 * 2 ^ (width - skipped) % 2 ^ 64 ≡ 2 ^ (width - skipped) = one_shl (width - skipped) 64 (omega (arith, few)) in
    ap (λ m. word (width - skipped) (v % m)) mask ∙ (tail_of_word skipped (width - skipped) v ∙ ap (λ n. drop skipped (word n v)) parts)

-- they are those before the digits of the other numbers
pub first_of_words : (width skipped : ℕ) (vs : List ℕ) → skipped ≤ width → 1 ≤ length vs
    → drop skipped (flat_map (word width) vs) ≡ drop skipped (word width (get_or vs 0 0)) ++ flat_map (word width) (slice_range vs 1 (length vs))
first_of_words width skipped [] le some = absurd (omega arith)
first_of_words width skipped (v ∷ vs) le some =
    let rest : slice_range (v ∷ vs) 1 (suc (length vs)) ≡ vs = slice_to_end (v ∷ vs) 1 (suc (length vs)) refl in
    drop-append-le skipped (word width v) (flat_map (word width) vs) (omega (arith, length-word width v, le))
    ∙ ap (λ us. drop skipped (word width v) ++ flat_map (word width) us) (sym rest)

-- a pair, joined in a lane of `n` bits
pair_joined : (n w x y : ℕ) → w + w ≤ n → x < 2 ^ w → y < 2 ^ w → bit_or (x * 2 ^ w % 2 ^ n) y ≡ x * 2 ^ w + y
pair_joined n w x y few h k =
    let le : 2 ^ (w + w) ≤ 2 ^ n = pow-le-pow_right {n = 2} (omega arith) {i = w + w} {j = n} few in
    let b = join_below w w x y h k in
    let same : x * 2 ^ w % 2 ^ n ≡ x * 2 ^ w = mod-eq_of_lt (omega (arith, b, le)) in
    ap (λ v. bit_or v y) same ∙ or_shifted x w y k

-- each two of four lanes,
pub four_joined : (n w : ℕ) (xs : List ℕ) → length xs ≡ 4 → w + w ≤ n → Each1 (λ x. x < 2 ^ w) xs →
    bit_or (get_or (xs ++ xs) 0 0 * 2 ^ w % 2 ^ n) (get_or (xs ++ xs) 1 0) ∷ bit_or (get_or (xs ++ xs) 2 0 * 2 ^ w % 2 ^ n) (get_or (xs ++ xs) 3 0) ∷ []
    ≡ joined_in_pairs w xs
four_joined n w (a ∷ b ∷ c ∷ d ∷ []) len few h = λ i. pair_joined n w a b few h.0 h.1.0 i ∷ pair_joined n w c d few h.1.1.0 h.1.1.1.0 i ∷ []
four_joined n w _ len few h = absurd (omega arith)

-- and of eight
pub eight_joined : (n w : ℕ) (xs : List ℕ) → length xs ≡ 8 → w + w ≤ n → Each1 (λ x. x < 2 ^ w) xs →
    bit_or (get_or (xs ++ xs) 0 0 * 2 ^ w % 2 ^ n) (get_or (xs ++ xs) 1 0) ∷ bit_or (get_or (xs ++ xs) 2 0 * 2 ^ w % 2 ^ n) (get_or (xs ++ xs) 3 0)
    ∷ bit_or (get_or (xs ++ xs) 4 0 * 2 ^ w % 2 ^ n) (get_or (xs ++ xs) 5 0) ∷ bit_or (get_or (xs ++ xs) 6 0 * 2 ^ w % 2 ^ n) (get_or (xs ++ xs) 7 0) ∷ []
    ≡ joined_in_pairs w xs
eight_joined n w (a ∷ b ∷ c ∷ d ∷ e ∷ f ∷ g ∷ k ∷ []) len few h =
    λ i. pair_joined n w a b few h.0 h.1.0 i ∷ pair_joined n w c d few h.1.1.0 h.1.1.1.0 i ∷ pair_joined n w e f few h.1.1.1.1.0 h.1.1.1.1.1.0 i
    ∷ pair_joined n w g k few h.1.1.1.1.1.1.0 h.1.1.1.1.1.1.1.0 i ∷ []
eight_joined n w _ len few h = absurd (omega arith)

-- two numbers of at most 28 digits are joined without a wrap
pub joined_digits : (width : ℕ) (numbers : List ℕ) → length numbers ≡ 2 → width ≤ 28 → Each1 (λ v. v < 2 ^ width) numbers → (get_or numbers 0 0 * 2 ^ width < 2 ^ 64) × (get_or numbers 1 0 < 2 ^ width)
joined_digits width (a ∷ b ∷ []) len few h =
    let le : 2 ^ (width + width) ≤ 2 ^ 56 = pow-le-pow_right {n = 2} (omega arith) {i = width + width} {j = 56} (omega (arith, few)) in
    (omega (arith, join_below width width a b h.0 h.1.0, le), h.1.0)
joined_digits width _ len few h = absurd (omega arith)
