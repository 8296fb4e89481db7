-- Residuals from their high and low parts.
use Rattle.std.proofs.Common.{◌≡◌, ℕ, zero, suc, ◌+◌, ◌-◌, ◌*◌, ◌/◌, ◌%◌, ◌^◌, ◌<◌, ◌≤◌, Bool, true, false, List, [], ◌∷◌, ◌++◌, length, get_or, take, drop, set, refl, sym, ◌∙◌, ap, subst, arith}
use Rattle.rice_code.proofs.Words.{All, flat_map, ◌&&◌, take_more, take_more_set, drop-set-lt, drop-drop, get_or-drop, get_or_default_zero, leb, All-push, div-mul-add, pow_pos, pow-add, leb-true}
use Rattle.rice_code.proofs.Words.{leb-false, le-div_iff_mul-le, div-lt_iff_lt-mul, mod-eq_of_lt, mul-le-mul_right, word-low, length-joined, joined_parts, word, fundamental_sequence, common_steps}

-- the joined part at a place: the high part there, moved up by k digits, and the low part
pub joined-at : (k : ℕ) (ms ls : List ℕ) (i : ℕ) → i < length ms → length ls ≡ length ms → get_or (joined_parts k ms ls) i 0 ≡ get_or ms i 0 * 2 ^ k + get_or ls i 0
joined-at k (m ∷ ms) (l ∷ ls) zero h e = refl
joined-at k (m ∷ ms) (l ∷ ls) (suc i) h e = joined-at k ms ls i (omega arith) (omega arith)
joined-at k _ _ i h e = absurd (omega arith)

-- all of a list, one more
pub fit_more : (count : ℕ) (xs : List ℕ) (i : ℕ) → i < length xs → All (λ d. d < count) (take i xs) → get_or xs i 0 < count → All (λ d. d < count) (take (i + 1) xs)
fit_more count xs i h f k = rw (take_more xs i 0 h) (All-push (λ d. d < count) (take i xs) (get_or xs i 0) f k)

-- the high parts of joined parts
pub joined_highs : (k most : ℕ) (ms ls : List ℕ) → length ls ≡ length ms → All (λ l. l < 2 ^ k) ls → All (λ m. m ≤ most) ms → All (λ d. d / 2 ^ k ≤ most) (joined_parts k ms ls)
joined_highs k most ms ls same lows highs = grind (arith, common_steps, length-joined, get_or, div-mul-add, joined-at, get_or_default_zero)

-- a number of at most as many digits as its high part lets it have
pub below_by_high : (bits k d : ℕ) → k ≤ bits → d / 2 ^ k ≤ (2 ^ bits - 1) / 2 ^ k → d < 2 ^ bits
below_by_high bits k d h le =
    let n : bits - k + k ≡ bits = omega (arith, h) in
    grind (arith, common_steps, pow-add, div-lt_iff_lt-mul, pow_pos)

-- the pieces of joined parts
pub high_pieces : (k : ℕ) (ms ls : List ℕ) → length ls ≡ length ms → All (λ l. l < 2 ^ k) ls →
    flat_map (λ d. fundamental_sequence (d / 2 ^ k)) (joined_parts k ms ls) ≡ flat_map fundamental_sequence ms
high_pieces k [] ls e f = refl
high_pieces k (m ∷ ms) [] e f = absurd (omega arith)
high_pieces k (m ∷ ms) (l ∷ ls) e f =
    let here : (m * 2 ^ k + l) / 2 ^ k ≡ m = div-mul-add m (2 ^ k) l (f 0 0 (omega arith)) in
    let rest = high_pieces k ms ls (omega arith) (λ i d lt. f (suc i) d (omega arith)) in
    rw (here, rest) refl

-- and the words of k bits of joined parts are those of the low parts
pub low_pieces : (k : ℕ) (ms ls : List ℕ) → length ls ≡ length ms → flat_map (word k) (joined_parts k ms ls) ≡ flat_map (word k) ls
low_pieces k [] [] e = refl
low_pieces k (m ∷ ms) (l ∷ ls) e = rw (word-low k k m l (omega arith), low_pieces k ms ls (omega arith)) refl
low_pieces k _ _ e = absurd (omega arith)

-- whether all of a list are below a number, one more of them
pub below-more : (count : ℕ) (xs : List ℕ) (i : ℕ) (all : Bool) → i < length xs → 0 < count → (all ≡ true → All (λ d. d < count) (take i xs)) → (all ≡ false → All (λ d. d < count) xs → ⊥)
    → ((all && leb (get_or xs i 0) (count - 1)) ≡ true → All (λ d. d < count) (take (i + 1) xs)) × ((all && leb (get_or xs i 0) (count - 1)) ≡ false → All (λ d. d < count) xs → ⊥)
below-more count xs i all lt some good bad = grind (arith, common_steps, leb, get_or, fit_more, leb-true, leb-false)

at_rest : (xs ys : List ℕ) (i : ℕ) → drop i xs ≡ drop i ys → get_or xs i 0 ≡ get_or ys i 0
at_rest xs ys i e = grind (arith, common_steps, get_or, get_or-drop)

-- a high part, and a low part of fewer than p values, where 2^32 is a multiple of p
join_fits : (high low p q : ℕ) → 0 < p → q * p ≡ 2 ^ 32 → high ≤ (2 ^ 32 - 1) / p → low < p → high * p + low < 2 ^ 32
join_fits high low p q h e le lt = grind (arith, common_steps, div-lt_iff_lt-mul, mul-le-mul_right)

-- a high part with room for k digits below it, and a low part of k digits, fit 32 bits together
pub part_fits : (high low k : ℕ) → k ≤ 29 → high ≤ (2 ^ 32 - 1) / 2 ^ k → low < 2 ^ k → high * 2 ^ k + low < 2 ^ 32
part_fits high low k h le lt =
    let n : 32 - k + k ≡ 32 = omega arith in
    join_fits high low (2 ^ k) (2 ^ (32 - k)) (pow_pos k) (sym (pow-add 2 (32 - k) k) ∙ ap (λ m. 2 ^ m) n) le lt

-- as many low parts as high ones, before and now, and a place among them
pub record AsManyParts (ms old now : List ℕ) (i : ℕ) : Type 0 where
  pub old_are : length old ≡ length ms
  pub now_are : length now ≡ length old
  pub inside : i < length ms

-- high parts are put before low parts, one more
pub join-more : {k : ℕ} (ms old now : List ℕ) {i : ℕ} → AsManyParts ms old now i → k ≤ 29 → All (λ h. h ≤ (2 ^ 32 - 1) / 2 ^ k) ms → All (λ l. l < 2 ^ k) old
    → take i now ≡ take i (joined_parts k ms old) → drop i now ≡ drop i old → (get_or now i 0 + get_or ms i 0 * 2 ^ k % 2 ^ 32 < 2 ^ 32)
    × (take (i + 1) (set now i (get_or now i 0 + get_or ms i 0 * 2 ^ k % 2 ^ 32)) ≡ take (i + 1) (joined_parts k ms old))
    × (drop (i + 1) (set now i (get_or now i 0 + get_or ms i 0 * 2 ^ k % 2 ^ 32)) ≡ drop (i + 1) old)
    × (get_or now i 0 + get_or ms i 0 * 2 ^ k % 2 ^ 32 ≡ get_or (joined_parts k ms old) i 0)
join-more {k} ms old now {i} lens few highs lows done rest =
    let v = get_or now i 0 + get_or ms i 0 * 2 ^ k % 2 ^ 32 in
    let high : get_or ms i 0 ≤ (2 ^ 32 - 1) / 2 ^ k = highs i 0 lens.inside in
    let low : get_or old i 0 < 2 ^ k = lows i 0 (omega (arith, lens.old_are, lens.inside)) in
    let here : get_or now i 0 ≡ get_or old i 0 = at_rest now old i rest in
    let fits : get_or ms i 0 * 2 ^ k + get_or old i 0 < 2 ^ 32 = part_fits (get_or ms i 0) (get_or old i 0) k few high low in
    let n : length (joined_parts k ms old) ≡ length ms = length-joined k ms old lens.old_are in
    let value : v ≡ get_or (joined_parts k ms old) i 0 = omega (arith, here, joined-at k ms old i lens.inside lens.old_are) in (
      omega (arith, here, fits),
      take_more_set now i v (omega (arith, lens.now_are, lens.old_are, lens.inside)) ∙ ((λ j. done j ++ value j ∷ []) ∙ sym (take_more (joined_parts k ms old) i 0 (omega (arith, n, lens.inside)))),
      drop-set-lt (i + 1) now i v (omega arith) ∙ (drop_next now i ∙ (ap (λ zs. drop 1 zs) rest ∙ sym (drop_next old i))),
      value,
    )
  where
    drop_next : (xs : List ℕ) (i : ℕ) → drop (i + 1) xs ≡ drop 1 (drop i xs)
    drop_next xs i = sym (drop-drop 1 i xs)

-- high parts of numbers that are all below `count`
pub highs_small : (k count : ℕ) (ms ls : List ℕ) → length ls ≡ length ms → 0 < count → All (λ d. d < count) (joined_parts k ms ls) → All (λ m. m ≤ (count - 1) / 2 ^ k) ms
highs_small k count ms ls same some h = λ i d lt.
    let n : length (joined_parts k ms ls) ≡ length ms = length-joined k ms ls same in
    let below : get_or (joined_parts k ms ls) i 0 < count = h i 0 (omega (arith, n, lt)) in
    let fits : get_or ms i 0 * 2 ^ k ≤ count - 1 = omega (arith, below, joined-at k ms ls i lt same) in
    let small : get_or ms i 0 ≤ (count - 1) / 2 ^ k = (le-div_iff_mul-le {k = 2 ^ k} {x = get_or ms i 0} {y = count - 1} (pow_pos k)).1 fits in
    subst (λ m. m ≤ (count - 1) / 2 ^ k) (sym (get_or_default_zero ms i d lt)) small
