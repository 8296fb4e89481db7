-- Fundamental sequences that are joined by products, in lanes. What joins 16 rests on `sixteen_joined`: by `value_kept` each of three steps keeps the number of the whole.
use Rattle.rice_fast.proofs.Words.{◌≡◌, ℕ, zero, suc, ◌+◌, ◌-◌, ◌*◌, ◌/◌, ◌%◌, ◌^◌, ◌<◌, ◌≤◌, ◌==◌, Bool, true, ◌&&◌, cond, List, [], ◌∷◌, ◌++◌, length, take, get_or, map, replicate, refl, ap, arith}
use Rattle.rice_fast.proofs.Words.{mul-le, sym, subst, ◌∙◌, length-append, eq-eqb, w8, All, flat_map, bit_or, slice_range, list_all, zip2, Each1, fold_l, pick_l, pow-le-pow_right, div-mul-add}
use Rattle.rice_fast.proofs.Words.{mod-mul-add, one_shl, pow-add, flat_map-append, length-map, Each1-get_or, SwzOk, SwzOk-from_below, swz_l, nat_tests, leb, lanes_below_digits, no_digits, word}
use Rattle.rice_fast.proofs.Words.{number_of, fundamental_sequence, word-cat, word-fs, word-number_of, number_of-word, number_of-lt, join_below, length-fundamental_sequence, WEIGHTS, HasDigits}
use Rattle.rice_fast.proofs.Words.{joined_values, joined_weights}
use Rattle.std.proofs.Common.{mod-eq_of_lt}
use Rattle.rice_fast.proofs.lemmas.{encode.AddedBits.bits_of_one, encode.AddedBits.bits_of_parts, encode.JoinedWords.one_fits}
use Rattle.rice_fast.proofs.lemmas.vectors.NumbersInLanes.{all_of, each_of}

-- each second number of a row, from the first on
abbrev firsts : List ℕ → List ℕ
firsts (x ∷ y ∷ xs) = x ∷ firsts xs
firsts _ = []

-- and from the second on
abbrev seconds : List ℕ → List ℕ
seconds (x ∷ y ∷ xs) = y ∷ seconds xs
seconds _ = []

-- of a vector of 16, the lanes at even places are the first of each two, those at odd places the second
pub parted_sixteen : (xs : List ℕ) → length xs ≡ 16 →
    (pick_l 0 (xs ++ xs) (0 ∷ 2 ∷ 4 ∷ 6 ∷ 8 ∷ 10 ∷ 12 ∷ 14 ∷ []) ≡ firsts xs) × (pick_l 0 (xs ++ xs) (1 ∷ 3 ∷ 5 ∷ 7 ∷ 9 ∷ 11 ∷ 13 ∷ 15 ∷ []) ≡ seconds xs)
parted_sixteen (a ∷ b ∷ c ∷ d ∷ e ∷ f ∷ g ∷ h ∷ i ∷ j ∷ k ∷ l ∷ m ∷ n ∷ o ∷ p ∷ []) len = (refl, refl)
parted_sixteen _ len = absurd (omega arith)

-- those of a vector of 8
pub parted_eight : (xs : List ℕ) → length xs ≡ 8 →
    (pick_l 0 (xs ++ xs) (0 ∷ 2 ∷ 4 ∷ 6 ∷ []) ≡ firsts xs) × (pick_l 0 (xs ++ xs) (1 ∷ 3 ∷ 5 ∷ 7 ∷ []) ≡ seconds xs)
parted_eight (a ∷ b ∷ c ∷ d ∷ e ∷ f ∷ g ∷ h ∷ []) len = (refl, refl)
parted_eight _ len = absurd (omega arith)

-- those of a vector of 4
pub parted_four : (xs : List ℕ) → length xs ≡ 4 → (pick_l 0 (xs ++ xs) (0 ∷ 2 ∷ []) ≡ firsts xs) × (pick_l 0 (xs ++ xs) (1 ∷ 3 ∷ []) ≡ seconds xs)
parted_four (a ∷ b ∷ c ∷ d ∷ []) len = (refl, refl)
parted_four _ len = absurd (omega arith)

-- two numbers joined, in a lane that has room for them
joined_lane : {m : ℕ} (v z u a b : ℕ) → v ≤ a → z ≤ b → u ≤ a → a * b + a < m → (v * z % m + u) % m ≡ v * z + u
joined_lane {m} v z u a b h k l room =
    let few = mul-le v z a b h k in
    ap (λ n. (n + u) % m) (mod-eq_of_lt (omega (arith, few, room))) ∙ mod-eq_of_lt (omega (arith, few, room, l))

-- all numbers of two vectors joined, in lanes that have room for them
pub values_joined : (m a b : ℕ) (vs ws : List ℕ) → a * b + a < m → Each1 (λ v. v ≤ a) vs → Each1 (λ w. w ≤ b) ws
    → zip2 (λ p q. (p + q) % m) (zip2 (λ p q. p * q % m) (firsts vs) (seconds ws)) (seconds vs) ≡ joined_values vs ws
values_joined m a b [] ws room h k = refl
values_joined m a b (v ∷ []) ws room h k = refl
values_joined m a b (v ∷ u ∷ vs) [] room h k = refl
values_joined m a b (v ∷ u ∷ vs) (w ∷ []) room h k = refl
values_joined m a b (v ∷ u ∷ vs) (w ∷ z ∷ ws) room h k =
    let one = joined_lane v z u a b h.0 k.1.0 h.1.0 room in
    let rest = values_joined m a b vs ws room h.1.1 k.1.1 in
    λ i. one i ∷ rest i

-- and all weights
pub weights_joined : (m b : ℕ) (ws : List ℕ) → b * b < m → Each1 (λ w. w ≤ b) ws → zip2 (λ p q. p * q % m) (firsts ws) (seconds ws) ≡ joined_weights ws
weights_joined m b [] room k = refl
weights_joined m b (w ∷ []) room k = refl
weights_joined m b (w ∷ z ∷ ws) room k =
    let few = mul-le w z b b k.0 k.1.0 in
    let one : w * z % m ≡ w * z = mod-eq_of_lt (omega (arith, few, room)) in
    let rest = weights_joined m b ws room k.1.1 in
    λ i. one i ∷ rest i

-- pairs of sequences, each of which is the number 1
pub pairs_joined : (m b n : ℕ) (ws : List ℕ) → length ws ≡ 2 * n → b + 1 < m → Each1 (λ w. w ≤ b) ws → zip2 (λ p q. (p + q) % m) (seconds ws) (replicate n 1) ≡ joined_values (replicate (2 * n) 1) ws
pairs_joined m b zero ws len room k = none ws
  where
    none : (ws : List ℕ) → zip2 (λ p q. (p + q) % m) (seconds ws) [] ≡ joined_values [] ws
    none [] = refl
    none (w ∷ []) = refl
    none (w ∷ z ∷ ws) = refl
pairs_joined m b (suc n) [] len room k = absurd (omega arith)
pairs_joined m b (suc n) (w ∷ []) len room k = absurd (omega arith)
pairs_joined m b (suc n) (w ∷ z ∷ ws) len room k =
    let twice : 2 * suc n ≡ suc (suc (2 * n)) = omega arith in
    let one : (z + 1) % m ≡ 1 * z + 1 = mod-eq_of_lt (omega (arith, room, k.1.0)) ∙ omega arith in
    let rest = pairs_joined m b n ws (omega arith) room k.1.1 in
    (λ i. one i ∷ rest i) ∙ ap (λ j. joined_values (replicate j 1) (w ∷ z ∷ ws)) (sym twice)

-- how great joined numbers are at most
pub values_bounded : (a b : ℕ) (vs ws : List ℕ) → Each1 (λ v. v ≤ a) vs → Each1 (λ w. w ≤ b) ws → Each1 (λ v. v ≤ a * b + a) (joined_values vs ws)
values_bounded a b [] ws h k = tt
values_bounded a b (v ∷ []) ws h k = tt
values_bounded a b (v ∷ u ∷ vs) [] h k = tt
values_bounded a b (v ∷ u ∷ vs) (w ∷ []) h k = tt
values_bounded a b (v ∷ u ∷ vs) (w ∷ z ∷ ws) h k =
    let few = mul-le v z a b h.0 k.1.0 in
    (omega (arith, few, h.1.0), values_bounded a b vs ws h.1.1 k.1.1)

-- and joined weights
pub weights_bounded : (b : ℕ) (ws : List ℕ) → Each1 (λ w. w ≤ b) ws → Each1 (λ w. w ≤ b * b) (joined_weights ws)
weights_bounded b [] k = tt
weights_bounded b (w ∷ []) k = tt
weights_bounded b (w ∷ z ∷ ws) k = (mul-le w z b b k.0 k.1.0, weights_bounded b ws k.1.1)

-- the weight of a whole row of parts, and the number that has their digits
abbrev whole_weight : List ℕ → ℕ
whole_weight [] = 1
whole_weight (w ∷ ws) = w * whole_weight ws

abbrev whole_value : List ℕ → List ℕ → ℕ
whole_value (v ∷ vs) (w ∷ ws) = v * whole_weight ws + whole_value vs ws
whole_value _ _ = 0

-- the weight is the same when neighbours are joined
weight_kept : (n : ℕ) (ws : List ℕ) → length ws ≡ 2 * n → whole_weight (joined_weights ws) ≡ whole_weight ws
weight_kept n [] len = refl
weight_kept n (w ∷ []) len = absurd (omega arith)
weight_kept zero (w ∷ z ∷ ws) len = absurd (omega arith)
weight_kept (suc n) (w ∷ z ∷ ws) len = ap (λ r. w * z * r) (weight_kept n ws (omega arith)) ∙ omega arith

-- and so is the number
pub value_kept : (n : ℕ) (vs ws : List ℕ) → length vs ≡ 2 * n → length ws ≡ 2 * n → whole_value (joined_values vs ws) (joined_weights ws) ≡ whole_value vs ws
value_kept n [] [] h k = refl
value_kept n [] (w ∷ []) h k = absurd (omega arith)
value_kept n [] (w ∷ z ∷ ws) h k = absurd (omega arith)
value_kept n (v ∷ []) ws h k = absurd (omega arith)
value_kept n (v ∷ u ∷ vs) [] h k = absurd (omega arith)
value_kept n (v ∷ u ∷ vs) (w ∷ []) h k = absurd (omega arith)
value_kept zero (v ∷ u ∷ vs) (w ∷ z ∷ ws) h k = absurd (omega arith)
value_kept (suc n) (v ∷ u ∷ vs) (w ∷ z ∷ ws) h k =
    (λ i. (v * z + u) * weight_kept n ws (omega arith) i + value_kept n vs ws (omega arith) (omega arith) i) ∙ regroup v z u (whole_weight ws) (whole_value vs ws)
  where
    regroup : (v z u p r : ℕ) → (v * z + u) * p + r ≡ v * (z * p) + (u * p + r)
    regroup v z u p r = omega arith

-- half as many numbers are left
pub length-joined_values : (n : ℕ) (vs ws : List ℕ) → length vs ≡ 2 * n → length ws ≡ 2 * n → length (joined_values vs ws) ≡ n
length-joined_values n [] [] h k = omega arith
length-joined_values n [] (w ∷ []) h k = absurd (omega arith)
length-joined_values n [] (w ∷ z ∷ ws) h k = absurd (omega arith)
length-joined_values n (v ∷ []) ws h k = absurd (omega arith)
length-joined_values n (v ∷ u ∷ vs) [] h k = absurd (omega arith)
length-joined_values n (v ∷ u ∷ vs) (w ∷ []) h k = absurd (omega arith)
length-joined_values zero (v ∷ u ∷ vs) (w ∷ z ∷ ws) h k = absurd (omega arith)
length-joined_values (suc n) (v ∷ u ∷ vs) (w ∷ z ∷ ws) h k = ap suc (length-joined_values n vs ws (omega arith) (omega arith))

-- and half as many weights
pub length-joined_weights : (n : ℕ) (ws : List ℕ) → length ws ≡ 2 * n → length (joined_weights ws) ≡ n
length-joined_weights n [] h = omega arith
length-joined_weights n (w ∷ []) h = absurd (omega arith)
length-joined_weights zero (w ∷ z ∷ ws) h = absurd (omega arith)
length-joined_weights (suc n) (w ∷ z ∷ ws) h = ap suc (length-joined_weights n ws (omega arith))

-- a sequence before other bits
number_after : (m : ℕ) (bits : List Bool) → number_of (fundamental_sequence m ++ bits) ≡ 2 ^ length bits + number_of bits
number_after m bits =
    let n = length bits in
    let all = 1 * 2 ^ n + number_of bits in
    let spelled : word (m + 1 + n) all ≡ fundamental_sequence m ++ bits = word-cat (m + 1) n 1 (number_of bits) (number_of-lt bits) ∙ (λ i. word-fs m i ++ word-number_of bits i) in
    sym (ap number_of spelled) ∙ (number_of-word (m + 1 + n) all (join_below (m + 1) n 1 (number_of bits) (one_fits m) (number_of-lt bits)) ∙ omega arith)

-- digits that spell a number
digits_spelled : (bits : List Bool) {v total : ℕ} → length bits ≡ total → v ≡ number_of bits → HasDigits bits v total
digits_spelled bits {v} {total} len e = record {
  len = len;
  fits = subst (λ n. v < 2 ^ n) len (subst (λ x. x < 2 ^ length bits) (sym e) (number_of-lt bits));
  digits = (λ i. word (sym len i) (e i)) ∙ word-number_of bits;
}

-- the weight of a sequence
abbrev pub weight : ℕ → ℕ
weight m = 2 ^ (m + 1)

-- the weight of a row of sequences is that of its parts
sequences_weigh : (ms : List ℕ) → 2 ^ length (flat_map fundamental_sequence ms) ≡ whole_weight (map weight ms)
sequences_weigh [] = refl
sequences_weigh (m ∷ ms) =
    let rest = flat_map fundamental_sequence ms in
    let len : length (fundamental_sequence m ++ rest) ≡ m + 1 + length rest = length-append (fundamental_sequence m) rest ∙ ap (λ n. n + length rest) (length-fundamental_sequence m) in
    ap (λ n. 2 ^ n) len ∙ (pow-add 2 (m + 1) (length rest) ∙ ap (λ p. 2 ^ (m + 1) * p) (sequences_weigh ms))

-- a row of sequences is the whole of its parts
sequences_are_whole : (ms : List ℕ) → number_of (flat_map fundamental_sequence ms) ≡ whole_value (replicate (length ms) 1) (map weight ms)
unfolding number_of
sequences_are_whole [] = refl
sequences_are_whole (m ∷ ms) =
    number_after m (flat_map fundamental_sequence ms) ∙ ((λ i. sequences_weigh ms i + sequences_are_whole ms i) ∙ omega arith)

-- the last two parts
last_two : (vs ws : List ℕ) → length vs ≡ 2 → length ws ≡ 2 → whole_value vs ws ≡ get_or vs 0 0 * get_or ws 1 0 + get_or vs 1 0
last_two (v ∷ u ∷ []) (w ∷ z ∷ []) h k = omega arith
last_two [] ws h k = absurd (omega arith)
last_two (v ∷ []) ws h k = absurd (omega arith)
last_two (v ∷ u ∷ t ∷ vs) ws h k = absurd (omega arith)
last_two (v ∷ u ∷ []) [] h k = absurd (omega arith)
last_two (v ∷ u ∷ []) (w ∷ []) h k = absurd (omega arith)
last_two (v ∷ u ∷ []) (w ∷ z ∷ y ∷ ws) h k = absurd (omega arith)

-- sixteen sequences, joined three times in lanes and then once more
pub sixteen_joined : (ms : List ℕ) {ws v2 w2 v4 w4 v8 w8 : List ℕ} → length ms ≡ 16 → ws ≡ map weight ms
    → v2 ≡ joined_values (replicate 16 1) ws → w2 ≡ joined_weights ws → v4 ≡ joined_values v2 w2 → w4 ≡ joined_weights w2 → v8 ≡ joined_values v4 w4 → w8 ≡ joined_weights w4
    → get_or v8 0 0 * get_or w8 1 0 + get_or v8 1 0 ≡ number_of (flat_map fundamental_sequence ms)
sixteen_joined ms {ws} {v2} {w2} {v4} {w4} {v8} {w8} len e a2 b2 a4 b4 a8 b8 =
    let ones : List ℕ = replicate 16 1 in
    let n0 : length ws ≡ 2 * 8 = ap length e ∙ (length-map ms weight ∙ len) in
    let l0 : length ones ≡ 2 * 8 = refl in
    let l2 : length v2 ≡ 2 * 4 = ap length a2 ∙ length-joined_values 8 ones ws l0 n0 in
    let n2 : length w2 ≡ 2 * 4 = ap length b2 ∙ length-joined_weights 8 ws n0 in
    let l4 : length v4 ≡ 2 * 2 = ap length a4 ∙ length-joined_values 4 v2 w2 l2 n2 in
    let n4 : length w4 ≡ 2 * 2 = ap length b4 ∙ length-joined_weights 4 w2 n2 in
    let l8 : length v8 ≡ 2 = ap length a8 ∙ length-joined_values 2 v4 w4 l4 n4 in
    let n8 : length w8 ≡ 2 = ap length b8 ∙ length-joined_weights 2 w4 n4 in
    sym (last_two v8 w8 l8 n8)
    ∙ ((λ i. whole_value (a8 i) (b8 i)) ∙ (value_kept 2 v4 w4 l4 n4
    ∙ ((λ i. whole_value (a4 i) (b4 i)) ∙ (value_kept 4 v2 w2 l2 n2
    ∙ ((λ i. whole_value (a2 i) (b2 i)) ∙ (value_kept 8 ones ws l0 n0
    ∙ ((λ i. whole_value (replicate (sym len i) 1) (e i)) ∙ sym (sequences_are_whole ms))))))))

-- at numbers of at most 6 the table has their weights
pub weights_swizzled : (ms : List ℕ) → length ms ≡ 16 → Each1 (λ m. m ≤ 6) ms → swz_l w8 16 WEIGHTS 0 ms ≡ map weight ms
weights_swizzled ms len small = each 0 ms (omega arith) small
  where
    lane : (m : ℕ) → m ≤ 6 → cond (leb 128 m) 0 (get_or WEIGHTS m 0) ≡ weight m
    lane zero h = refl
    lane (suc zero) h = refl
    lane (suc (suc zero)) h = refl
    lane (suc (suc (suc zero))) h = refl
    lane (suc (suc (suc (suc zero)))) h = refl
    lane (suc (suc (suc (suc (suc zero))))) h = refl
    lane (suc (suc (suc (suc (suc (suc zero)))))) h = refl
    lane (suc (suc (suc (suc (suc (suc (suc m))))))) h = absurd (omega arith)

    picked : (i j : ℕ) → i < 16 → j ≤ 6 → cond (leb 128 j) 0 (get_or WEIGHTS (16 * (i / 16) + j) 0) ≡ weight j
    picked i j h k =
        let here : 16 * (i / 16) + j ≡ j = omega (arith, h) in
        ap (λ n. cond (leb 128 j) 0 (get_or WEIGHTS n 0)) here ∙ lane j k

    each : (i : ℕ) (ms : List ℕ) → i + length ms ≤ 16 → Each1 (λ m. m ≤ 6) ms → swz_l w8 16 WEIGHTS i ms ≡ map weight ms
    each i [] h k = refl
    each i (m ∷ ms) h k =
        let rest = each (suc i) ms (omega arith) k.1 in
        let one = picked i m (omega arith) k.0 in
        λ j. one j ∷ rest j

-- numbers of at most 6 are places of the table
pub places_are_ok : (ms : List ℕ) → length ms ≡ 16 → Each1 (λ m. m ≤ 6) ms → SwzOk w8 16 16 0 ms
places_are_ok ms len small = SwzOk-from_below w8 16 1 16 0 ms (omega arith) (omega arith) (wider ms small)
  where
    wider : (ms : List ℕ) → Each1 (λ m. m ≤ 6) ms → Each1 (λ m. m < 16) ms
    wider [] h = tt
    wider (m ∷ ms) h = (omega (arith, h.0), wider ms h.1)

-- the weights of numbers of at most 6 are at most 2^7
pub weights_few : (ms : List ℕ) → Each1 (λ m. m ≤ 6) ms → Each1 (λ w. w ≤ 2 ^ 7) (map weight ms)
weights_few [] h = tt
weights_few (m ∷ ms) h = (pow-le-pow_right {n = 2} (omega arith) {i = m + 1} {j = 7} (omega (arith, h.0)), weights_few ms h.1)

-- where nothing exceeds `most`, all numbers are at most that
pub none_above : (most : ℕ) (ms over : List ℕ) → over ≡ zip2 (λ d b. d - b) ms (replicate 16 most) → length ms ≡ 16 → (fold_l bit_or 0 over == 0) ≡ true → Each1 (λ m. m ≤ most) ms
none_above most ms over are len test =
    let none : fold_l bit_or 0 over ≡ 0 = grind (arith, nat_tests) in
    each 16 ms len (subst (Each1 (λ x. x ≤ 0)) are (subst (λ (m : ℕ). Each1 (λ x. x ≤ m) over) none (lanes_below_digits over)))
  where
    each : (n : ℕ) (ms : List ℕ) → length ms ≡ n → Each1 (λ x. x ≤ 0) (zip2 (λ d b. d - b) ms (replicate n most)) → Each1 (λ m. m ≤ most) ms
    each n [] e h = tt
    each zero (m ∷ ms) e h = absurd (omega arith)
    each (suc n) (m ∷ ms) e h = (omega (arith, h.0), each n ms (omega arith) h.1)

-- and where they are, nothing does
pub none_found_above : (most : ℕ) (ms over : List ℕ) → over ≡ zip2 (λ d b. d - b) ms (replicate 16 most) → Each1 (λ m. m ≤ most) ms → (fold_l bit_or 0 over == 0) ≡ true
none_found_above most ms over are h = eq-eqb _ _ (no_digits over (ap (list_all (λ d. d == 0)) are ∙ each 16 ms h))
  where
    each : (n : ℕ) (ms : List ℕ) → Each1 (λ m. m ≤ most) ms → list_all (λ d. d == 0) (zip2 (λ d b. d - b) ms (replicate n most)) ≡ true
    each n [] h = refl
    each zero (m ∷ ms) h = refl
    each (suc n) (m ∷ ms) h =
        let none : m - most ≡ 0 = omega (arith, h.0) in
        ap (λ d. (d == 0) && list_all (λ d. d == 0) (zip2 (λ d b. d - b) ms (replicate n most))) none ∙ each n ms h.1

-- what the last product makes fits 64 bits
pub row_fits : (bits : List Bool) (v : ℕ) → length bits ≤ 63 → v ≡ number_of bits → v < 2 ^ 63
row_fits bits v few e =
    let le : 2 ^ length bits ≤ 2 ^ 63 = pow-le-pow_right {n = 2} (omega arith) {i = length bits} {j = 63} few in
    omega (arith, e, le, number_of-lt bits)

-- how great the weights are that the table gives
pub first_bounded : (ms : List ℕ) {ws : List ℕ} → All (λ m. m ≤ 6) ms → ws ≡ map weight ms → All (λ w. w ≤ 2 ^ 7) ws
first_bounded ms {ws} h e = all_of (λ w. w ≤ 2 ^ 7) ws (subst (Each1 (λ w. w ≤ 2 ^ 7)) (sym e) (weights_few ms (each_of (λ m. m ≤ 6) ms h)))

-- how great joined weights are, as facts of all
pub joined_weights_bounded : (b : ℕ) (ws : List ℕ) {more : List ℕ} → All (λ w. w ≤ b) ws → more ≡ joined_weights ws → All (λ w. w ≤ b * b) more
joined_weights_bounded b ws {more} h e = all_of (λ w. w ≤ b * b) more (subst (Each1 (λ w. w ≤ b * b)) (sym e) (weights_bounded b ws (each_of (λ w. w ≤ b) ws h)))

-- and joined numbers
pub joined_values_bounded : (a b c : ℕ) (vs ws : List ℕ) {more : List ℕ} → a * b + a ≤ c → All (λ v. v ≤ a) vs → All (λ w. w ≤ b) ws → more ≡ joined_values vs ws → All (λ v. v ≤ c) more
joined_values_bounded a b c vs ws {more} le h k e =
    let few = all_of (λ v. v ≤ a * b + a) more (subst (Each1 (λ v. v ≤ a * b + a)) (sym e) (values_bounded a b vs ws (each_of (λ v. v ≤ a) vs h) (each_of (λ w. w ≤ b) ws k))) in
    λ i d lt. let one = few i d lt in omega (arith, one, le)

-- the number of each sequence is at most 1
pub ones_bounded : (n : ℕ) → All (λ v. v ≤ 1) (replicate n 1)
ones_bounded n = all_of (λ v. v ≤ 1) (replicate n 1) (each n)
  where
    each : (n : ℕ) → Each1 (λ v. v ≤ 1) (replicate n 1)
    each zero = tt
    each (suc n) = (omega arith, each n)

-- bits after others, in numbers
number_of-append : (before wanted : List Bool) → number_of (before ++ wanted) ≡ number_of before * 2 ^ length wanted + number_of wanted
number_of-append before wanted =
    let n = length before in
    let m = length wanted in
    let all = number_of before * 2 ^ m + number_of wanted in
    let spelled : word (n + m) all ≡ before ++ wanted = word-cat n m (number_of before) (number_of wanted) (number_of-lt wanted) ∙ (λ i. word-number_of before i ++ word-number_of wanted i) in
    sym (ap number_of spelled) ∙ number_of-word (n + m) all (join_below n m (number_of before) (number_of wanted) (number_of-lt before) (number_of-lt wanted))

-- the digits in the middle of a number
middle_digits : (before wanted cs : List Bool) (v n : ℕ) {total : ℕ} → v ≡ number_of (before ++ wanted ++ cs) → n ≡ length cs → total ≡ length wanted → total ≤ 56
    → HasDigits wanted (v / 2 ^ n % (1 * 2 ^ total % 2 ^ 64)) total
middle_digits before wanted cs v n {total} e cut len few =
    let front : v / 2 ^ n ≡ number_of (before ++ wanted) =
    (λ i. (e ∙ number_of-append (before ++ wanted) cs) i / 2 ^ cut i) ∙ div-mul-add (number_of (before ++ wanted)) (2 ^ length cs) (number_of cs) (number_of-lt cs) in
    let mask : 1 * 2 ^ total % 2 ^ 64 ≡ 2 ^ length wanted = one_shl total 64 (omega (arith, few)) ∙ ap (λ n. 2 ^ n) len in
    digits_spelled wanted (sym len)
    ((λ i. (front ∙ number_of-append before wanted) i % mask i) ∙ mod-mul-add (number_of before) (2 ^ length wanted) (number_of wanted) (number_of-lt wanted))

-- zeros after numbers are sequences of one digit each
sequences_of_zeros : (n : ℕ) → length (flat_map fundamental_sequence (replicate n 0)) ≡ n
sequences_of_zeros zero = refl
sequences_of_zeros (suc n) = ap suc (sequences_of_zeros n)

-- The sequences of a row: those before number `from`, those up to number `count`, and those of the zeros after it.
row_parts : (ms : List ℕ) (from count : ℕ) → from ≤ count → ms ≡ take count ms ++ replicate (16 - count) 0 → flat_map fundamental_sequence ms ≡
    flat_map fundamental_sequence (slice_range ms 0 from) ++ flat_map fundamental_sequence (slice_range ms from count) ++ flat_map fundamental_sequence (replicate (16 - count) 0)
row_parts ms from count le zeros =
    let f = fundamental_sequence in
    let whole : count ≡ count - 0 = omega arith in
    ap (flat_map f) zeros ∙ (flat_map-append f (take count ms) (replicate (16 - count) 0)
    ∙ ap (λ v. v ++ flat_map f (replicate (16 - count) 0)) (ap (λ n. flat_map f (take n ms)) whole ∙ bits_of_parts f ms 0 from count (omega arith) le))

-- how many bits they have
length-row_parts : (ms : List ℕ) (from count : ℕ) → from ≤ count → ms ≡ take count ms ++ replicate (16 - count) 0
    → length (flat_map fundamental_sequence ms) ≡ length (flat_map fundamental_sequence (slice_range ms 0 from)) + length (flat_map fundamental_sequence (slice_range ms from count)) + (16 - count)
length-row_parts ms from count le zeros =
    let f = fundamental_sequence in
    let before = flat_map f (slice_range ms 0 from) in
    let wanted = flat_map f (slice_range ms from count) in
    let zs = flat_map f (replicate (16 - count) 0) in
    omega (arith, ap length (row_parts ms from count le zeros), length-append (before ++ wanted) zs, length-append before wanted, sequences_of_zeros (16 - count))

-- no sequence is before the first
pub length-none_before : (ms : List ℕ) (from : ℕ) → from ≡ 0 → length (flat_map fundamental_sequence (slice_range ms 0 from)) ≡ 0
length-none_before ms from none = ap (λ n. length (flat_map fundamental_sequence (slice_range ms 0 n))) none

-- and one before the second
pub length-one_before : (ms : List ℕ) (from : ℕ) → from ≡ 1 → 0 < length ms → length (flat_map fundamental_sequence (slice_range ms 0 from)) ≡ get_or ms 0 0 + 1
length-one_before ms from one some =
    ap (λ n. length (flat_map fundamental_sequence (slice_range ms 0 n))) one
    ∙ (ap length (bits_of_one fundamental_sequence ms 0 some) ∙ length-fundamental_sequence (get_or ms 0 0))

-- numbers of at most 6 are summed in a byte, and tell how long their sequences are
summed : (a : ℕ) (ms : List ℕ) → Each1 (λ m. m ≤ 6) ms → a + 6 * length ms < 256 → fold_l (λ x y. (x + y) % 256) a ms + length ms ≡ a + length (flat_map fundamental_sequence ms)
summed a [] h few = omega arith
summed a (m ∷ ms) h few =
    let rest = flat_map fundamental_sequence ms in
    let len : length (fundamental_sequence m ++ rest) ≡ m + 1 + length rest = length-append (fundamental_sequence m) rest ∙ ap (λ n. n + length rest) (length-fundamental_sequence m) in
    let here : (a + m) % 256 ≡ a + m = mod-eq_of_lt (omega (arith, h.0, few)) in
    let more = summed (a + m) ms h.1 (omega (arith, h.0, few)) in
    ap (λ x. fold_l (λ x y. (x + y) % 256) x ms + suc (length ms)) here ∙ omega (arith, more, len)

-- the sum of the lanes, the number of those that are no zeros after them, and what is before the first of these
pub len_of_row : (ms : List ℕ) (from count : ℕ) → length ms ≡ 16 → Each1 (λ m. m ≤ 6) ms → from ≤ count → count ≤ 16 → ms ≡ take count ms ++ replicate (16 - count) 0
    → fold_l (λ x y. (x + y) % 256) 0 ms + count ≡ length (flat_map fundamental_sequence (slice_range ms 0 from)) + length (flat_map fundamental_sequence (slice_range ms from count))
len_of_row ms from count len small le most zeros =
    let all = summed 0 ms small (omega (arith, len)) in
    omega (arith, all, len, most, length-row_parts ms from count le zeros)

-- what is before them is short
few_before : (ms : List ℕ) (from : ℕ) → from ≤ 1 → length ms ≡ 16 → Each1 (λ m. m ≤ 6) ms → length (flat_map fundamental_sequence (slice_range ms 0 from)) ≤ 7
few_before ms zero le len small = omega (arith, length-none_before ms 0 refl)
few_before ms (suc zero) le len small =
    let first : get_or ms 0 0 ≤ 6 = Each1-get_or (λ m. m ≤ 6) ms 0 0 (omega (arith, len)) small in
    omega (arith, first, length-one_before ms 1 refl (omega (arith, len)))
few_before ms (suc (suc from)) le len small = absurd (omega arith)

-- so all together fit one number
pub row_is_short : (ms : List ℕ) (from count : ℕ) {total : ℕ} → from ≤ 1 → 1 ≤ count → length ms ≡ 16 → Each1 (λ m. m ≤ 6) ms → ms ≡ take count ms ++ replicate (16 - count) 0
    → total ≡ length (flat_map fundamental_sequence (slice_range ms from count)) → total + (16 - count) ≤ 56 → length (flat_map fundamental_sequence ms) ≤ 63
row_is_short ms from count one some len small zeros total few =
    omega (arith, length-row_parts ms from count (omega (arith, one, some)) zeros, few_before ms from one len small, total, few)

-- and the digits of those that are wanted are taken out of it
pub digits_of_row : (ms : List ℕ) (from count v : ℕ) {total : ℕ} → from ≤ count → ms ≡ take count ms ++ replicate (16 - count) 0
    → total ≡ length (flat_map fundamental_sequence (slice_range ms from count)) → total ≤ 56 → v ≡ number_of (flat_map fundamental_sequence ms)
    → HasDigits (flat_map fundamental_sequence (slice_range ms from count)) (v / 2 ^ (16 - count) % (1 * 2 ^ total % 2 ^ 64)) total
digits_of_row ms from count v le zeros total few e =
    let f = fundamental_sequence in
    middle_digits (flat_map f (slice_range ms 0 from)) (flat_map f (slice_range ms from count)) (flat_map f (replicate (16 - count) 0)) v (16 - count)
    (e ∙ ap number_of (row_parts ms from count le zeros)) (sym (sequences_of_zeros (16 - count))) total few

-- where no sequence is before them, nothing has to be taken off
pub digits_of_front : (ms : List ℕ) (from count v : ℕ) {total : ℕ} → from ≡ 0 → ms ≡ take count ms ++ replicate (16 - count) 0
    → total ≡ length (flat_map fundamental_sequence (slice_range ms from count)) → v ≡ number_of (flat_map fundamental_sequence ms)
    → HasDigits (flat_map fundamental_sequence (slice_range ms from count)) (v / 2 ^ (16 - count)) total
digits_of_front ms from count v {total} none zeros total_is e =
    let f = fundamental_sequence in
    let wanted = flat_map f (slice_range ms from count) in
    let rest = flat_map f (replicate (16 - count) 0) in
    let parts = row_parts ms 0 count (omega arith) zeros ∙ ap (λ n. flat_map f (slice_range ms n count) ++ rest) (sym none) in
    digits_spelled wanted (sym total_is)
    ((λ i. (e ∙ (ap number_of parts ∙ number_of-append wanted rest)) i / 2 ^ sym (sequences_of_zeros (16 - count)) i) ∙ div-mul-add (number_of wanted) (2 ^ length rest)
    (number_of rest) (number_of-lt rest))
