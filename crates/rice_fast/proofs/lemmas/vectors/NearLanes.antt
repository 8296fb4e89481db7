-- Near numbers in lanes.
use Rattle.rice_fast.proofs.Words.{◌≡◌, ℕ, zero, suc, ◌+◌, ◌-◌, ◌*◌, ◌/◌, ◌%◌, ◌^◌, ◌<◌, ◌≤◌, min, List, [], ◌∷◌, map, length, get_or, take, replicate, refl, sym, ◌∙◌, ap, subst, arith, All, bit_and}
use Rattle.rice_fast.proofs.Words.{bit_or, bit_xor, Each1, zip2, get_or-replicate, ranks_below, le_or_l, le_or_r, pow_pos, pow-add, div-lt_iff_lt-mul, mod-eq_of_lt, mul-le-mul_right, joined_parts}
use Rattle.rice_fast.proofs.Words.{way, near_numbers, bound, way_lane}
use Rattle.rice_fast.proofs.lemmas.{vectors.OneVector.zeros_below, vectors.OneVector.each_zero, vectors.NearVectors.vector_is_near}

-- half of each rank, with its digits turned over where the rank is odd, is its way
pub lanes_of_ways : (k n : ℕ) (ds : List ℕ) → length ds ≡ n → ((i : ℕ) → get_or ds i 0 < 2 ^ k)
    → zip2 bit_xor (map (λ a. a / 2) ds) (zip2 (λ a b. (a + (2 ^ k - b)) % 2 ^ k) (replicate n 0) (zip2 bit_and ds (replicate n 1))) ≡ map (way (2 ^ k)) ds
lanes_of_ways k n [] e fits = refl
lanes_of_ways k zero (d ∷ ds) e fits = absurd (omega arith)
lanes_of_ways k (suc n) (d ∷ ds) e fits =
    let rest = lanes_of_ways k n ds (omega arith) (λ i. fits (suc i)) in
    λ j. way_lane k d (fits 0) j ∷ rest j

-- the lesser of each number and what is left from it up to g, twice, is its bound
pub lanes_of_bounds : (m g n : ℕ) (xs : List ℕ) → length xs ≡ n →
    (let reaches = zip2 min xs (zip2 (λ a b. (a + (m - b)) % m) (replicate n g) xs) in zip2 (λ a b. (a + b) % m) reaches reaches) ≡ map (bound m g) xs
lanes_of_bounds m g n [] e = refl
lanes_of_bounds m g zero (x ∷ xs) e = absurd (omega arith)
lanes_of_bounds m g (suc n) (x ∷ xs) e = ap (λ z. bound m g x ∷ z) (lanes_of_bounds m g n xs (omega arith))

-- where no rank is above the bound of the number before it, all numbers are the ones with these ranks
pub lanes_are_near : {m g p n : ℕ} (ds xs : List ℕ) {first before last left reach bounds over : List ℕ} → p ≤ g → g < m → 0 < n → length ds ≡ n → length before ≡ n
    → xs ≡ near_numbers m p ds → first ≡ replicate n p → before ≡ take n (get_or first (n - 1) 0 ∷ xs) → last ≡ replicate n g → left ≡ zip2 (λ a b. (a + (m - b)) % m) last before
    → reach ≡ zip2 min before left → bounds ≡ zip2 (λ a b. (a + b) % m) reach reach → over ≡ zip2 (λ a b. a - b) ds bounds
    → over ≡ replicate n 0 → All (λ x. x ≤ g) xs × (ranks_below (g + 1) p xs ≡ ds)
lanes_are_near {m} {g} {p} {n} ds xs {before} low high some many long numbers firsts shifted lasts lefts reaches bounds overs =
    vector_is_near ds low high many numbers (shifted ∙ ap (λ q. take n (q ∷ xs)) (ap (λ qs. get_or qs (n - 1) 0) firsts ∙ get_or-replicate n (n - 1) p 0 (omega arith)))
    (bounds ∙ rw (reaches, lefts, lasts) (lanes_of_bounds m g n before long)) overs

-- where the digits of each two lanes together are within a limit, so are both lanes
pub parts_below : (limit : ℕ) (xs ys : List ℕ) → length xs ≡ length ys → Each1 (λ x. x ≤ limit) (zip2 bit_or xs ys) → Each1 (λ x. x ≤ limit) xs × Each1 (λ x. x ≤ limit) ys
parts_below limit [] [] n h = (tt, tt)
parts_below limit [] (y ∷ ys) n h = absurd (omega arith)
parts_below limit (x ∷ xs) [] n h = absurd (omega arith)
parts_below limit (x ∷ xs) (y ∷ ys) n h =
    let rest = parts_below limit xs ys (omega arith) h.1 in
    let l = le_or_l x y in
    let r = le_or_r x y in
    ((omega (arith, h.0), rest.0), (omega (arith, h.0), rest.1))

-- where the digits of two vectors together are 0, both are zeros
pub both_zeros : (n : ℕ) (xs ys : List ℕ) {zs : List ℕ} → length xs ≡ n → length ys ≡ n → zs ≡ zip2 bit_or xs ys → zs ≡ replicate n 0 → (xs ≡ replicate n 0) × (ys ≡ replicate n 0)
both_zeros n xs ys h k e none =
    let both = parts_below 0 xs ys (h ∙ sym k) (subst (Each1 (λ x. x ≤ 0)) (sym none ∙ e) (zeros_below n)) in
    (each_zero n xs h both.0, each_zero n ys k both.1)

one_joined : (k w m l : ℕ) → w < k → m ≤ (2 ^ k - 1) / 2 ^ w → l < 2 ^ w → (m * 2 ^ w + l) % 2 ^ k ≡ m * 2 ^ w + l
one_joined k w m l h few low =
    let some = pow_pos k in
    let split : 2 ^ k ≡ 2 ^ (k - w) * 2 ^ w = ap (λ n. 2 ^ n) (let e : k ≡ (k - w) + w = omega arith in e) ∙ pow-add 2 (k - w) w in
    let less : (2 ^ k - 1) / 2 ^ w < 2 ^ (k - w) = (div-lt_iff_lt-mul {k = 2 ^ w} {x = 2 ^ k - 1} {y = 2 ^ (k - w)} (pow_pos w)).1 (omega (arith, some, split)) in
    let more : (m + 1) * 2 ^ w ≤ 2 ^ (k - w) * 2 ^ w = mul-le-mul_right (2 ^ w) (omega (arith, few, less)) in
    mod-eq_of_lt (omega (arith, split, more, low))

-- low parts added to high parts that were moved up are the joined numbers
pub lanes_joined : (k w : ℕ) (ms ls : List ℕ) → w < k → length ls ≡ length ms → All (λ m. m ≤ (2 ^ k - 1) / 2 ^ w) ms → All (λ l. l < 2 ^ w) ls
    → zip2 (λ a b. (a + b) % 2 ^ k) (map (λ m. m * 2 ^ w) ms) ls ≡ joined_parts w ms ls
lanes_joined k w [] ls h e few low = refl
lanes_joined k w (m ∷ ms) [] h e few low = refl
lanes_joined k w (m ∷ ms) (l ∷ ls) h e few low =
    let first = one_joined k w m l h (few 0 0 (omega arith)) (low 0 0 (omega arith)) in
    let rest = lanes_joined k w ms ls h (omega arith) (λ i d lt. few (suc i) d (omega (arith, lt))) (λ i d lt. low (suc i) d (omega (arith, lt))) in
    λ j. first j ∷ rest j
