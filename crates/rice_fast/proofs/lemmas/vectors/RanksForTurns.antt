-- What is computed of ranks in lanes before their numbers are found one after another.
use Rattle.rice_fast.proofs.Words.{◌≡◌, ℕ, zero, suc, ◌+◌, ◌-◌, ◌/◌, ◌%◌, ◌^◌, ◌<◌, ◌≤◌, if◌then◌else◌, List, [], ◌∷◌, ◌++◌, ◌∙◌, ◌*◌, map, length, take, drop, get_or, refl, subst, sym, ap, arith}
use Rattle.rice_fast.proofs.Words.{nat_lt, bit_and, zip2, nat_tests, length-map, get_or-map, take-append-drop, and_mask, pow-add, way, last_number, rank_below, ranks_below, mod-eq_of_lt}
use Rattle.rice_fast.proofs.Words.{pow-le-pow_right}
use Rattle.std.specs.Prelude.{replicate}
use Rattle.rice_fast.proofs.lemmas.vectors.RestoredLevels.{ranks_below-append}

-- half of each rank, up
pub lanes_halved : (m n : ℕ) (ds : List ℕ) → 1 < m → length ds ≡ n → ((i : ℕ) → get_or ds i 0 < m)
    → zip2 (λ a b. (a + b) % m) (map (λ a. a / 2) ds) (zip2 bit_and ds (replicate n 1)) ≡ map (λ d. (d + 1) / 2) ds
lanes_halved m n [] some e fits = refl
lanes_halved m zero (d ∷ ds) some e fits = absurd (omega arith)
lanes_halved m (suc n) (d ∷ ds) some e fits =
    let one : (d / 2 + bit_and d 1) % m ≡ (d + 1) / 2 = half_up d (fits 0) in
    let others = lanes_halved m n ds some (omega arith) (λ i. fits (suc i)) in
    λ j. one j ∷ others j
  where
    half_up : (d : ℕ) → d < m → (d / 2 + bit_and d 1) % m ≡ (d + 1) / 2
    half_up d lt =
        let odd : bit_and d 1 ≡ d % 2 = and_mask d 1 in
        let sum : d / 2 + d % 2 ≡ (d + 1) / 2 = omega arith in
        ap (λ x. (d / 2 + x) % m) odd ∙ (ap (λ x. x % m) sum ∙ mod-eq_of_lt (omega (arith, lt, some)))

-- the least number that is too high for each rank
pub lanes_topped : (f : ℕ → ℕ) (g n : ℕ) (ds : List ℕ) → length ds ≡ n → zip2 (λ a b. a - b) (replicate n g) (zip2 (λ a b. a - b) (map f ds) (replicate n 1)) ≡ map (λ d. g - (f d - 1)) ds
lanes_topped f g zero [] e = refl
lanes_topped f g zero (d ∷ ds) e = absurd (omega arith)
lanes_topped f g (suc n) [] e = absurd (omega arith)
lanes_topped f g (suc n) (d ∷ ds) e =
    let others = lanes_topped f g n ds (omega arith) in
    λ j. (g - (f d - 1)) ∷ others j

-- an element of a list, by what is made of it
pub element : {X : Type 0} (f : X → ℕ) (xs : List X) (i : ℕ) (x : X) {v : ℕ} → i < length xs → x ≡ get_or xs i x → v ≡ f x → v ≡ get_or (map f xs) i 0
element f xs i x h is e = e ∙ (ap f is ∙ sym (get_or-map f xs i x 0 h))

-- an element of a list whose numbers are made of those of another
pub made : {X : Type 0} (f : X → ℕ) (g : ℕ → ℕ) (xs ys : List X) (i : ℕ) (x y : X) {d v : ℕ} → i < length xs → x ≡ get_or xs i x → d ≡ f x → y ≡ get_or ys i y → v ≡ f y
    → map f ys ≡ map g (map f xs) → v ≡ g d
made f g xs ys i x y h x_is d_is y_is v_is e =
    let many : length ys ≡ length xs = sym (length-map ys f) ∙ (ap length e ∙ (length-map (map f xs) g ∙ length-map xs f)) in
    let room : i < length (map f xs) = omega (arith, h, length-map xs f) in
    element f ys i y (omega (arith, h, many)) y_is v_is ∙ (ap (λ l. get_or l i 0) e ∙ (get_or-map g (map f xs) i 0 0 room ∙ ap g (sym (element f xs i x h x_is d_is))))

-- a way that wraps at 2 m is one that wraps at 2^32, with ones in front of it where its first digit is 1
way_is : (m d : ℕ) → d < 2 * m → 2 * m ≤ 2 ^ 32 → (if nat_lt (way (2 * m) d) m then way (2 * m) d else way (2 * m) d + (2 ^ 32 - 2 * m)) ≡ way (2 ^ 32) d
way_is m d small most = grind (arith, nat_tests)

-- so it is for any number of bits up to 32
pub way_widened : (k d : ℕ) → 1 < 2 ^ k → k ≤ 32 → d < 2 ^ k → (if nat_lt (way (2 ^ k) d) (2 ^ (k - 1)) then way (2 ^ k) d else way (2 ^ k) d + (2 ^ 32 - 2 ^ k)) ≡ way (2 ^ 32) d
way_widened zero d some few small = absurd (omega arith)
way_widened (suc k) d some few small =
    let most : 2 ^ suc k ≤ 2 ^ 32 = pow-le-pow_right {n = 2} (omega arith) {i = suc k} {j = 32} few in
    let e : suc k ≡ 1 + k = omega arith in
    let two : 2 ^ suc k ≡ 2 * 2 ^ k = ap (λ n. 2 ^ n) e ∙ pow-add 2 1 k in
    let last : k ≡ suc k - 1 = omega arith in
    subst (λ q. (if nat_lt (way (2 ^ suc k) d) (2 ^ q) then way (2 ^ suc k) d else way (2 ^ suc k) d + (2 ^ 32 - 2 ^ suc k)) ≡ way (2 ^ 32) d) last
    (subst (λ n. (if nat_lt (way n d) (2 ^ k) then way n d else way n d + (2 ^ 32 - n)) ≡ way (2 ^ 32) d) (sym two) (way_is (2 ^ k) d (omega (arith, small, two)) (omega (arith, most, two))))

-- a number is no way from itself
pub none_away : (count q n : ℕ) → q < count → ranks_below count q (replicate n q) ≡ replicate n 0
none_away count q zero h = refl
none_away count q (suc n) h =
    let one : rank_below count q q ≡ 0 = grind (arith, nat_tests) in
    let others = none_away count q n h in
    λ j. one j ∷ others j

-- where all ranks but the first are 0, all numbers but the first are as the last of these
pub repeated : (g p n last : ℕ) (ranks first : List ℕ) → last ≤ g → last ≡ last_number p first → ranks_below (g + 1) p first ≡ take 8 ranks → drop 8 ranks ≡ replicate n 0
    → ranks_below (g + 1) p (first ++ replicate n last) ≡ ranks
repeated g p n last ranks first within is ranked none =
    ranks_below-append (g + 1) p first (replicate n last)
    ∙ ((λ j. ranked j ++ (ap (λ q. ranks_below (g + 1) q (replicate n last)) (sym is) ∙ (none_away (g + 1) last n (omega arith) ∙ sym none)) j) ∙ take-append-drop 8 ranks)
