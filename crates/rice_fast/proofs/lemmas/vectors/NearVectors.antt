-- Near numbers, as many at a time as a vector has lanes.
use Rattle.rice_fast.proofs.Words.{◌≡◌, inl, inr, ℕ, zero, suc, ◌+◌, ◌-◌, ◌%◌, ◌^◌, ◌<◌, ◌≤◌, max, cond, Bool, List, [], ◌∷◌, map, length, take, drop, get_or, replicate, refl, sym, ◌∙◌, ap, subst}
use Rattle.rice_fast.proofs.Words.{arith, Fits, nat_lt, All, Width, bits, hbits, zip2, Each1, Each2, sel_l, top, cases_lt, length-map, length-replicate, length-take-le, tops_compared, Each1-get_or}
use Rattle.rice_fast.proofs.Words.{mod-eq_of_lt, add-mod_right, ranks_below, running_sums, joined_parts, Parameters, value_count, AreLevelsOfParts, way, near_numbers, bound}
use Rattle.rice_fast.proofs.lemmas.vectors.NearEights.{select_max, length-near_numbers, near_ranks}

-- near numbers are running sums of ways
pub sums_of_ways : (m p : ℕ) (ds : List ℕ) → running_sums m p (map (way m) ds) ≡ near_numbers m p ds
sums_of_ways m p [] = refl
sums_of_ways m p (d ∷ ds) = ap (λ xs. (p + way m d) % m ∷ xs) (sums_of_ways m ((p + way m d) % m) ds)

-- the lanes in which one number is below another
abbrev pub masks : Width → List ℕ → List ℕ → List Bool
masks w xs ys = map (top (hbits w)) (zip2 (λ a b. cond (nat_lt a b) (2 ^ bits w - 1) 0) xs ys)

one_excess : (m d b : ℕ) → d < m → b < m → (max d b + (m - b)) % m ≡ d - b
one_excess m d b h k = elim (cases_lt b d) [
  | inr le ↦ (
      let same : max d b + (m - b) ≡ m = omega arith in
      ap (λ n. n % m) (same ∙ (let z : m ≡ 0 + m = omega arith in z)) ∙ (add-mod_right 0 m ∙ (mod-eq_of_lt (omega arith) ∙ omega arith)))
  | inl lt ↦ (
      let up : max d b + (m - b) ≡ (d - b) + m = omega arith in
      ap (λ n. n % m) up ∙ (add-mod_right (d - b) m ∙ mod-eq_of_lt (omega arith)))
]

-- the greater of rank and bound, less the bound by a difference that wraps, is how far the rank is above it, or 0
pub excess_of_each : (w : Width) (ds bs : List ℕ) → Each1 (Fits w) ds → Each1 (Fits w) bs
    → zip2 (λ a b. (a + (2 ^ bits w - b)) % 2 ^ bits w) (sel_l (masks w ds bs) bs ds) bs ≡ zip2 (λ d b. d - b) ds bs
excess_of_each w ds bs h k =
    let most : sel_l (masks w ds bs) bs ds ≡ zip2 max ds bs = ap (λ ms. sel_l ms bs ds) (tops_compared w nat_lt ds bs) ∙ select_max ds bs in
    ap (λ ys. zip2 (λ a b. (a + (2 ^ bits w - b)) % 2 ^ bits w) ys bs) most ∙ each ds bs h k
  where
    each : (ds bs : List ℕ) → Each1 (Fits w) ds → Each1 (Fits w) bs → zip2 (λ a b. (a + (2 ^ bits w - b)) % 2 ^ bits w) (zip2 max ds bs) bs ≡ zip2 (λ d b. d - b) ds bs
    each [] bs h k = refl
    each (d ∷ ds) [] h k = refl
    each (d ∷ ds) (b ∷ bs) h k =
        let rest = each ds bs h.1 k.1 in
        λ j. one_excess (2 ^ bits w) d b h.0.fits k.0.fits j ∷ rest j

-- where no number is above the other, in any lane
pub no_excess_in_vector : (n : ℕ) (ds bs : List ℕ) → length ds ≡ length bs → zip2 (λ d b. d - b) ds bs ≡ replicate n 0 → Each2 (λ d b. d ≤ b) ds bs
no_excess_in_vector n [] bs e t = tt
no_excess_in_vector n (d ∷ ds) [] e t = absurd (omega arith)
no_excess_in_vector zero (d ∷ ds) (b ∷ bs) e t = absurd (let l = ap length t in omega arith)
no_excess_in_vector (suc n) (d ∷ ds) (b ∷ bs) e t =
    let first : d - b ≡ 0 = ap (λ xs. get_or xs 0 0) t in
    (omega (arith, first), no_excess_in_vector n ds bs (omega arith) (ap (drop 1) t))

-- Where no rank is above its bound, all numbers are the ones with these ranks: n lanes that wrap at m, g the greatest number, p the one before the first, ds the ranks.
pub vector_is_near : {n m g p : ℕ} (ds : List ℕ) {bs xs before over : List ℕ} → p ≤ g → g < m → length ds ≡ n → xs ≡ near_numbers m p ds → before ≡ take n (p ∷ xs) → bs ≡ map (bound m g) before
    → over ≡ zip2 (λ d b. d - b) ds bs → over ≡ replicate n 0 → All (λ x. x ≤ g) xs × (ranks_below (g + 1) p xs ≡ ds)
vector_is_near {n} {m} {g} {p} ds {bs} {xs} {before} h k len numbers shifted bounds are test =
    let all : bs ≡ map (bound m g) (take (length ds) (p ∷ near_numbers m p ds)) = bounds ∙ (ap (map (bound m g)) shifted ∙ (λ j. map (bound m g) (take (sym len j) (p ∷ numbers j)))) in
    let many : length ds ≡ length bs = len ∙ sym
    (ap length bounds ∙ (length-map before (bound m g)
    ∙ (ap length shifted ∙ length-take-le n (p ∷ xs) (omega (arith, len, ap length numbers, length-near_numbers m p ds))))) in
    let each = no_excess_in_vector n ds bs many (sym are ∙ test) in
    let near = near_ranks m g p ds h k (subst (λ (ys : List ℕ). Each2 (λ d b. d ≤ b) ds ys) all each) in
    subst (λ (ys : List ℕ). All (λ x. x ≤ g) ys × (ranks_below (g + 1) p ys ≡ ds)) (sym numbers) ((λ i d lt. Each1-get_or (λ x. x ≤ g) (near_numbers m p ds) i d lt near.0), near.1)

-- where no lane exceeds the limit, no number is above it
pub none_above : (n most : ℕ) (ms over : List ℕ) → over ≡ zip2 (λ d b. d - b) ms (replicate n most) → length ms ≡ n → over ≡ replicate n 0 → All (λ m. m ≤ most) ms
none_above n most ms over are len test = λ i d lt. Each1-get_or (λ m. m ≤ most) ms i d lt
    (each n ms len (no_excess_in_vector n ms (replicate n most) (len ∙ sym (length-replicate n most)) (sym are ∙ test)))
  where
    each : (n : ℕ) (ms : List ℕ) → length ms ≡ n → Each2 (λ d b. d ≤ b) ms (replicate n most) → Each1 (λ m. m ≤ most) ms
    each n [] e h = tt
    each zero (m ∷ ms) e h = absurd (omega arith)
    each (suc n) (m ∷ ms) e h = (h.0, each n ms (omega arith) h.1)

-- a number that fits a lane fits all lanes of a vector
pub splat-fits : (w : Width) (n x : ℕ) → Fits w x → Each1 (Fits w) (replicate n x)
splat-fits w zero x h = tt
splat-fits w (suc n) x h = (h, splat-fits w n x h)

-- levels that are legal, and near to one another, are those of the parts
pub near_levels_are : {s : Parameters} (m : ℕ) {before width : ℕ} (greatest : ℕ) {highs lows ranks levels : List ℕ} → greatest + 1 ≡ value_count s
    → length ranks ≡ length highs → levels ≡ near_numbers m before ranks → ranks ≡ joined_parts width highs lows → All (λ x. x ≤ greatest) levels → ranks_below (greatest + 1) before levels ≡ ranks
    → AreLevelsOfParts s before width highs lows levels
near_levels_are m {before} greatest {ranks} {levels} count len near joined legal ranked = record {
  len = ap length near ∙ (length-near_numbers m before ranks ∙ len);
  legal = λ i d lt. let x = legal i d lt in omega (arith, x, count);
  ranked = ap (λ n. ranks_below n before levels) (sym count) ∙ (ranked ∙ joined);
}
