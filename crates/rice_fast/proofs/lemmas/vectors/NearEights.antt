-- Near numbers, eight at a time; `near_ranks` holds for any number of them.
use Rattle.rice_fast.proofs.Words.{◌≡◌, ℕ, zero, suc, ◌+◌, ◌-◌, ◌*◌, ◌/◌, ◌%◌, ◌<◌, ◌≤◌, min, max, cond, List, [], ◌∷◌, map, length, take, refl, sym, ◌∙◌, ap, subst, arith, nat_lt, ◌==◌, zip2, Each1}
use Rattle.rice_fast.proofs.Words.{Each2, sel_l, nat_tests, mod-eq_of_lt, add-mod_right, rank_below, ranks_below, way, near_numbers, reach, bound}

-- there are as many near numbers as ranks
pub length-near_numbers : (m p : ℕ) (ds : List ℕ) → length (near_numbers m p ds) ≡ length ds
length-near_numbers m p [] = refl
length-near_numbers m p (d ∷ ds) = ap (λ n. suc n) (length-near_numbers m ((p + way m d) % m) ds)

-- where the first of two lanes is picked if it is the lesser, and else the second, each is the lesser of both
pub select_min : (xs ys : List ℕ) → sel_l (zip2 nat_lt xs ys) xs ys ≡ zip2 min xs ys
select_min [] ys = refl
select_min (x ∷ xs) [] = refl
select_min (x ∷ xs) (y ∷ ys) =
    let one : cond (nat_lt x y) x y ≡ min x y = grind (arith, nat_tests) in
    λ j. one j ∷ select_min xs ys j

-- and picked the other way round, the greater
pub select_max : (xs ys : List ℕ) → sel_l (zip2 nat_lt xs ys) ys xs ≡ zip2 max xs ys
select_max [] ys = refl
select_max (x ∷ xs) [] = refl
select_max (x ∷ xs) (y ∷ ys) =
    let one : cond (nat_lt x y) y x ≡ max x y = grind (arith, nat_tests) in
    λ j. one j ∷ select_max xs ys j

-- from p up a rank is twice the distance, as far as the range reaches to both sides
rank_above : (count p x : ℕ) → p < count → x < count → p ≤ x → x - p ≤ min p (count - 1 - p) → rank_below count p x ≡ 2 * (x - p)
rank_above count p x hp hx le near = grind (arith, nat_tests)

-- below p it is one less than that
rank_under : (count p x : ℕ) → p < count → x < count → x < p → p - x ≤ min p (count - 1 - p) → suc (rank_below count p x) ≡ 2 * (p - x)
rank_under count p x hp hx lt near = grind (arith, nat_tests)

bound_is : (m g p : ℕ) → p ≤ g → g < m → bound m g p ≡ 2 * min p (g - p)
bound_is m g p h k =
    let up : g + (m - p) ≡ (g - p) + m = omega arith in
    let gap : (g + (m - p)) % m ≡ g - p = ap (λ n. n % m) up ∙ (add-mod_right (g - p) m ∙ mod-eq_of_lt (omega arith)) in
    let reaches : reach m g p ≡ min p (g - p) = ap (λ n. min p n) gap in
    let small : (min p (g - p) + min p (g - p)) % m ≡ min p (g - p) + min p (g - p) = mod-eq_of_lt (omega arith) in
    ap (λ n. (n + n) % m) reaches ∙ (small ∙ omega arith)

near_one : (m g p d : ℕ) → p ≤ g → g < m → d ≤ bound m g p → ((p + way m d) % m ≤ g) × (rank_below (g + 1) p ((p + way m d) % m) ≡ d)
near_one m g p d h k t = by_digit (d % 2) (omega arith) refl
  where
    near : d ≤ 2 * min p (g - p)
    near = let b = bound_is m g p h k in omega (arith, b, t)

    Near : ℕ → Type 0
    Near x = (x ≤ g) × (rank_below (g + 1) p x ≡ d)

    by_digit : (r : ℕ) → r < 2 → d % 2 ≡ r → Near ((p + way m d) % m)
    by_digit zero lt e =
        let up : way m d ≡ d / 2 = ap (λ n. cond (n == 0) (d / 2) (m - 1 - d / 2)) e in
        let n = near in
        let x : (p + way m d) % m ≡ p + d / 2 = ap (λ n. (p + n) % m) up ∙ mod-eq_of_lt (omega arith) in
        let r = rank_above (g + 1) p (p + d / 2) (omega arith) (omega arith) (omega arith) (omega arith) in
        subst Near (sym x) (omega arith, omega arith)
    by_digit (suc zero) lt e =
        let down : way m d ≡ m - 1 - d / 2 = ap (λ n. cond (n == 0) (d / 2) (m - 1 - d / 2)) e in
        let n = near in
        let wraps : p + (m - 1 - d / 2) ≡ (p - (d / 2 + 1)) + m = omega arith in
        let x : (p + way m d) % m ≡ p - (d / 2 + 1) = ap (λ n. (p + n) % m) down ∙ (ap (λ n. n % m) wraps ∙ (add-mod_right (p - (d / 2 + 1)) m ∙ mod-eq_of_lt (omega arith))) in
        let r = rank_under (g + 1) p (p - (d / 2 + 1)) (omega arith) (omega arith) (omega arith) (omega arith) in
        subst Near (sym x) (omega arith, omega arith)
    by_digit (suc (suc r)) lt e = absurd (omega arith)

-- Where each rank is at most the bound of the number before it, the near numbers lie in the range, and their ranks are these.
pub near_ranks : (m g p : ℕ) (ds : List ℕ) → p ≤ g → g < m → Each2 (λ d b. d ≤ b) ds (map (bound m g) (take (length ds) (p ∷ near_numbers m p ds)))
    → Each1 (λ x. x ≤ g) (near_numbers m p ds) × (ranks_below (g + 1) p (near_numbers m p ds) ≡ ds)
near_ranks m g p [] h k t = (tt, refl)
near_ranks m g p (d ∷ ds) h k t =
    let one = near_one m g p d h k t.0 in
    let rest = near_ranks m g ((p + way m d) % m) ds one.0 k t.1 in
    ((one.0, rest.0), λ j. one.1 j ∷ rest.1 j)
