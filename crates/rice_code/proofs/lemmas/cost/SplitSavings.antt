-- How the costs of the splits go from one to the next, and which option is chosen.
use Rattle.std.proofs.Common.{◌≡◌, ℕ, zero, suc, ◌+◌, ◌-◌, ◌*◌, ◌<◌, ◌≤◌, Bool, true, false, cond, nat_lt, map, List, [], ◌∷◌, length, refl, ap, arith, ◌∙◌, ◌⊎◌, inl, inr, subst}
use Rattle.rice_code.proofs.Words.{All, OnSome, slice_index, Option, Some, None, best_of, range_with_len, AllByRecursion, All-from_recursion, cases_lt, nat_tests, sum_by-cons, zero-div, Parameters}
use Rattle.rice_code.proofs.Words.{id_len, k_max, cut_sum, sum_halves, BlockData, NoCompression, SecondExtension, Split, cost, sent_residuals, sent_from, reference_len, shortest, other_options}
use Rattle.rice_code.proofs.{Words.IsBestSplit, Words.IsZeroAtReference, Words.common_steps, lemmas.meaning.CoveredBlocks.bool_cases}

-- What a split saves against the one before never rises.
pub saving_never_rises : (s : Parameters) (c : BlockData) (k : ℕ) → 2 * cost s (Split (k + 1) c) ≤ cost s (Split k c) + cost s (Split (k + 2) c)
saving_never_rises s c k = grind (arith, common_steps, sum_halves)

-- where the next is no shorter, none after it is
pub no_later_is_shorter : (ds : List ℕ) (l k m : ℕ) → l * (k + 1) + cut_sum ds k ≤ l * (k + 1 + 1) + cut_sum ds (k + 1) → l * (k + 1) + cut_sum ds k ≤ l * (k + m + 1) + cut_sum ds (k + m)
no_later_is_shorter ds l k zero h = let e : k + 0 ≡ k = omega arith in let f = ap (λ n. l * (n + 1) + cut_sum ds n) e in omega arith
no_later_is_shorter ds l k (suc m) h = grind (arith, common_steps, sum_halves, no_later_is_shorter ds l k m h)

-- where a number is less than another, the test says so,
pub nat_lt-true : (m n : ℕ) → m < n → nat_lt m n ≡ true
nat_lt-true m n h = grind (arith, nat_tests)

-- and where it is not, the test says that it is not
pub not_less : (m n : ℕ) → n ≤ m → nat_lt m n ≡ false
not_less m n h = grind (arith, nat_tests)

-- no option after is shorter, so the first stays
pub first_is_kept : {A : Type 0} (f : A → ℕ) (g : ℕ → A) (a : A) (from n : ℕ) → ((j : ℕ) → from ≤ j → j < from + n → f a ≤ f (g j))
    → best_of (λ x y. nat_lt (f x) (f y)) a (map g (range_with_len from n)) ≡ a
first_is_kept f g a from zero h = refl
first_is_kept f g a from (suc n) h =
    let e : nat_lt (f (g from)) (f a) ≡ false = no (f (g from)) (f a) (h from (omega arith) (omega arith)) in
    ap (λ v. best_of (λ x y. nat_lt (f x) (f y)) (cond v (g from) a) (map g (range_with_len (from + 1) n))) e
    ∙ first_is_kept f g a (from + 1) n (λ j p q. h j (omega arith) (omega arith))
  where
    no : (m n : ℕ) → n ≤ m → nat_lt m n ≡ false
    no m n h = grind (arith, nat_tests)

-- the first of the numbers from one on that is least
pub record FirstLeast {A : Type 0} (f : A → ℕ) (g : ℕ → A) (from n k : ℕ) : Type 0 where
  pub above : from ≤ k
  pub below : k < from + n
  pub before : ((j : ℕ) → from ≤ j → j < k → f (g k) < f (g j))
  pub least : ((j : ℕ) → j < from + n → f (g k) ≤ f (g j))

-- of numbered options the first of least length is the best, or what was best before
pub best_numbered : {A : Type 0} (f : A → ℕ) (g : ℕ → A) (a : A) (from n k : ℕ) → FirstLeast f g from n k →
    best_of (λ x y. nat_lt (f x) (f y)) a (map g (range_with_len from n)) ≡ cond (nat_lt (f (g k)) (f a)) (g k) a
best_numbered f g a from zero k first_least = absurd (omega arith)
best_numbered {A} f g a from (suc n) k first_least =
    let next = λ (b : A). best_of (λ x y. nat_lt (f x) (f y)) b (map g (range_with_len (from + 1) n)) in
    let step = λ (v : Bool) (e : nat_lt (f (g from)) (f a) ≡ v). ap (λ v. next (cond v (g from) a)) e in
    elim (cases_lt from k) [
      | inl lt ↦
          let ih = λ (b : A). best_numbered f g b (from + 1) n k (record {
            above = omega arith;
            below = omega arith;
            before = λ j p q. first_least.before j (omega arith) q;
            least = λ j p. first_least.least j (omega arith);
          }) in
          let less = first_least.before from (omega arith) lt in
          elim (bool_cases (nat_lt (f (g from)) (f a))) [ inl e ↦ grind (arith, common_steps, nat_lt) | inr e ↦ step false e ∙ ih a ]
      | inr le ↦ grind (arith, common_steps, bool_cases, nat_lt, first_is_kept)
    ]
  where
    yes : (m n : ℕ) → m < n → nat_lt m n ≡ true
    yes m n h = grind (arith, nat_tests)

    is : (m n : ℕ) → nat_lt m n ≡ true → m < n
    is m n e = grind (arith, nat_tests)

    at_least : (m n : ℕ) → nat_lt m n ≡ false → n ≤ m
    at_least m n e = grind (arith, nat_tests)

-- the search may stop where the next split is no shorter
pub best_where_it_stops : (s : Parameters) (c : BlockData) (k : ℕ) → k ≤ k_max s → ((j : ℕ) → j < k → cost s (Split k c) < cost s (Split j c))
    → cost s (Split k c) ≤ cost s (Split (k + 1) c) → IsBestSplit s c k
best_where_it_stops s c k h first stop = record {
  at_most = h;
  least = λ j p. elim (cases_lt j k) [
    | inl lt ↦ let f = first j lt in omega arith
    | inr le ↦
        let m = j - k in
        let e : k + m ≡ j = omega arith in
        let f = no_later_is_shorter (sent_residuals c) (length (sent_residuals c)) k m (omega arith) in
        let g = ap (λ n. cost s (Split n c)) e in
        omega (arith, f, g)
  ];
  first = first;
}

-- or where there is none after
pub best_where_it_ends : (s : Parameters) (c : BlockData) (k : ℕ) → k ≡ k_max s → ((j : ℕ) → j < k → cost s (Split k c) < cost s (Split j c)) → IsBestSplit s c k
best_where_it_ends s c k h first = grind (arith, common_steps, cases_lt)

-- one split more
pub first_more : (s : Parameters) (c : BlockData) (k : ℕ) → ((j : ℕ) → j < k → cost s (Split k c) < cost s (Split j c))
    → cost s (Split (k + 1) c) < cost s (Split k c) → (j : ℕ) → j < k + 1 → cost s (Split (k + 1) c) < cost s (Split j c)
first_more s c k first less j h = grind (arith, common_steps, cases_lt)

-- the shortest is decided by the three costs
pub shortest_is : (s : Parameters) (c : BlockData) (k : ℕ) → IsBestSplit s c k →
    shortest s c ≡ (let first = cond (nat_lt (cost s (SecondExtension c)) (cost s (NoCompression c))) (SecondExtension c) (NoCompression c) in
    cond (nat_lt (cost s (Split k c)) (cost s first)) (Split k c) first)
shortest_is s c k h =
    best_numbered (cost s) (λ k. Split k c) (cond (nat_lt (cost s (SecondExtension c)) (cost s (NoCompression c))) (SecondExtension c) (NoCompression c)) 0
    (k_max s + 1) k (record {
      above = omega arith;
      below = omega arith;
      before = λ j p q. h.first j q;
      least = λ j p. h.least j (omega arith);
    })

-- where each split up to k is shorter than the one before, k is shorter than all before it
shorter_than_before : (s : Parameters) (c : BlockData) (k : ℕ) → ((j : ℕ) → j < k → cost s (Split (j + 1) c) < cost s (Split j c)) → (j : ℕ) → j < k → cost s (Split k c) < cost s (Split j c)
shorter_than_before s c zero h j lt = absurd (omega arith)
shorter_than_before s c (suc k) h j lt =
    let e : k + 1 ≡ suc k = omega arith in
    let ShorterThanBefore : ℕ → Type 0 = λ n. cost s (Split n c) < cost s (Split j c) in
    subst ShorterThanBefore e (first_more s c k (shorter_than_before s c k (λ i p. h i (omega arith))) (h k (omega arith)) j (omega arith))

-- A search upwards that stops at the first split whose next is no shorter, or at the greatest, has found the best.
pub first_stop_is_best : (s : Parameters) (c : BlockData) (k : ℕ) → k ≤ k_max s → ((j : ℕ) → j < k → cost s (Split (j + 1) c) < cost s (Split j c)) →
    (cost s (Split k c) ≤ cost s (Split (k + 1) c)) ⊎ (k ≡ k_max s) → IsBestSplit s c k
first_stop_is_best s c k le h (inl stop) = best_where_it_stops s c k le (shorter_than_before s c k h) stop
first_stop_is_best s c k le h (inr end) = best_where_it_ends s c k end (shorter_than_before s c k h)

-- the residual at the reference place adds nothing
pub coded_sum : (r : Option ℕ) (ds : List ℕ) (k : ℕ) → OnSome r (slice_index ds 0 ≡ 0) → cut_sum (sent_from r ds) k ≡ cut_sum ds k
coded_sum None ds k h = refl
coded_sum (Some v) [] k h = refl
coded_sum (Some v) (d ∷ ds) k h = grind (arith, common_steps, zero-div, sum_by-cons)

-- where the sum of the residuals first falls by no more than the digits that a split adds, the split is best
pub sum_stop_is_best : (s : Parameters) (c : BlockData) (k : ℕ) → IsZeroAtReference c → k ≤ k_max s →
    ((j : ℕ) → j < k → cut_sum c.residuals (j + 1) + length (sent_residuals c) < cut_sum c.residuals j) →
    (k < k_max s → cut_sum c.residuals k ≤ cut_sum c.residuals (k + 1) + length (sent_residuals c)) → IsBestSplit s c k
sum_stop_is_best s c k at_reference le falls ends =
    let base = id_len s + reference_len s c.reference in
    let same = λ (j : ℕ). coded_sum c.reference c.residuals j at_reference in
    first_stop_is_best s c k le
    (λ j lt. shorter (length (sent_residuals c)) base j (cut_sum (sent_residuals c) j) (cut_sum (sent_residuals c) (j + 1)) (omega (arith, falls j lt, same j, same (j + 1))))
    (elim (cases_lt k (k_max s)) [
      | inl lt ↦ inl (no_shorter (length (sent_residuals c)) base k (cut_sum (sent_residuals c) k) (cut_sum (sent_residuals c) (k + 1)) (omega (arith, ends lt, same k, same (k + 1))))
      | inr ge ↦ inr (omega arith)
    ])
  where
    shorter : (l base j x y : ℕ) → y + l < x → base + l * (j + 1 + 1) + y < base + l * (j + 1) + x
    shorter l base j x y h = omega arith

    no_shorter : (l base k x y : ℕ) → x ≤ y + l → base + l * (k + 1) + x ≤ base + l * (k + 1 + 1) + y
    no_shorter l base k x y h = omega arith

-- the best of several is no longer than any of them
best_is_least : {A : Type 0} (f : A → ℕ) (a : A) (xs : List A) → AllByRecursion (λ x. f (best_of (λ x y. nat_lt (f x) (f y)) a xs) ≤ f x) (a ∷ xs)
best_is_least f a [] = (omega arith, tt)
best_is_least f a (x ∷ xs) = grind (arith, common_steps, nat_lt, best_is_least f (cond (nat_lt (f x) (f a)) x a) xs)

-- No option is shorter than the one that is chosen.
pub choice_is_least : (s : Parameters) (c : BlockData) → All (λ d. cost s (shortest s c) ≤ cost s d) (NoCompression c ∷ other_options s c)
choice_is_least s c = All-from_recursion (λ d. cost s (shortest s c) ≤ cost s d) (NoCompression c ∷ other_options s c) (best_is_least (cost s) (NoCompression c) (other_options s c))
