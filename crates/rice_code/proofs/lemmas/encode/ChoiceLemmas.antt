-- The search for the best split, and the choice after it.
use Rattle.std.proofs.Common.{◌≡◌, ℕ, zero, suc, ◌+◌, ◌*◌, ◌/◌, ◌^◌, ◌<◌, ◌≤◌, Bool, true, false, cond, nat_lt, map, List, [], ◌∷◌, length, ap, arith, sym, ◌∙◌}
use Rattle.rice_code.proofs.Words.{All, Option, None, Some, best_of, range_with_len, nat_tests, All-nil, All-cons, All-head, All-tail, sum_by-cons, pow-le-pow_right, Parameters, k_max, value_count}
use Rattle.rice_code.proofs.Words.{cut_sum, BlockData, shortest, IsBestSplit, best_split, NoCompression, SecondExtension, Split, cost, reference_len, sent_from, map-id, common_steps}
use Rattle.rice_code.proofs.lemmas.cost.SplitSavings.{first_is_kept, nat_lt-true, not_less, best_numbered, shortest_is}

abbrev shorter : Parameters → BlockData → ℕ → ℕ → Bool
shorter s c j k = nat_lt (cost s (Split j c)) (cost s (Split k c))

-- the smallest of the splits of least length is the best split
pub best_split_is : (s : Parameters) (c : BlockData) (k : ℕ) → IsBestSplit s c k → best_split s c ≡ k
best_split_is s c k h = sym (ap (λ ks. best_of (shorter s c) 0 ks) (map-id (range_with_len 1 (k_max s)))) ∙ mapped k h
  where
    yes : (m n : ℕ) → m < n → nat_lt m n ≡ true
    yes m n h = grind (arith, nat_tests)

    mapped : (k : ℕ) → IsBestSplit s c k → best_of (shorter s c) 0 (map (λ k. k) (range_with_len 1 (k_max s))) ≡ k
    mapped zero h = first_is_kept (λ k. cost s (Split k c)) (λ k. k) 0 1 (k_max s) (λ j p q. h.least j (omega arith))
    mapped (suc k) h =
        let at = h.at_most in
        let less = h.first 0 (omega arith) in
        best_numbered (λ k. cost s (Split k c)) (λ k. k) 0 1 (k_max s) (suc k) (record {
          above = omega arith;
          below = omega arith;
          before = λ j p q. h.first j q;
          least = λ j p. h.least j (omega arith);
        })
        ∙ ap (λ v. cond v (suc k) 0) (yes (cost s (Split (suc k) c)) (cost s (Split 0 c)) less)

-- No compression is chosen where neither second extension nor the best split is shorter.
pub takes_no_compression : (s : Parameters) (c : BlockData) (k : ℕ) → IsBestSplit s c k → cost s (NoCompression c) ≤ cost s (SecondExtension c)
    → cost s (NoCompression c) ≤ cost s (Split k c) → NoCompression c ≡ shortest s c
takes_no_compression s c k h p q =
    let e = not_less (cost s (SecondExtension c)) (cost s (NoCompression c)) p in
    let f = not_less (cost s (Split k c)) (cost s (NoCompression c)) q in
    sym (shortest_is s c k h ∙ (ap (λ v. let first = cond v (SecondExtension c) (NoCompression c) in cond (nat_lt (cost s (Split k c)) (cost s first)) (Split k c) first) e
    ∙ ap (λ v. cond v (Split k c) (NoCompression c)) f))

-- Second extension is chosen where it is shorter than no compression, and the best split is not shorter still.
pub takes_second_extension : (s : Parameters) (c : BlockData) (k : ℕ) → IsBestSplit s c k → cost s (SecondExtension c) < cost s (NoCompression c)
    → cost s (SecondExtension c) ≤ cost s (Split k c) → SecondExtension c ≡ shortest s c
takes_second_extension s c k h p q =
    let e = nat_lt-true (cost s (SecondExtension c)) (cost s (NoCompression c)) p in
    let f = not_less (cost s (Split k c)) (cost s (SecondExtension c)) q in
    sym (shortest_is s c k h ∙ (ap (λ v. let first = cond v (SecondExtension c) (NoCompression c) in cond (nat_lt (cost s (Split k c)) (cost s first)) (Split k c) first) e
    ∙ ap (λ v. cond v (Split k c) (SecondExtension c)) f))

-- The best split is chosen where it is shorter than both.
pub takes_split : (s : Parameters) (c : BlockData) (k : ℕ) → IsBestSplit s c k → cost s (Split k c) < cost s (NoCompression c)
    → cost s (Split k c) < cost s (SecondExtension c) → Split k c ≡ shortest s c
takes_split s c k h p q =
    let first = λ (v : Bool). cond v (SecondExtension c) (NoCompression c) in
    let below : (v : Bool) → cost s (Split k c) < cost s (first v) = λ v. elim v as (λ v. cost s (Split k c) < cost s (first v)) [ true ↦ q | false ↦ p ] in
    let v = nat_lt (cost s (SecondExtension c)) (cost s (NoCompression c)) in
    sym (shortest_is s c k h ∙ ap (λ w. cond w (Split k c) (first v)) (nat_lt-true (cost s (Split k c)) (cost s (first v)) (below v)))

-- by no compression all residuals are sent but that at the reference place, in whose place the reference is sent
pub all_sent : (s : Parameters) (reference : Option ℕ) (ds : List ℕ) → 1 ≤ length ds → length (sent_from reference ds) * s.bits + reference_len s reference ≡ length ds * s.bits
all_sent s None ds h = omega arith
all_sent s (Some v) [] h = absurd (omega arith)
all_sent s (Some v) (d ∷ ds) h = omega arith

-- residuals of few bits are small
pub few_bits : (s : Parameters) (ds : List ℕ) → s.bits ≤ 26 → All (λ d. d < value_count s) ds → All (λ d. d < 2 ^ 26) ds
few_bits s [] few h = All-nil (λ d. d < 2 ^ 26)
few_bits s (d ∷ ds) few h = grind (arith, common_steps, pow-le-pow_right, All-head, All-cons, All-tail)

-- residuals whose sum is small are small
pub small_sum : (ds : List ℕ) → cut_sum ds 0 < 2 ^ 12 → All (λ d. d < 2 ^ 12) ds
small_sum [] h = All-nil (λ d. d < 2 ^ 12)
small_sum (d ∷ ds) h = grind (arith, common_steps, sum_by-cons, All-cons)
