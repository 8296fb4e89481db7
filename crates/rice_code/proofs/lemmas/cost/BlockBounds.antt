-- Blocks cost no more bits than sent as they are, or a bit more each where two samples of one bit make a block.
use Rattle.std.proofs.Common.{◌≡◌, ℕ, zero, suc, ◌+◌, ◌-◌, ◌*◌, ◌≤◌, Bool, true, false, not, ◌&&◌, nat_lt, map, List, [], ◌∷◌, length, refl, ap, arith, sym, ◌∙◌, inl, inr, subst, Option, Some, None}
use Rattle.rice_code.proofs.Words.{sum_by, best_of, range_with_len, AllByRecursion, nat_tests, sum_by-cons, mul-le-mul_left, Parameters, IsLegal, id_len, k_max, begins_segment, BlockData}
use Rattle.rice_code.proofs.Words.{is_zero_block, CodedDataSet, NoCompression, Split, ZeroBlocks, RemainderOfSegment, bits_of_set, cost, reference_len, run_number, IsForm, IsReference, shortest}
use Rattle.rice_code.proofs.lemmas.meaning.CoveredBlocks.{bool_cases, skipped, data_sets_plain, data_sets_start, data_sets_inside, skipped_nil, skipped_plain, skipped_go, skipped_stop, zero_run_is}
use Rattle.rice_code.proofs.Words.{other_options, IsSoundBlock, AreSoundBlocks, data_sets, block_bound, RunIsNeverLonger, zero_run, run_len, common_steps}
use Rattle.rice_code.proofs.lemmas.{meaning.CoveredBlocks.best_keeps, meaning.CoveredBlocks.run_cons, cost.CostIsLength.cost_is_length}

-- one that costs no more than the first wins
best_costs : (f : CodedDataSet → ℕ) (a : CodedDataSet) (xs : List CodedDataSet) → f (best_of (λ x y. nat_lt (f x) (f y)) a xs) ≤ f a
best_costs f a [] = omega arith
best_costs f a (x ∷ xs) = grind (arith, common_steps, bool_cases, nat_lt, nat_tests, best_costs f x xs, best_costs f a xs)

-- the option that is chosen is a form
pub shortest_is_form : (s : Parameters) (b : ℕ) (c : BlockData) → IsSoundBlock s b c → IsForm s b (shortest s c)
shortest_is_form s b c h =
    best_keeps (IsForm s b) (λ x y. nat_lt (cost s x) (cost s y)) (NoCompression c) (other_options s c) (h.block, h.at_reference, h.fit) (h.block, splits 0 (k_max s + 1) (omega arith))
  where
    splits : (from n : ℕ) → from + n ≤ k_max s + 1 → AllByRecursion (IsForm s b) (map (λ k. Split k c) (range_with_len from n))
    splits from zero le = tt
    splits from (suc n) le = ((h.block, h.at_reference, omega arith), splits (from + 1) n (omega arith))

-- a sound block by the option that is chosen has at most as many bits as the bound of a block
pub shortest_bound : (s : Parameters) (b : ℕ) (c : BlockData) → 1 ≤ s.block → IsSoundBlock s b c → length (bits_of_set s (shortest s c)) ≤ block_bound s
shortest_bound s b c j h =
    let e = cost_is_length s b (shortest s c) j (shortest_is_form s b c h) in
    let f = best_costs (cost s) (NoCompression c) (other_options s c) in
    let g = ap (λ n. id_len s + n * s.bits) h.block.len in
    omega arith

-- a run of z blocks costs at most as much as z blocks
run_cost : {i : ℕ} (bound : ℕ) {n : ℕ} (w number : ℕ) → i + n + 2 ≤ bound → 1 ≤ n → 3 ≤ i → number ≤ w + 5 → (w ≡ 0 → number ≡ 0) → i + 1 + n + number + 1 ≤ suc w * bound
run_cost bound zero number h k p m o = let z = o refl in omega (arith, h, z)
run_cost bound (suc w) number h k p m o =
    let r : suc w * 6 ≤ suc w * bound = mul-le-mul_left (suc w) (omega (arith, h, k, p)) in
    omega (arith, r, h, m)

-- a reference takes at most the bits of a sample
pub reference_bound : (s : Parameters) (r : Option ℕ) → reference_len s r ≤ s.bits
reference_bound s None = omega arith
reference_bound s (Some v) = omega arith

-- the number of a run's codeword
number_bound : (w : ℕ) → (run_number (suc w) ≤ w + 5) × (w ≡ 0 → run_number (suc w) ≡ 0)
number_bound w = (grind (arith, nat_tests), λ e. ap (λ v. run_number (suc v)) e)

-- a run of zero blocks has at most as many bits as the bound of a block for each of them
pub run_bound : (s : Parameters) (b w : ℕ) (r : Option ℕ) (cs : List BlockData) → IsLegal s → IsReference s b r → run_len s b cs ≡ suc w
    → length (bits_of_set s (zero_run s b r cs)) ≤ suc w * block_bound s
run_bound s b w r cs legal h e =
    let j : id_len s + s.bits + 2 ≤ block_bound s = omega arith in
    let i : 3 ≤ id_len s = grind (arith, nat_tests) in
    let ref = reference_bound s r in
    let j' : 1 ≤ s.block = omega (arith, legal.block) in
    elim (zero_run_is s b r cs) [
      | inl f ↦
          let number = number_bound w in
          let c = run_cost (block_bound s) w (run_number (suc w)) j legal.bits_from i number.0 number.1 in
          let len = cost_is_length s b (ZeroBlocks r (suc w)) j' (h, omega arith) in
          subst (λ (d : CodedDataSet). length (bits_of_set s d) ≤ suc w * block_bound s) (sym (f ∙ ap (λ z. ZeroBlocks r z) e)) (omega arith)
      | inr f ↦
          let z : 5 ≤ suc w = omega (arith, f.2) in
          let c = run_cost (block_bound s) w 4 j legal.bits_from i (omega arith) (λ e. absurd (omega arith)) in
          let len = cost_is_length s b (RemainderOfSegment r) j' h in
          subst (λ (d : CodedDataSet). length (bits_of_set s d) ≤ suc w * block_bound s) (sym f.0) (omega arith)
    ]

-- so a run of at least one block is within the bounds of its blocks
pub run_is_never_longer : RunIsNeverLonger
run_is_never_longer s legal b reference blocks h some =
    let e : run_len s b blocks ≡ suc (run_len s b blocks - 1) = omega arith in
    let bound = run_bound s b (run_len s b blocks - 1) reference blocks legal h e in
    let same = ap (λ n. n * block_bound s) e in
    omega (arith, bound, same)

-- the bits of coded data sets without padding
abbrev pub text_bits : Parameters → List CodedDataSet → ℕ
text_bits s ds = sum_by (λ d. length (bits_of_set s d)) ds

text_bits_cons : (s : Parameters) (d : CodedDataSet) (ds : List CodedDataSet) → text_bits s (d ∷ ds) ≡ length (bits_of_set s d) + text_bits s ds
text_bits_cons s d ds = sum_by-cons (λ d. length (bits_of_set s d)) d ds

-- the code of blocks, where those that are skipped have been paid for
pub blocks_are_bounded : (s : Parameters) (b : ℕ) (after : Bool) (cs : List BlockData) → IsLegal s → AreSoundBlocks s b cs →
    text_bits s (data_sets s b after cs) + skipped s b after cs * block_bound s ≤ length cs * block_bound s
blocks_are_bounded s b after [] legal k = let e = skipped_nil s b after in let f = ap (λ n. n * block_bound s) e in omega arith
blocks_are_bounded s b after (c ∷ cs) legal k =
    let m = block_bound s in
    let at = λ (n : ℕ) (ds : List CodedDataSet) (e : skipped s b after (c ∷ cs) ≡ n) (f : data_sets s b after (c ∷ cs) ≡ ds) (g : text_bits s ds + n * m ≤ suc (length cs) * m).
    let p = ap (λ n. n * m) e in let q = ap (λ ds. text_bits s ds) f in goal_from _ _ _ _ _ p q g in
    let j : 1 ≤ s.block = grind (arith, legal.block) in
    elim (bool_cases (is_zero_block c)) [
      | inr z ↦
          let ih = blocks_are_bounded s (b + 1) false cs legal k.1 in
          let rest = data_sets s (b + 1) false cs in
          let one = shortest_bound s b c j k.0 in
          let two = text_bits_cons s (shortest s c) rest in
          at 0 (shortest s c ∷ rest) (skipped_plain s b after c cs legal.interval_from z) (data_sets_plain s b after c cs z) (sums_plain _ _ _ _ m one two ih)
      | inl z ↦
          let ih = blocks_are_bounded s (b + 1) true cs legal k.1 in
          let w = skipped s (b + 1) true cs in
          let rest = data_sets s (b + 1) true cs in
          elim (bool_cases (after && not (begins_segment s b))) [
            | inl go ↦ at (suc w) rest (skipped_go s b after c cs legal.interval_from z go) (data_sets_inside s b after c cs z go) (sums_inside _ w _ m ih)
            | inr stop ↦
                let one = run_bound s b w c.reference (c ∷ cs) legal k.0.block.reference (run_cons s b c cs legal.interval_from z) in
                let two = text_bits_cons s (zero_run s b c.reference (c ∷ cs)) rest in
                at 0 (zero_run s b c.reference (c ∷ cs) ∷ rest) (skipped_stop s b after (c ∷ cs) stop) (data_sets_start s b after c cs z stop) (sums_start _ _ _ w _ m one two ih)
          ]
    ]
  where
    goal_from : (x y x' y' n : ℕ) → y ≡ y' → x ≡ x' → x' + y' ≤ n → x + y ≤ n
    goal_from x y x' y' n p q g = omega arith

    sums_plain : (x y t len m : ℕ) → t ≤ m → x ≡ t + y → y + 0 * m ≤ len * m → x + 0 * m ≤ suc len * m
    sums_plain x y t len m h e ih = omega arith

    sums_inside : (y w len m : ℕ) → y + w * m ≤ len * m → y + suc w * m ≤ suc len * m
    sums_inside y w len m ih = omega arith

    sums_start : (x y t w len m : ℕ) → t ≤ suc w * m → x ≡ t + y → y + w * m ≤ len * m → x + 0 * m ≤ suc len * m
    sums_start x y t w len m h e ih = omega arith
