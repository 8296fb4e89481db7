-- The best split is no larger than the bits of a sample, and costs less than J bits for each of its digits.
use Rattle.std.proofs.Common.{◌≡◌, ℕ, zero, suc, ◌+◌, ◌*◌, ◌/◌, ◌^◌, ◌<◌, ◌≤◌, Bool, true, false, cond, nat_lt, map, min, List, [], ◌∷◌, length, ap, arith, inl, inr, Option, None, Some, ◌∙◌, ◌++◌, ℤ}
use Rattle.std.proofs.Common.{pos}
use Rattle.rice_code.proofs.Words.{sum_by, All, AllByRecursion, range_with_len, cases_lt, sum_by-cons, sum_by-append, recursion_from_All, mul-le-mul_left, div-eq_of_lt, Parameters, IsLegal, IsSample}
use Rattle.rice_code.proofs.Words.{id_len, k_max, begins_segment, block_count, last_of, filled_samples, zero_is_sample, pair_codes, cut_sum, sum_halves, BlockData, blocks_of, is_zero_block}
use Rattle.rice_code.proofs.Words.{block_bound, step_bound, amortised_step_bound, NoCompression, SecondExtension, Split, bits_of_set, cost, sent_residuals, sent_from, reference_len, data_sets}
use Rattle.rice_code.proofs.Words.{bits_from, code_bits, IsSoundData, AreSoundBlocks, SplitIsPaid, most_looks, most_looks_at, most_steps, IsBestSplit, best_split, shortest, other_options}
use Rattle.rice_code.proofs.lemmas.{cost.SplitSavings.coded_sum, cost.SplitSavings.best_where_it_stops, cost.SplitSavings.best_where_it_ends, cost.SplitSavings.first_more, code.CodeGoesOn.bits_go_on}
use Rattle.rice_code.proofs.lemmas.{code.SoundBlocks.blocks_sound_after, code.SoundBlocks.count_blocks, code.SoundBlocks.last_legal, code.SoundBlocks.code_is_bounded, encode.PushedCode.blocks_go_on}
use Rattle.rice_code.proofs.lemmas.encode.{SegmentBlocksInTurn.most_of_one, SegmentBlocksInTurn.looks_zero, SegmentBlocksInTurn.sound_of, SegmentBlocksInTurn.shortest_len, ChoiceLemmas.best_split_is}
use Rattle.rice_code.proofs.{lemmas.meaning.CoveredBlocks.best_keeps, lemmas.meaning.CoveredBlocks.bool_cases, lemmas.meaning.CoveredBlocks.data_sets_plain, Words.common_steps}

none_above : (n : ℕ) (ds : List ℕ) → AllByRecursion (λ d. d < 2 ^ n) ds → cut_sum ds n ≡ 0
none_above n [] h = omega arith
none_above n (d ∷ ds) h =
    let a = sum_by-cons (λ d. d / 2 ^ n) d ds in
    let b : d / 2 ^ n ≡ 0 = div-eq_of_lt h.0 in
    omega (arith, a, b, none_above n ds h.1)

coded_fit : (n : ℕ) (r : Option ℕ) (ds : List ℕ) → AllByRecursion (λ d. d < 2 ^ n) ds → AllByRecursion (λ d. d < 2 ^ n) (sent_from r ds)
coded_fit n None ds h = h
coded_fit n (Some v) [] h = tt
coded_fit n (Some v) (d ∷ ds) h = h.1

-- the best split is at most n
pub best_within : (s : Parameters) (c : BlockData) (k : ℕ) → IsSoundData s c → IsBestSplit s c k → k ≤ s.bits
best_within s c k h b =
    elim (cases_lt s.bits k) [
      | inr le ↦ le
      | inl lt ↦
          let z = none_above s.bits (sent_residuals c) (coded_fit s.bits c.reference c.residuals (recursion_from_All (λ d. d < 2 ^ s.bits) c.residuals h.fit)) in
          let f = b.first s.bits lt in
          let m : length (sent_residuals c) * (s.bits + 1) ≤ length (sent_residuals c) * (k + 1) = mul-le-mul_left (length (sent_residuals c)) (omega arith) in
          absurd (omega (arith, z, f, m))
    ]

coded_count : (r : Option ℕ) (ds : List ℕ) (n : ℕ) (s : Parameters) → 1 ≤ length ds → n ≤ s.bits → length ds * n ≤ reference_len s r + length (sent_from r ds) * (n + 1)
coded_count None ds n s h k = omega arith
coded_count (Some v) [] n s h k = absurd (omega arith)
coded_count (Some v) (d ∷ ds) n s h k = omega arith

-- for each digit of the best split that split takes at least J bits,
pub split_pays : (s : Parameters) (c : BlockData) (k : ℕ) → 1 ≤ s.block → IsSoundData s c → IsBestSplit s c k → s.block * k ≤ cost s (Split k c)
split_pays s c k j h b =
    let e = coded_count c.reference c.residuals k s (omega (arith, h.len, j)) (best_within s c k h b) in
    let f = ap (λ n. n * k) h.len in
    omega (arith, e, f)

-- and so does no compression,
pub plain_pays : (s : Parameters) (c : BlockData) (k : ℕ) → IsSoundData s c → IsBestSplit s c k → s.block * k ≤ cost s (NoCompression c)
plain_pays s c k h b =
    let e : s.block * k ≤ s.block * s.bits = mul-le-mul_left s.block (best_within s c k h b) in
    let f = ap (λ n. n * s.bits) h.len in
    omega (arith, e, f)

-- a sum is at least its sum without k digits, doubled for each digit
cut_sum_grows : (ds : List ℕ) (k : ℕ) → suc k * cut_sum ds k ≤ cut_sum ds 0
cut_sum_grows ds zero = omega arith
cut_sum_grows ds (suc k) =
    let ih = cut_sum_grows ds k in
    let e : suc k ≡ k + 1 = omega arith in
    let h = sum_halves ds k in
    grind (arith, common_steps, mul-le-mul_left)

pairs_cover : (half : ℕ) (ds : List ℕ) → length ds ≡ half + half → cut_sum ds 0 ≤ sum_by (λ g. g + 1) (pair_codes ds)
pairs_cover zero [] h = omega arith
pairs_cover (suc half) (a ∷ b ∷ ds) h = grind (arith, common_steps, sum_by-cons, pairs_cover half ds (omega arith))
pairs_cover _ _ h = absurd (omega arith)

coded_most : (r : Option ℕ) (ds : List ℕ) → length ds ≤ length (sent_from r ds) + 1
coded_most None ds = omega arith
coded_most (Some v) [] = omega arith
coded_most (Some v) (d ∷ ds) = omega arith

-- and so does second extension
pub second_pays : (s : Parameters) (c : BlockData) (k half : ℕ) → s.block ≡ half + half → IsSoundData s c → IsBestSplit s c k → s.block * k ≤ cost s (SecondExtension c)
second_pays s c zero half e h b = omega arith
second_pays s c (suc k) half e h b =
    let l = length (sent_residuals c) in
    let first = b.first k (omega arith) in
    let g : k + 1 ≡ suc k = omega arith in
    let at = ap (cut_sum (sent_residuals c)) g in
    let more : l + 1 ≤ cut_sum (sent_residuals c) k = larger l k (id_len s + reference_len s c.reference) (cut_sum (sent_residuals c) k) (cut_sum (sent_residuals c) (suc k)) first in
    let p : suc k * (l + 1) ≤ suc k * cut_sum (sent_residuals c) k = mul-le-mul_left (suc k) more in
    let q = cut_sum_grows (sent_residuals c) k in
    let same = coded_sum c.reference c.residuals 0 h.zero in
    let pairs = pairs_cover half c.residuals (omega (arith, h.len, e)) in
    let most = coded_most c.reference c.residuals in
    let j : s.block ≤ l + 1 = omega (arith, most, h.len) in
    let m : suc k * s.block ≤ suc k * (l + 1) = mul-le-mul_left (suc k) j in
    omega (arith, p, q, same, pairs, m)
  where
    larger : (l k base x y : ℕ) → base + l * (suc k + 1) + y < base + l * (k + 1) + x → l + 1 ≤ x
    larger l k base x y h = omega arith

best_from : (s : Parameters) (c : BlockData) (fuel k : ℕ) → k + fuel ≡ k_max s → ((j : ℕ) → j < k → cost s (Split k c) < cost s (Split j c)) → (m : ℕ) × IsBestSplit s c m
best_from s c zero k e first = (k, best_where_it_ends s c k (omega arith) first)
best_from s c (suc fuel) k e first =
    let next = λ (lt : cost s (Split (k + 1) c) < cost s (Split k c)). best_from s c fuel (k + 1) (omega arith) (first_more s c k first lt) in
    elim (cases_lt (cost s (Split (k + 1) c)) (cost s (Split k c))) [ inl lt ↦ next lt | inr le ↦ (k, best_where_it_stops s c k (omega arith) first le) ]

shortest_pays : (s : Parameters) (c : BlockData) (k half : ℕ) → s.block ≡ half + half → 1 ≤ s.block → IsSoundData s c → IsBestSplit s c k → s.block * k ≤ cost s (shortest s c)
shortest_pays s c k half e j h b =
    best_keeps (λ d. s.block * k ≤ cost s d) (λ x y. nat_lt (cost s x) (cost s y)) (NoCompression c) (other_options s c) (plain_pays s c k h b)
    (second_pays s c k half e h b, splits 0 (k_max s + 1) (omega arith))
  where
    splits : (from n : ℕ) → from + n ≤ k_max s + 1 → AllByRecursion (λ d. s.block * k ≤ cost s d) (map (λ k. Split k c) (range_with_len from n))
    splits from zero le = tt
    splits from (suc n) le = (let l = b.least from (omega arith) in let p = split_pays s c k j h b in omega (arith, l, p), splits (from + 1) n (omega arith))

-- So the option that is chosen takes at least J bits for each digit of the best split.
pub split_is_paid : SplitIsPaid
split_is_paid s legal b c k sound best =
    let j : 1 ≤ s.block = grind (arith, legal.block) in
    let half : s.block ≡ s.block / 2 + s.block / 2 = grind (arith, legal.block) in
    let pays = shortest_pays s c k (s.block / 2) half j (sound_of s b c sound) best in
    omega (arith, pays, shortest_len s b c j sound)

looks_are_paid : (s : Parameters) (c : BlockData) → IsLegal s → IsSoundData s c → most_looks s c ≤ cost s (shortest s c) + 6 * s.block
looks_are_paid s c legal h =
    let best = best_from s c (k_max s) 0 (omega arith) (λ j p. absurd (omega arith)) in
    let j : 1 ≤ s.block = grind (arith, legal.block) in
    let half : s.block ≡ s.block / 2 + s.block / 2 = grind (arith, legal.block) in
    let pays = shortest_pays s c best.0 (s.block / 2) half j h best.1 in
    let named = ap (λ k. s.block * k) (best_split_is s c best.0 best.1) in
    let m : s.block * (min (best_split s c + 1) (k_max s) + 5) ≤ s.block * (best_split s c + 6) = mul-le-mul_left s.block (omega arith) in
    elim (is_zero_block c) as (λ v. cond v s.block (s.block * (min (best_split s c + 1) (k_max s) + 5)) ≤ cost s (shortest s c) + 6 * s.block)
    [ true ↦ omega arith | false ↦ omega (arith, pays, named, m) ]

-- so are those of several blocks: a run's bits are not even needed
looks_of_all_are_paid : (s : Parameters) (b : ℕ) (after : Bool) (cs : List BlockData) → IsLegal s → AreSoundBlocks s b cs →
    sum_by (most_looks s) cs ≤ sum_by (λ d. length (bits_of_set s d)) (data_sets s b after cs) + length cs * (6 * s.block)
looks_of_all_are_paid s b after [] legal h = omega arith
looks_of_all_are_paid s b after (c ∷ cs) legal h =
    grind (
      arith,
      common_steps,
      sum_by-cons,
      bool_cases,
      looks_zero,
      sum_by-append,
      looks_are_paid,
      sound_of,
      shortest_len,
      data_sets_plain,
      looks_of_all_are_paid s (b + 1) (is_zero_block c) cs legal h.1,
    )

-- and they are bounded by the number of splits
looks_are_few : (s : Parameters) (cs : List BlockData) → sum_by (most_looks s) cs ≤ length cs * (s.block * (k_max s + 5))
looks_are_few s [] = omega arith
looks_are_few s (c ∷ cs) =
    let one = sum_by-cons (most_looks s) c cs in
    omega (arith, one, looks_are_few s cs, most_of_one s c)

-- what coding some samples after whole segments takes
after_whole : (s : Parameters) → IsLegal s → (blocks : ℕ) (xs ys : List ℤ) → length xs ≡ s.block * blocks → begins_segment s blocks ≡ true →
    (code_bits s (xs ++ ys) ≡ code_bits s xs + bits_from s blocks (last_of (pos 0) xs) ys) ×
    (most_looks_at s (xs ++ ys) ≡ most_looks_at s xs + sum_by (most_looks s) (blocks_of s blocks (last_of (pos 0) xs) ys))
after_whole s legal q xs ys len begins =
    let j : 1 ≤ s.block = grind (arith, legal.block) in
    let here : 0 + q ≡ q = omega arith in
    let p = last_of (pos 0) xs in (
      bits_go_on s legal 0 q (pos 0) xs ys len (ap (λ m. begins_segment s m) here ∙ begins) ∙ ap (λ m. code_bits s xs + bits_from s m p ys) here,
      ap (λ v. sum_by (most_looks s) v) (blocks_go_on s 0 q (pos 0) xs ys j len ∙ ap (λ m. blocks_of s 0 (pos 0) xs ++ blocks_of s m p ys) here)
          ∙ sum_by-append (most_looks s) (blocks_of s 0 (pos 0) xs) (blocks_of s q p ys),
    )

-- The steps that samples add after whole segments, those for the samples aside, are at most so many for each block,
pub steps_are_bounded : (s : Parameters) → IsLegal s → (blocks : ℕ) (xs ys : List ℤ) → All (IsSample s) xs → All (IsSample s) ys → length xs ≡ s.block * blocks → begins_segment s blocks ≡ true →
    most_steps s (xs ++ ys) ≤ most_steps s xs + block_count s (length ys) * (block_bound s + s.block * (k_max s + 5))
steps_are_bounded s legal q xs ys h k len begins =
    let p = last_of (pos 0) xs in
    let sample = last_legal s (pos 0) xs (zero_is_sample s legal.bits_from) (recursion_from_All (IsSample s) xs h) in
    let parts = after_whole s legal q xs ys len begins in
    let bits = code_is_bounded s legal q p ys sample k in
    let n = block_count s (length ys) in
    let count = count_blocks s q p n (filled_samples s p ys) in
    let looks = looks_are_few s (blocks_of s q p ys) in
    sums n (block_bound s) (s.block * (k_max s + 5)) _ _ _ _ _ _ _ parts.0 parts.1 bits looks count
  where
    sums : (n bound each b b' more l l' looks len : ℕ) → b' ≡ b + more → l' ≡ l + looks → more ≤ n * bound → looks ≤ len * each → len ≡ n → b' + l' ≤ b + l + n * (bound + each)
    sums n bound each b b' more l l' looks len e f h g c =
        let m = ap (λ v. v * each) c in
        omega (arith, m)

-- and at most two for each bit that they add, and six for each residual.
pub steps_are_paid : (s : Parameters) → IsLegal s → (blocks : ℕ) (xs ys : List ℤ) → All (IsSample s) xs → All (IsSample s) ys → length xs ≡ s.block * blocks → begins_segment s blocks ≡ true →
    most_steps s (xs ++ ys) + 2 * code_bits s xs ≤ most_steps s xs + 2 * code_bits s (xs ++ ys) + 6 * s.block * block_count s (length ys)
steps_are_paid s legal q xs ys h k len begins =
    let p = last_of (pos 0) xs in
    let j : 1 ≤ s.block = grind (arith, legal.block) in
    let sample = last_legal s (pos 0) xs (zero_is_sample s legal.bits_from) (recursion_from_All (IsSample s) xs h) in
    let parts = after_whole s legal q xs ys len begins in
    let n = block_count s (length ys) in
    let count = count_blocks s q p n (filled_samples s p ys) in
    let sound = blocks_sound_after s q p ys legal j sample (recursion_from_All (IsSample s) ys k) in
    let looks = looks_of_all_are_paid s q false (blocks_of s q p ys) legal sound in
    grind (arith, common_steps)

-- With those for the samples, the filled ones too, all steps are within the bound by the number of samples, and within that by the bits.
pub all_steps_are_bounded : (s : Parameters) → IsLegal s → (xs : List ℤ) → All (IsSample s) xs →
    (s.block * block_count s (length xs) + most_steps s xs ≤ step_bound s (length xs)) × (s.block * block_count s (length xs) + most_steps s xs ≤ amortised_step_bound s (code_bits s xs) (length xs))
all_steps_are_bounded s legal xs k =
    let j : 1 ≤ s.block = grind (arith, legal.block) in
    let p : ℤ = pos 0 in
    let n = block_count s (length xs) in
    let zero = zero_is_sample s legal.bits_from in
    let count = count_blocks s 0 p n (filled_samples s p xs) in
    let bits = code_is_bounded s legal 0 p xs zero k in
    let looks = looks_are_few s (blocks_of s 0 p xs) in
    let paid = looks_of_all_are_paid s 0 false (blocks_of s 0 p xs) legal (blocks_sound_after s 0 p xs legal j zero (recursion_from_All (IsSample s) xs k)) in
    (few n (block_bound s) s.block (k_max s) _ _ _ bits looks count, by_bits n s.block _ _ _ paid count)
  where
    few : (n bound j k b looks len : ℕ) → b ≤ n * bound → looks ≤ len * (j * (k + 5)) → len ≡ n → j * n + (b + looks) ≤ n * (bound + j * (k + 6))
    few n bound j k b looks len h g c =
        let m = ap (λ v. v * (j * (k + 5))) c in
        let q : n * (bound + j * (k + 6)) ≡ n * bound + n * (j * (k + 5)) + j * n = omega arith in
        omega (arith, m, q)

    by_bits : (n j b looks len : ℕ) → looks ≤ b + len * (6 * j) → len ≡ n → j * n + (b + looks) ≤ 2 * b + 7 * j * n
    by_bits n j b looks len g c =
        let m = ap (λ v. v * (6 * j)) c in
        let p : n * (6 * j) + j * n ≡ 7 * j * n = omega arith in
        omega (arith, m, p)
