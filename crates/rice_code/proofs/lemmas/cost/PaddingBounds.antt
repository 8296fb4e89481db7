-- The padding of the code of samples is bounded.
use Rattle.std.proofs.Common.{◌≡◌, ℕ, zero, suc, ◌+◌, ◌*◌, ◌/◌, ◌%◌, ◌<◌, ◌≤◌, Bool, true, false, cond, List, [], ◌∷◌, length, ap, arith, subst, ◌∙◌, inl, inr, length-append, ℤ, Some}
use Rattle.std.proofs.lemmas.Grind.{common_steps}
use Rattle.rice_code.proofs.Words.{All, div_ceil, nat_tests, cases_lt, div_ceil_times, length-replicate, length-flat_map, recursion_from_All, div-add-mod, mod-lt, mod-eq_of_lt, mul-add-mod_self_left}
use Rattle.rice_code.proofs.Words.{div-mul-add, Parameters, IsLegal, IsSample, place, begins_segment, block_count, interval_count, filled_samples, zero_is_sample, mul-le-mul_left, mul-le-mul_right}
use Rattle.rice_code.proofs.Words.{BlockData, blocks_of, zero_block, sets_from, code, code_from, code_bits, bits_from, AreTaken, padding_bound, AreSoundBlocks}
use Rattle.rice_code.proofs.lemmas.meaning.CoveredBlocks.{bool_cases, GoOn, AreBlocks, covers_blocks}
use Rattle.rice_code.proofs.lemmas.code.{SoundBlocks.count_blocks, SoundBlocks.blocks_sound_after, Layouts.BeginBefore, Layouts.laid_plain, Layouts.laid_bound}
use Rattle.rice_code.proofs.lemmas.meaning.SentSetsAreTaken.{are_taken, begin_before}

-- sound blocks are blocks
pub are_blocks : (s : Parameters) (b : ℕ) (cs : List BlockData) → AreSoundBlocks s b cs → AreBlocks s b cs
are_blocks s b [] h = tt
are_blocks s b (c ∷ cs) h = (h.0.block, are_blocks s (b + 1) cs h.1)

-- blocks that begin no segment begin no interval
pub interval_begins_segment : (s : Parameters) (b : ℕ) → place s b ≡ 0 → begins_segment s b ≡ true
interval_begins_segment s b e = grind (arith, nat_tests)

-- after blocks that begin no segment no more intervals are complete than were begun before them
pub inside_interval : (s : Parameters) (b n : ℕ) → 1 ≤ s.interval → GoOn s b n → (b + n) / s.interval ≤ div_ceil b s.interval
inside_interval s b zero h k = let e : b + 0 ≡ b = omega arith in let f = ap (λ m. m / s.interval) e in omega arith
inside_interval s b (suc n) h k =
    let r = s.interval in
    let ih = inside_interval s (b + 1) n h k.1 in
    let e : b + 1 + n ≡ b + suc n = omega arith in
    let f = ap (λ m. m / r) e in
    let some : 1 ≤ b % r = grind (arith, common_steps, cases_lt, interval_begins_segment) in
    let up = ceil_step b r h some in
    omega arith
  where
    ceil_step : (b r : ℕ) → 1 ≤ r → 1 ≤ b % r → div_ceil (b + 1) r ≤ div_ceil b r
    ceil_step b r h k =
        let p = div-add-mod b r in
        let lt = mod-lt b h in
        elim (cases_lt (b % r + 1) r) [
          | inl less ↦ let q : b + 1 ≡ r * (b / r) + (b % r + 1) = omega arith in let d = quotient r (b / r) (b % r + 1) less in let d' = ap (λ n. n / r) q ∙ d in omega arith
          | inr whole ↦
              let q : b + 1 ≡ r * (b / r + 1) + 0 = omega arith in
              let d = ap (λ n. n / r) q ∙ quotient r (b / r + 1) 0 h in
              let m = ap (λ n. n % r) q ∙ remainder r (b / r + 1) h in
              omega arith
        ]
      where
        quotient : (r q x : ℕ) → x < r → (r * q + x) / r ≡ q
        quotient r q x lt = let e : r * q + x ≡ q * r + x = omega arith in ap (λ n. n / r) e ∙ div-mul-add q r x lt

        remainder : (r q : ℕ) → 1 ≤ r → (r * q + 0) % r ≡ 0
        remainder r q h = mul-add-mod_self_left r q 0 ∙ mod-eq_of_lt h

-- the coded data sets of samples begin before their blocks end
pub sets_begin : (s : Parameters) (b : ℕ) (p : ℤ) (xs : List ℤ) → IsLegal s → IsSample s p → All (IsSample s) xs → BeginBefore s (b + block_count s (length xs)) b (sets_from s b p xs)
sets_begin s b p xs legal h k =
    let j : 1 ≤ s.block = grind (arith, legal.block) in
    let n = block_count s (length xs) in
    let cs = blocks_of s b p xs in
    let sound = blocks_sound_after s b p xs legal j h (recursion_from_All (IsSample s) xs k) in
    let count : length cs ≡ n = count_blocks s b p n (filled_samples s p xs) in
    let here : b + 0 ≡ b = omega arith in
    let taken = are_taken s (Some (s.block * (b + n))) b false cs legal.interval_from sound
    (λ i lt. let m : s.block * suc i ≤ s.block * (b + n) = mul-le-mul_left s.block (omega (arith, lt, count)) in less s.block i _ j m) in
    begin_before s (b + n) b (sets_from s b p xs) (subst (λ (m : ℕ). AreTaken s (Some (s.block * (b + n))) m (sets_from s b p xs)) here taken)
  where
    less : (j i m : ℕ) → 1 ≤ j → j * suc i ≤ m → j * i < m
    less j i m h k = omega arith

-- code from a block on has at most seven bits of padding for each end of an interval
padding_from : (s : Parameters) → IsLegal s → (b position : ℕ) (p : ℤ) (xs : List ℤ) → IsSample s p → All (IsSample s) xs →
    length (code_from s b position p xs) + cond s.pad (7 * (b / s.interval)) 0 ≤ bits_from s b p xs + cond s.pad (7 * div_ceil (b + block_count s (length xs)) s.interval) 0
padding_from s legal b position p xs h k =
    let j : 1 ≤ s.block = grind (arith, legal.block) in
    let count = block_count s (length xs) in
    let cs = blocks_of s b p xs in
    let sets = sets_from s b p xs in
    let sound = blocks_sound_after s b p xs legal j h (recursion_from_All (IsSample s) xs k) in
    let cover = covers_blocks s b false cs legal.interval_from (are_blocks s b cs sound) in
    grind (arith, common_steps, count_blocks, common_steps, bool_cases, laid_plain, length-flat_map, laid_bound, sets_begin, length-append, zero_block, length-replicate, inside_interval)

-- The code of samples has at most so many bits more than its coded data sets: seven for each interval begun, where intervals are padded.
pub padding_is_bounded : (s : Parameters) → IsLegal s → (xs : List ℤ) → All (IsSample s) xs → length (code s xs) ≤ code_bits s xs + padding_bound s (length xs)
padding_is_bounded s legal xs k = grind (arith, common_steps, padding_from, zero_is_sample)

-- after other blocks an interval may end that they have begun
pub padding_after_is_bounded : (s : Parameters) → IsLegal s → (b position : ℕ) (p : ℤ) (xs : List ℤ) → IsSample s p → All (IsSample s) xs →
    length (code_from s b position p xs) ≤ bits_from s b p xs + padding_bound s (length xs) + cond s.pad 7 0
padding_after_is_bounded s legal b position p xs h k =
    let count = block_count s (length xs) in
    by_pad s.pad (length (code_from s b position p xs)) (bits_from s b p xs) (b / s.interval) (div_ceil (b + count) s.interval) (interval_count s (length xs))
    (ends b count s.interval legal.interval_from) (padding_from s legal b position p xs h k)
  where
    by_pad : (pad : Bool) (len bits q c d : ℕ) → c ≤ q + d + 1 → len + cond pad (7 * q) 0 ≤ bits + cond pad (7 * c) 0 → len ≤ bits + cond pad (7 * d) 0 + cond pad 7 0
    by_pad true len bits q c d few h = omega arith
    by_pad false len bits q c d few h = omega arith

    ends : (b l r : ℕ) → 1 ≤ r → div_ceil (b + l) r ≤ b / r + div_ceil l r + 1
    ends b l r some = at (div_ceil (b + l) r) (b / r) (div_ceil l r) (b % r) (div-add-mod b r) (mod-lt b some) (div_ceil_times (b + l) r some).1 (div_ceil_times l r some).0
      where
        at : (c q d m : ℕ) → r * q + m ≡ b → m < r → c * r < b + l + r → l ≤ d * r → c ≤ q + d + 1
        at c q d m e lt few enough = elim (cases_lt (q + d + 1) c) [
          | inl over ↦ absurd (let p : (q + d + 2) * r ≤ c * r = mul-le-mul_right r (omega arith) in omega (arith, p, e, lt, few, enough))
          | inr le ↦ le
        ]
