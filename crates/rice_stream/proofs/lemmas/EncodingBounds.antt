-- The bounds of bits and steps, of the samples so far and of all.
use Rattle.std.proofs.Common.{◌≡◌, ℕ, ◌+◌, ◌-◌, ◌*◌, ◌%◌, ◌<◌, ◌≤◌, List, ◌++◌, length, replicate, ap, arith, sym, ◌∙◌, subst, length-append, ℤ, pos}
use Rattle.rice_stream.proofs.Words.{All, next_multiple_of, mul-le-mul_left, mul-le-mul_right, nat_tests, div_ceil_times, length-replicate, All-from_recursion, Parameters, IsLegal, IsSample}
use Rattle.rice_stream.proofs.Words.{id_len, k_max, block_count, last_of, zero_is_sample, block_bound, bit_bound, step_bound, amortised_step_bound, code_bits, complete_samples, fill_count}
use Rattle.rice_stream.proofs.Words.{HasTaken, CoderState, most_steps, complete_are_coded, all_first, all_steps_are_bounded, code_is_bounded, filled_len, lt_of_mul-lt-mul_left}

-- what is so of the samples that a coder stands for, and of those that make whole segments
pub record Settles (s : Parameters) (xs : List ℤ) : Type 0 where
  pub setting : IsLegal s
  pub legal : All (IsSample s) xs
  pub legal_settled : All (IsSample s) (complete_samples s xs)
  pub few : length (complete_samples s xs) ≤ length xs

-- what a coder has taken settles the bounds of its samples
pub taken_settles : (s : Parameters) (coder : CoderState) (xs : List ℤ) → coder.setting ≡ s → HasTaken coder xs → Settles s xs
taken_settles s coder xs e h =
    let t = coder.setting in
    let same = complete_are_coded coder xs h in
    subst (λ (t : Parameters). Settles t xs) e (record {
      setting = h.holds.legal;
      legal = subst (All (IsSample t)) (sym h.parts) (All-from_recursion (IsSample t) (h.coded ++ h.held) h.holds.samples);
      legal_settled = subst (All (IsSample t)) (sym same) (All-from_recursion (IsSample t) h.coded (all_first t h.coded h.held h.holds.samples).0);
      few = omega (arith, ap length same, ap length h.parts, length-append h.coded h.held);
    })

-- What bits and steps of samples are bounded by: `count` bits and at most `most` steps of so many samples.
pub record Bounded (s : Parameters) (samples count most : ℕ) : Type 0 where
  pub bits : count ≤ bit_bound s samples
  pub steps : most ≤ step_bound s samples
  pub amortised : most ≤ amortised_step_bound s count samples

-- a block count is no more than another where its samples are no more
count_le : (j n m c d : ℕ) → 1 ≤ j → n ≤ m → c * j < n + j → m ≤ d * j → c ≤ d
count_le j n m c d one le few enough = let lt : c < d + 1 = lt_of_mul-lt-mul_left j (omega arith) in omega arith

-- of the samples so far
pub early_bounded : (s : Parameters) (xs : List ℤ) → Settles s xs → Bounded s (length xs) (code_bits s (complete_samples s xs)) (length xs + most_steps s (complete_samples s xs))
early_bounded s xs h =
    let zs = complete_samples s xs in
    let j : 1 ≤ s.block = let k : 2 ≤ s.block = grind (arith, h.setting.block) in omega arith in
    let c = block_count s (length zs) in
    let d = block_count s (length xs) in
    let le : c ≤ d = count_le s.block (length zs) (length xs) c d j h.few (div_ceil_times (length zs) s.block j).1 (div_ceil_times (length xs) s.block j).0 in
    let bits = code_is_bounded s h.setting 0 (pos 0) zs (zero_is_sample s h.setting.bits_from) h.legal_settled in
    let steps = all_steps_are_bounded s h.setting zs h.legal_settled in
    let each = mul-le-mul_right (block_bound s) le in
    let e : c + (d - c) ≡ d = omega arith in
    let all = at s.block (length xs) c (d - c) (block_bound s) (k_max s) (most_steps s zs) (code_bits s zs)
    (subst (λ (v : ℕ). length xs ≤ v * s.block) (sym e) (div_ceil_times (length xs) s.block j).0) steps.0 steps.1 in
    record {
      bits = omega (arith, bits, each);
      steps = subst (λ (v : ℕ). length xs + most_steps s zs ≤ v * (block_bound s + s.block * (k_max s + 6))) e all.0;
      amortised = subst (λ (v : ℕ). length xs + most_steps s zs ≤ 2 * code_bits s zs + 7 * s.block * v) e all.1;
    }
  where
    at : (j n c e id k most bits : ℕ) → n ≤ (c + e) * j → j * c + most ≤ c * (id + j * (k + 6)) → j * c + most ≤ 2 * bits + 7 * j * c →
        (n + most ≤ (c + e) * (id + j * (k + 6))) × (n + most ≤ 2 * bits + 7 * j * (c + e))
    at j n c e id k most bits h f g = (omega arith, omega arith)

-- and of all
pub all_bounded : (s : Parameters) (xs : List ℤ) → Settles s xs → Bounded s (length xs) (code_bits s xs) (length xs + fill_count s (length xs) + most_steps s xs)
all_bounded s xs h =
    let j : 1 ≤ s.block = let k : 2 ≤ s.block = grind (arith, h.setting.block) in omega arith in
    let steps = all_steps_are_bounded s h.setting xs h.legal in
    let full = filled_count s xs j in
    record {
      bits = code_is_bounded s h.setting 0 (pos 0) xs (zero_is_sample s h.setting.bits_from) h.legal;
      steps = omega (arith, steps.0, full);
      amortised = omega (arith, steps.1, full);
    }
  where
    filled_count : (s : Parameters) (xs : List ℤ) → 1 ≤ s.block → length xs + fill_count s (length xs) ≡ s.block * block_count s (length xs)
    filled_count s xs j =
        let n = length xs in
        let k = next_multiple_of n s.block - n in
        let x = last_of (pos 0) xs in
        let same : k ≡ fill_count s (length xs) = (let e : n + (s.block - n % s.block) % s.block - n ≡ (s.block - n % s.block) % s.block = omega arith in e) in
        ap (λ m. n + m) (sym same ∙ sym (length-replicate k x)) ∙ sym (length-append xs (replicate k x)) ∙ filled_len s (pos 0) xs j

-- a block has at most a bit more than its samples as they are, and its identifier
pub block_bound_le : (s : Parameters) → IsLegal s → block_bound s ≤ id_len s + 1 + s.block * s.bits
block_bound_le s legal =
    let two : 2 * s.bits ≤ s.block * s.bits = mul-le-mul_right s.bits legal.block.0 in
    omega (arith, two, legal.bits_from)

-- few samples take few steps
pub few_steps : (s : Parameters) (n : ℕ) → IsLegal s → step_bound s n ≤ 73 * n + 4700
few_steps s n legal =
    let j : 2 ≤ s.block = grind (arith, legal.block) in
    let most : s.block ≤ 64 = grind (arith, legal.block) in
    let i : id_len s ≤ 5 = grind (arith, nat_tests) in
    let k : k_max s ≤ 29 = grind (arith, nat_tests) in
    let all = at s.block n (block_count s n) (id_len s + 1) (s.bits + k_max s) (omega arith) most (omega (arith, i)) (omega (arith, legal.bits_to, k)) (div_ceil_times n s.block (omega arith)).1 in
    let each : block_bound s + s.block * (k_max s + 6) ≤ id_len s + 1 + s.block * (s.bits + k_max s + 6) = omega (arith, block_bound_le s legal) in
    let less : step_bound s n ≤ block_count s n * (id_len s + 1 + s.block * (s.bits + k_max s + 6)) = mul-le-mul_left (block_count s n) each in
    omega (arith, all, less)
  where
    both : (c id x z n j : ℕ) → c * id ≤ 6 * c → c * x ≤ 67 * z → c ≤ z → j ≤ 64 → z < n + j → c * (id + x) ≤ 73 * n + 4700
    both c id x z n j h f g few lt = omega arith

    at : (j n c id k : ℕ) → 1 ≤ j → j ≤ 64 → id ≤ 6 → k ≤ 61 → c * j < n + j → c * (id + j * (k + 6)) ≤ 73 * n + 4700
    at j n c id k one few h f lt =
        let a : c * id ≤ c * 6 = mul-le-mul_left c h in
        let b : c * (j * (k + 6)) ≤ c * (j * 67) = mul-le-mul_left c (mul-le-mul_left j (omega arith)) in
        let d : c * 1 ≤ c * j = mul-le-mul_left c one in
        let e : c * (j * 67) ≡ 67 * (c * j) = omega arith in
        both c id (j * (k + 6)) (c * j) n j (omega arith) (omega (arith, b, e)) (omega arith) few lt

-- and few bits
pub few_bits : (s : Parameters) (n count most : ℕ) → IsLegal s → Bounded s n count most → count ≤ most → count ≤ 73 * n + 4700
few_bits s n count most legal b le = omega (arith, b.steps, few_steps s n legal, le)
