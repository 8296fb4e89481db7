-- Samples that repeat the last one make blocks of zeros.
use Rattle.std.proofs.Common.{◌≡◌, ℕ, zero, suc, ◌+◌, ◌-◌, ◌*◌, ◌≤◌, ◌==◌, true, false, cond, List, [], ◌∷◌, ◌++◌, length, take, drop, replicate, refl, ap, arith, sym, ◌∙◌, ◌⊎◌, inl, inr, length-drop}
use Rattle.std.proofs.{lemmas.Grind.common_steps, Common.None, Common.ℤ}
use Rattle.rice_code.proofs.Words.{list_all, nat_tests, take-append-le, drop-append-le, take-append-drop, take-replicate, drop-replicate, take-length, Parameters, is_reference_sample, is_reference}
use Rattle.rice_code.proofs.Words.{rank_below, rank, residual, residuals, pattern, last_of, reference_begins, block_data, blocks_from, zero_block, eqb-true}
use Rattle.rice_code.proofs.lemmas.meaning.CoveredBlocks.{bool_cases, and-split, GoOn, EndsInZeros}

-- the last of samples in two parts is the last of the second part, after that of the first
pub last_append : (p : ℤ) (xs ys : List ℤ) → last_of p (xs ++ ys) ≡ last_of (last_of p xs) ys
last_append p [] ys = refl
last_append p (x ∷ xs) ys = last_append x xs ys

-- the last sample stays the same where it is repeated
pub last_replicate : (p : ℤ) (n : ℕ) → last_of p (replicate n p) ≡ p
last_replicate p zero = refl
last_replicate p (suc n) = last_replicate p n

-- the last sample is that of what follows the first block
pub last_after : (p : ℤ) (n : ℕ) (xs : List ℤ) → last_of (last_of p (take n xs)) (drop n xs) ≡ last_of p xs
last_after p n xs = sym (last_append p (take n xs) (drop n xs)) ∙ ap (λ v. last_of p v) (take-append-drop n xs)

-- the blocks of the first samples, and those after them
pub blocks_append : (s : Parameters) (b : ℕ) (p : ℤ) (m n : ℕ) (xs ys : List ℤ) → length xs ≡ s.block * m →
    blocks_from s b p (m + n) (xs ++ ys) ≡ blocks_from s b p m xs ++ blocks_from s (b + m) (last_of p xs) n ys
blocks_append s b p zero n [] ys e = let k : b + 0 ≡ b = omega arith in let z : 0 + n ≡ n = omega arith in λ i. blocks_from s (sym k i) p (z i) ys
blocks_append s b p zero n (x ∷ xs) ys e = absurd (omega arith)
blocks_append s b p (suc m) n xs ys e =
    let le : s.block ≤ length xs = omega arith in
    let len : length (drop s.block xs) ≡ s.block * m = omega (arith, length-drop s.block xs) in
    let ih = blocks_append s (b + 1) (last_of p (take s.block xs)) m n (drop s.block xs) ys len in
    let front = take-append-le s.block xs ys le in
    let back = drop-append-le s.block xs ys le in
    let z : suc m + n ≡ suc (m + n) = omega arith in
    grind (arith, common_steps, last_after, common_steps)

-- a sample that repeats the one before is predicted exactly, and without prediction it is zero where the one before is
abbrev pub Repeats : Parameters → ℤ → Type 0
Repeats s p = (s.preprocess ≡ true) ⊎ (pattern s p ≡ 0)

-- no number is before p in the order of distance from p
pub same_rank : (count p : ℕ) → rank_below count p p ≡ 0
same_rank count p = grind (arith, nat_tests)

residual_of_repeated : (s : Parameters) (i : ℕ) (p : ℤ) → Repeats s p → residual s i p p ≡ 0
residual_of_repeated s i p h = grind (arith, common_steps, bool_cases, same_rank)

-- where `Repeats` holds, the residuals of a sample again and again after itself are zeros
pub repeated_all : (s : Parameters) (i n : ℕ) (p : ℤ) → Repeats s p → residuals s i p (replicate n p) ≡ replicate n 0
repeated_all s i zero p h = refl
repeated_all s i (suc n) p h = let first = residual_of_repeated s i p h in let rest = repeated_all s (i + 1) n p h in λ k. first k ∷ rest k

-- so a block of it that has no reference is a block of zeros
pub repeated_block : (s : Parameters) (b : ℕ) (p : ℤ) → is_reference s b ≡ false → Repeats s p → block_data s b p (replicate s.block p) ≡ zero_block s None
repeated_block s b p e h = grind (arith, common_steps, repeated_all)

-- blocks of the same sample again and again
pub repeated_blocks : (s : Parameters) (b : ℕ) (p : ℤ) (n : ℕ) → GoOn s b n → Repeats s p → blocks_from s b p n (replicate (s.block * n) p) ≡ replicate n (zero_block s None)
repeated_blocks s b p zero k h = refl
repeated_blocks s b p (suc n) k h =
    let j = s.block in
    let front : take j (replicate (j * suc n) p) ≡ replicate j p = take-replicate j (j * suc n) p (omega arith) in
    let less : j * suc n - j ≡ j * n = omega arith in
    let back : drop j (replicate (j * suc n) p) ≡ replicate (j * n) p = drop-replicate j (j * suc n) p ∙ ap (λ m. replicate m p) less in
    let none : is_reference s b ≡ false = elim (bool_cases (is_reference s b)) [ inl r ↦ absurd (let f : true ≡ false = sym (reference_begins s b r) ∙ k.0 in cc) | inr r ↦ r ] in
    let first = repeated_block s b p none h in
    let last = last_replicate p j in
    let rest = repeated_blocks s (b + 1) p n k.1 h in
    grind (arith, common_steps, zero_block)

-- without prediction the last sample of a block of zeros is zero
last_of_zeros : (s : Parameters) (i : ℕ) (p : ℤ) (xs : List ℤ) → s.preprocess ≡ false → 1 ≤ length xs → list_all (λ d. d == 0) (residuals s i p xs) ≡ true → pattern s (last_of p xs) ≡ 0
last_of_zeros s i p [] e h k = absurd (omega arith)
last_of_zeros s i p (x ∷ []) e h k = sym (ap (λ v. cond v (cond (is_reference_sample s i) 0 (rank s p x)) (pattern s x)) e) ∙ eqb-true (residual s i p x) 0 (and-split (residual s i p x == 0) true k).0
last_of_zeros s i p (x ∷ y ∷ ys) e h k =
    last_of_zeros s (i + 1) x (y ∷ ys) e (omega arith) (and-split (residual s i p x == 0) (list_all (λ d. d == 0) (residuals s (i + 1) x (y ∷ ys))) k).1

-- where the last block is one of zeros, `Repeats` holds of the last sample
pub last_repeats : (s : Parameters) (b : ℕ) (p : ℤ) (n : ℕ) (xs : List ℤ) → 1 ≤ s.block → length xs ≡ s.block * n → EndsInZeros (blocks_from s b p n xs) → Repeats s (last_of p xs)
last_repeats s b p n xs j len h =
    elim (bool_cases s.preprocess) [ inl e ↦ inl e | inr e ↦ inr (zero_pattern b p n xs e len h) ]
  where
    zero_pattern : (b : ℕ) (p : ℤ) (n : ℕ) (xs : List ℤ) → s.preprocess ≡ false → length xs ≡ s.block * n → EndsInZeros (blocks_from s b p n xs) → pattern s (last_of p xs) ≡ 0
    zero_pattern b p zero xs e len h = absurd h
    zero_pattern b p (suc zero) xs e len h =
        let count : s.block ≡ length xs = omega arith in
        let all : take s.block xs ≡ xs = ap (λ m. take m xs) count ∙ take-length xs in
        last_of_zeros s (s.block * b) p xs e (omega arith) (sym (ap (λ v. list_all (λ d. d == 0) (residuals s (s.block * b) p v)) all) ∙ h)
    zero_pattern b p (suc (suc n)) xs e len h =
        sym (ap (λ v. pattern s v) (last_after p s.block xs)) ∙ zero_pattern (b + 1) (last_of p (take s.block xs)) (suc n) (drop s.block xs) e (omega (arith, length-drop s.block xs)) h
