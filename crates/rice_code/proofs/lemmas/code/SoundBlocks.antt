-- The blocks of legal samples are sound, and as many as they should be.
use Rattle.std.proofs.Common.{◌≡◌, ℕ, zero, suc, ◌+◌, ◌-◌, ◌*◌, ◌/◌, ◌%◌, ◌<◌, ◌≤◌, min, Bool, true, false, cond, List, [], ◌∷◌, ◌++◌, length, take, drop, replicate, refl, ap, arith, ◌∙◌, inl, inr}
use Rattle.std.proofs.Common.{length-append, Some, None, ℤ}
use Rattle.rice_code.proofs.Words.{All, OnSome, slice_index, AllByRecursion, next_multiple_of, cases_lt, length-take, length-drop, length-replicate, recursion_from_All, All-from_recursion, mod-lt}
use Rattle.rice_code.proofs.Words.{mod-eq_of_lt, mod_self, Parameters, IsLegal, IsSample, value_count, is_reference, block_count, pattern, residuals, last_of, filled_samples, pattern_fits}
use Rattle.rice_code.proofs.Words.{length-residuals, residuals_fit, zero_at_reference, block_data, blocks_from, blocks_of, bits_from, bit_bound, IsReference, IsSoundBlock, AreSoundBlocks}
use Rattle.rice_code.proofs.{lemmas.cost.BlockBounds.blocks_are_bounded, Words.common_steps}

abbrev Samples : Parameters → List ℤ → Type 0
Samples s xs = AllByRecursion (IsSample s) xs

-- what holds of all elements of a list holds of the first of them,
pub all_take : {X : Type 0} (P : X → Type 0) (n : ℕ) (xs : List X) → AllByRecursion P xs → AllByRecursion P (take n xs)
all_take P zero xs h = tt
all_take P (suc n) [] h = tt
all_take P (suc n) (x ∷ xs) h = (h.0, all_take P n xs h.1)

-- and of those after them
pub all_drop : {X : Type 0} (P : X → Type 0) (n : ℕ) (xs : List X) → AllByRecursion P xs → AllByRecursion P (drop n xs)
all_drop P zero xs h = h
all_drop P (suc n) [] h = tt
all_drop P (suc n) (x ∷ xs) h = all_drop P n xs h.1

-- what holds of an element holds of it again and again
pub all_replicate : {X : Type 0} (P : X → Type 0) (n : ℕ) (x : X) → P x → AllByRecursion P (replicate n x)
all_replicate P zero x h = tt
all_replicate P (suc n) x h = (h, all_replicate P n x h)

-- what holds of all elements of two lists holds of those of both, joined
pub all_append : {X : Type 0} (P : X → Type 0) (xs ys : List X) → AllByRecursion P xs → AllByRecursion P ys → AllByRecursion P (xs ++ ys)
all_append P [] ys h k = k
all_append P (x ∷ xs) ys h k = (h.0, all_append P xs ys h.1 k)

-- the last of legal samples after a legal one is legal
pub last_legal : (s : Parameters) (p : ℤ) (xs : List ℤ) → IsSample s p → Samples s xs → IsSample s (last_of p xs)
last_legal s p [] h k = h
last_legal s p (x ∷ xs) h k = last_legal s x xs k.0 k.1

reference_fits : (s : Parameters) (b : ℕ) (h : Bool) (v : ℕ) → v < value_count s → h ≡ is_reference s b → IsReference s b (cond h (Some v) None)
reference_fits s b true v lt e = record { there = e; fits = lt }
reference_fits s b false v lt e = record { there = e; fits = tt }

contents_sound : (s : Parameters) (b : ℕ) (p : ℤ) (xs : List ℤ) → IsLegal s → 1 ≤ s.block → IsSample s p → Samples s xs → length xs ≡ s.block → IsSoundBlock s b (block_data s b p xs)
contents_sound s b p [] legal j h k n = absurd (omega arith)
contents_sound s b p (x ∷ xs) legal j h k n = record {
  block = record { reference = reference_fits s b (is_reference s b) (pattern s x) (pattern_fits s x legal.bits_from k.0) refl; len = length-residuals s (s.block * b) p (x ∷ xs) ∙ n };
  at_reference = zero_there (is_reference s b) refl;
  fit = All-from_recursion (λ d. d < value_count s) (residuals s (s.block * b) p (x ∷ xs)) (residuals_fit s (s.block * b) p (x ∷ xs) legal.bits_from h k);
}
  where
    zero_there : (v : Bool) → is_reference s b ≡ v → OnSome (cond v (Some (pattern s x)) None) (slice_index (residuals s (s.block * b) p (x ∷ xs)) 0 ≡ 0)
    zero_there true e = zero_at_reference s b p (x ∷ xs) j e
    zero_there false e = tt

-- legal samples of whole blocks, after a legal one, make sound blocks
pub blocks_sound : {s : Parameters} (b : ℕ) (p : ℤ) (n : ℕ) (xs : List ℤ) → IsLegal s → 1 ≤ s.block → IsSample s p → Samples s xs → length xs ≡ s.block * n
    → AreSoundBlocks s b (blocks_from s b p n xs)
blocks_sound b p zero xs legal j h k n = tt
blocks_sound {s} b p (suc m) xs legal j h k n =
    let front : length (take s.block xs) ≡ s.block = omega (arith, length-take s.block xs) in
    let back : length (drop s.block xs) ≡ s.block * m = omega (arith, length-drop s.block xs) in
    let ks = all_take (IsSample s) s.block xs k in (
      contents_sound s b p (take s.block xs) legal j h ks front,
      blocks_sound (b + 1) (last_of p (take s.block xs)) m (drop s.block xs) legal j (last_legal s p (take s.block xs) h ks) (all_drop (IsSample s) s.block xs k) back,
    )

-- as many blocks are made as are asked for
pub count_blocks : (s : Parameters) (b : ℕ) (p : ℤ) (n : ℕ) (xs : List ℤ) → length (blocks_from s b p n xs) ≡ n
count_blocks s b p zero xs = refl
count_blocks s b p (suc n) xs = ap (λ m. suc m) (count_blocks s (b + 1) (last_of p (take s.block xs)) n (drop s.block xs))

-- filled up, the samples make whole blocks
filled_to_whole_blocks : (j n : ℕ) → 1 ≤ j → n + (n + (j - n % j) % j - n) ≡ j * (n / j + min 1 (n % j))
filled_to_whole_blocks j n h =
    elim (cases_lt 0 (n % j)) [
      | inl some ↦ let f = mod-eq_of_lt (rest_below j n h some) in let g : min 1 (n % j) ≡ 1 = omega arith in let k = ap (λ v. j * (n / j + v)) g in let b = mod-lt n h in omega arith
      | inr none ↦ let z : n % j ≡ 0 = omega arith in let same : j - 0 ≡ j = omega arith in let f = ap (λ v. (j - v) % j) z
          ∙ (ap (λ v. v % j) same ∙ mod_self j) in let k = ap (λ v. j * (n / j + min 1 v)) z in omega arith
    ]
  where
    rest_below : (j n : ℕ) → 1 ≤ j → 0 < n % j → j - n % j < j
    rest_below j n h k = omega arith

-- samples, with their last block filled, are as many as their blocks have
pub filled_len : (s : Parameters) (p : ℤ) (xs : List ℤ) → 1 ≤ s.block → length (filled_samples s p xs) ≡ s.block * block_count s (length xs)
filled_len s p xs j = length-append xs _ ∙ (ap (λ n. length xs + n) (length-replicate (next_multiple_of (length xs) s.block - length xs) (last_of p xs)) ∙ filled_to_whole_blocks s.block (length xs) j)

-- so the blocks of legal samples, of which the last is filled, are sound from any block on
pub blocks_sound_after : (s : Parameters) (b : ℕ) (p : ℤ) (xs : List ℤ) → IsLegal s → 1 ≤ s.block → IsSample s p → Samples s xs → AreSoundBlocks s b (blocks_of s b p xs)
blocks_sound_after s b p xs legal j h k =
    blocks_sound b p (block_count s (length xs)) (filled_samples s p xs) legal j h
    (all_append (IsSample s) xs _ k (all_replicate (IsSample s) _ (last_of p xs) (last_legal s p xs h k))) (filled_len s p xs j)

-- The bits of code from any block on, without padding, are at most the bound for so many samples.
pub code_is_bounded : (s : Parameters) → IsLegal s → (b : ℕ) (p : ℤ) (xs : List ℤ) → IsSample s p → All (IsSample s) xs → bits_from s b p xs ≤ bit_bound s (length xs)
code_is_bounded s legal b p xs h k = grind (arith, common_steps, blocks_are_bounded, blocks_sound_after, recursion_from_All, count_blocks)
