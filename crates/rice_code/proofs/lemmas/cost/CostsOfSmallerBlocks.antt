-- Blocks of which no residual is greater than another block's: no option of theirs is longer.
use Rattle.std.proofs.Common.{◌≡◌, ℕ, zero, suc, ◌+◌, ◌*◌, ◌/◌, ◌^◌, ◌<◌, ◌≤◌, List, [], ◌∷◌, ◌++◌, length, replicate, refl, ap, arith, sym, ◌∙◌, subst, Option, Some, None}
use Rattle.rice_code.proofs.Words.{OnSome, slice_index, sum_by, AllZip, AllByRecursion, recursion_from_All, All-from_recursion, sum_by-cons, le-div, pow_pos, div-mul-le_self, mul-le-mul}
use Rattle.rice_code.proofs.Words.{mul-le-mul_right, Parameters, id_len, value_count, pair_code, pair_codes, BlockData, zero_block, NoCompression, SecondExtension, Split, cost, sent_from}
use Rattle.rice_code.proofs.{Words.reference_len, Words.IsReference, Words.IsSoundBlock, Words.common_steps, lemmas.cost.BlockBounds.reference_bound}

-- each number is at most the one at its place
abbrev pub AreAtMost : List ℕ → List ℕ → Type 0
AreAtMost xs ys = AllZip (λ x y. x ≤ y) xs ys

-- the same reference, and residuals that are at most the other's
pub record IsAtMost (c x : BlockData) : Type 0 where
  pub reference : c.reference ≡ x.reference
  pub residuals : AreAtMost c.residuals x.residuals

-- as many blocks and more, and each of the first at most the one at its place there
abbrev pub BeginAtMost : List BlockData → List BlockData → Type 0
BeginAtMost [] xs = Unit {0}
BeginAtMost (c ∷ cs) [] = ⊥
BeginAtMost (c ∷ cs) (x ∷ xs) = IsAtMost c x × BeginAtMost cs xs

-- numbers are at most themselves
pub at_most_itself : (xs : List ℕ) → AreAtMost xs xs
at_most_itself [] = tt
at_most_itself (x ∷ xs) = (omega arith, at_most_itself xs)

-- of blocks, and the same with more after them, each is at most the one at its place
pub begin_with : (cs more : List BlockData) → BeginAtMost cs (cs ++ more)
begin_with [] more = tt
begin_with (c ∷ cs) more = (record { reference = refl; residuals = at_most_itself c.residuals }, begin_with cs more)

same_len : (xs ys : List ℕ) → AreAtMost xs ys → length xs ≡ length ys
same_len [] [] h = refl
same_len (x ∷ xs) (y ∷ ys) h = ap (λ n. suc n) (same_len xs ys h.1)
same_len _ _ h = absurd h

-- ---- what they cost

sums_at_most : (f : ℕ → ℕ) → ((x y : ℕ) → x ≤ y → f x ≤ f y) → (xs ys : List ℕ) → AreAtMost xs ys → sum_by f xs ≤ sum_by f ys
sums_at_most f rises [] [] h = omega arith
sums_at_most f rises (x ∷ xs) (y ∷ ys) h = omega (arith, sum_by-cons f x xs, sum_by-cons f y ys, rises x y h.0, sums_at_most f rises xs ys h.1)
sums_at_most f rises _ _ h = absurd h

pair_rises : (a b c d : ℕ) → a ≤ c → b ≤ d → pair_code a b ≤ pair_code c d
pair_rises a b c d h k =
    let sums : (a + b) * (a + b + 1) ≤ (c + d) * (c + d + 1) = mul-le-mul (let le : a + b ≤ c + d = omega arith in le) (let le : a + b + 1 ≤ c + d + 1 = omega arith in le) in
    omega (arith, sums)

pairs_at_most : (xs ys : List ℕ) → AreAtMost xs ys → AreAtMost (pair_codes xs) (pair_codes ys)
pairs_at_most [] [] h = tt
pairs_at_most (x ∷ []) (y ∷ []) h = tt
pairs_at_most (x ∷ w ∷ xs) (y ∷ z ∷ ys) h = (pair_rises x w y z h.0 h.1.0, pairs_at_most xs ys h.1.1)
pairs_at_most (x ∷ []) (y ∷ z ∷ ys) h = absurd h.1
pairs_at_most (x ∷ w ∷ xs) (y ∷ []) h = absurd h.1
pairs_at_most _ _ h = absurd h

-- a block that is at most another costs no more than the other by no compression,
pub no_compression_at_most : (s : Parameters) (c x : BlockData) → IsAtMost c x → cost s (NoCompression c) ≤ cost s (NoCompression x)
no_compression_at_most s c x h = omega (arith, ap (λ n. n * s.bits) (same_len c.residuals x.residuals h.residuals))

-- by second extension,
pub second_extension_at_most : (s : Parameters) (c x : BlockData) → IsAtMost c x → cost s (SecondExtension c) ≤ cost s (SecondExtension x)
second_extension_at_most s c x h = grind (arith, common_steps, sums_at_most, pairs_at_most)

high_part_rises : (k x y : ℕ) → x ≤ y → x / 2 ^ k ≤ y / 2 ^ k
high_part_rises k x y h = le-div (x / 2 ^ k) y (2 ^ k) (pow_pos k) (omega (arith, div-mul-le_self x (2 ^ k), h))

-- and by a split
pub split_at_most : (s : Parameters) (k : ℕ) (c x : BlockData) → IsAtMost c x → cost s (Split k c) ≤ cost s (Split k x)
split_at_most s k c x h = grind (arith, common_steps, sums_at_most, high_part_rises, same_len)

-- ---- what they are

zeros_at_most : (n : ℕ) (xs : List ℕ) → AreAtMost xs (replicate n 0) → xs ≡ replicate n 0
zeros_at_most zero [] h = refl
zeros_at_most (suc n) (x ∷ xs) h = let first : x ≡ 0 = omega (arith, h.0) in let rest = zeros_at_most n xs h.1 in λ i. first i ∷ rest i
zeros_at_most _ _ h = absurd h

-- only a block of zeros is at most one
pub zero_at_most : (s : Parameters) (r : Option ℕ) (c : BlockData) → IsAtMost c (zero_block s r) → c ≡ zero_block s r
zero_at_most s r c h = let zeros = zeros_at_most s.block c.residuals h.residuals in λ i. record { reference = h.reference i; residuals = zeros i }

first_at_most : (r : Option ℕ) (xs ys : List ℕ) → AreAtMost xs ys → OnSome r (slice_index ys 0 ≡ 0) → OnSome r (slice_index xs 0 ≡ 0)
first_at_most None xs ys h k = tt
first_at_most (Some v) [] [] h k = refl
first_at_most (Some v) (x ∷ xs) (y ∷ ys) h k = let zero : y ≡ 0 = k in omega (arith, h.0, zero)
first_at_most (Some v) _ _ h k = absurd h

fit_at_most : (n : ℕ) (xs ys : List ℕ) → AreAtMost xs ys → AllByRecursion (λ d. d < n) ys → AllByRecursion (λ d. d < n) xs
fit_at_most n [] [] h k = tt
fit_at_most n (x ∷ xs) (y ∷ ys) h k = (omega (arith, h.0, k.0), fit_at_most n xs ys h.1 k.1)
fit_at_most n _ _ h k = absurd h

-- a block that is at most a sound one is sound
pub sound_at_most : (s : Parameters) (b : ℕ) (c x : BlockData) → IsAtMost c x → IsSoundBlock s b x → IsSoundBlock s b c
sound_at_most s b c x h k = record {
  block = record { reference = subst (IsReference s b) (sym h.reference) k.block.reference; len = same_len c.residuals x.residuals h.residuals ∙ k.block.len };
  at_reference = first_at_most c.reference c.residuals x.residuals h.residuals (subst (λ (r : Option ℕ). OnSome r (slice_index x.residuals 0 ≡ 0)) (sym h.reference) k.at_reference);
  fit = All-from_recursion (λ d. d < value_count s) c.residuals (fit_at_most (value_count s) c.residuals x.residuals h.residuals (recursion_from_All (λ d. d < value_count s) x.residuals k.fit));
}

-- ---- no option is shorter than a run of one block

-- with four residuals or more a block by no compression is no shorter than a run of one block,
pub no_compression_exceeds : (s : Parameters) (c : BlockData) → 4 ≤ length c.residuals → 1 ≤ s.bits → id_len s + 2 + reference_len s c.reference ≤ cost s (NoCompression c)
no_compression_exceeds s c h k = grind (arith, common_steps, mul-le-mul_right, reference_bound)

-- nor is it by second extension,
pub second_extension_exceeds : (s : Parameters) (c : BlockData) → 4 ≤ length c.residuals → id_len s + 2 + reference_len s c.reference ≤ cost s (SecondExtension c)
second_extension_exceeds s c h = grind (arith, common_steps, sum_by-cons)

-- nor by a split
pub split_exceeds : (s : Parameters) (k : ℕ) (c : BlockData) → 4 ≤ length c.residuals → id_len s + 2 + reference_len s c.reference ≤ cost s (Split k c)
split_exceeds s k c h = grind (arith, common_steps, mul-le-mul_right)
