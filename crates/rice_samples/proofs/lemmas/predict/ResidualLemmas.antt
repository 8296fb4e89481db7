-- The residuals of samples: how many, how large, and 0 at a reference place.
use Rattle.std.proofs.Common.{◌≡◌, ℕ, suc, ◌+◌, ◌*◌, ◌/◌, ◌%◌, ◌<◌, ◌≤◌, ◌==◌, Bool, true, false, cond, ◌&&◌, List, [], ◌∷◌, length, refl, ap, ◌∙◌, ℤ}
use Rattle.std.{proofs.Math.Nat.mul-div_cancel_left, proofs.Math.Nat.mul-mod_right, specs.Prelude.slice_index, specs.List.AllByRecursion, proofs.lemmas.Nat.pow_pos}
use Rattle.rice_samples.specs.{Residuals.rank, Residuals.residual, Residuals.residuals, Residuals.pattern, Places.is_reference_sample, Places.is_reference}
use Rattle.rice_samples.{specs.Parameters.Parameters, specs.Parameters.IsSample, specs.Parameters.level, specs.Parameters.value_count, proofs.lemmas.setting.LevelsOfSamples.pattern_fits}
use Rattle.rice_samples.proofs.lemmas.predict.Ranks.{rank_fits}

-- there are as many residuals as samples
pub length-residuals : (s : Parameters) (i : ℕ) (p : ℤ) (xs : List ℤ) → length (residuals s i p xs) ≡ length xs
length-residuals s i p [] = refl
length-residuals s i p (x ∷ xs) = ap (λ n. suc n) (length-residuals s (i + 1) x xs)

-- the residual of a sample is below the count of values
pub residual_fits : (s : Parameters) (i : ℕ) (p x : ℤ) → 1 ≤ s.bits → IsSample s p → IsSample s x → residual s i p x < value_count s
residual_fits s i p x n h k =
    either (λ d. d < value_count s) s.preprocess (cond (is_reference_sample s i) 0 (rank s p x)) (pattern s x)
    (either (λ d. d < value_count s) (is_reference_sample s i) 0 (rank s p x) (pow_pos s.bits) (rank_fits (value_count s) (level s p) (level s x) h.1 k.1))
    (pattern_fits s x n k)
  where
    either : (P : ℕ → Type 0) (b : Bool) (x y : ℕ) → P x → P y → P (cond b x y)
    either P true x y h k = h
    either P false x y h k = k

-- and so are those of several
pub residuals_fit : (s : Parameters) (i : ℕ) (p : ℤ) (xs : List ℤ) → 1 ≤ s.bits → IsSample s p → AllByRecursion (IsSample s) xs → AllByRecursion (λ d. d < value_count s) (residuals s i p xs)
residuals_fit s i p [] n h k = tt
residuals_fit s i p (x ∷ xs) n h k = (residual_fits s i p x n h k.0, residuals_fit s (i + 1) x xs n k.0 k.1)

-- the first sample of a block with a reference is a reference sample
pub at_reference : (s : Parameters) (b : ℕ) → 1 ≤ s.block → is_reference s b ≡ true → is_reference_sample s (s.block * b) ≡ true
at_reference s b h e =
    let q : s.block * b / s.block ≡ b = mul-div_cancel_left b h in
    let r : s.block * b % s.block ≡ 0 = mul-mod_right s.block b in
    (λ i. is_reference s (q i) && (r i == 0)) ∙ ap (λ v. v && true) e

-- and the first residual of such a block is 0
pub zero_at_reference : (s : Parameters) (b : ℕ) (p : ℤ) (xs : List ℤ) → 1 ≤ s.block → is_reference s b ≡ true → slice_index (residuals s (s.block * b) p xs) 0 ≡ 0
zero_at_reference s b p [] h e = refl
zero_at_reference s b p (x ∷ xs) h e = first s.preprocess (is_reference_sample s (s.block * b)) (at_reference s b h e) (preprocessed s.preprocess _ e)
  where
    preprocessed : (a b : Bool) → (a && b) ≡ true → a ≡ true
    preprocessed true b e = refl
    preprocessed false b e = absurd (let f : false ≡ true = e in cc)

    first : (a b : Bool) → b ≡ true → a ≡ true → cond a (cond b 0 (rank s p x)) (pattern s x) ≡ 0
    first a b e f = ap (λ v. cond v (cond b 0 (rank s p x)) (pattern s x)) f ∙ ap (λ v. cond v 0 (rank s p x)) e
