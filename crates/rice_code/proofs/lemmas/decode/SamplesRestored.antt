-- The samples of a block, restored one after another.
use Rattle.std.proofs.Common.{◌≡◌, ℕ, suc, ◌+◌, ◌*◌, ◌<◌, ◌==◌, true, List, [], ◌∷◌, ◌++◌, length, take, get_or, refl, sym, ◌∙◌, ap, arith, Option, Some, None, ℤ, length-append, eq-eqb}
use Rattle.rice_code.proofs.Words.{IfSome, All, take_more, All-push, Parameters, IsSample, residual, residuals, pattern, last_of, IsReference, residual_at, slice_index_or, common_steps}
use Rattle.rice_code.proofs.lemmas.decode.RestoredBlocks.{residual_within}

-- the samples of the first i residuals of block b, after the sample p
pub record IsRestored (s : Parameters) (b : ℕ) (p : ℤ) (reference : Option ℕ) (ds : List ℕ) (i : ℕ) (samples : List ℤ) (last : ℤ) : Type 0 where
  pub same : residuals s (s.block * b) p samples ≡ take i ds
  pub len : length samples ≡ i
  pub legal : All (IsSample s) samples
  pub last_is : last ≡ last_of p samples
  pub sample : IsSample s last
  pub first : 0 < i → IfSome reference (λ v. pattern s (slice_index_or samples 0 p) ≡ v)

-- the last of some samples and one more
last_of-push : (p : ℤ) (xs : List ℤ) (x : ℤ) → last_of p (xs ++ x ∷ []) ≡ x
last_of-push p [] x = refl
last_of-push p (y ∷ xs) x = last_of-push y xs x

-- and their residuals
residuals-push : (s : Parameters) (i : ℕ) (p : ℤ) (xs : List ℤ) (x : ℤ) → residuals s i p (xs ++ x ∷ []) ≡ residuals s i p xs ++ residual s (i + length xs) (last_of p xs) x ∷ []
residuals-push s i p [] x = let e : i ≡ i + 0 = omega arith in ap (λ k. residual s k p x ∷ []) e
residuals-push s i p (y ∷ xs) x =
    let e : i + 1 + length xs ≡ i + suc (length xs) = omega arith in
    ap (λ z. residual s i p y ∷ z) (residuals-push s (i + 1) y xs x ∙ ap (λ k. residuals s (i + 1) y xs ++ residual s k (last_of y xs) x ∷ []) e)

-- what holds of the first of them
first-push : (ys : List ℤ) (x p : ℤ) (Q : ℤ → Type 0) → (length ys ≡ 0 → Q x) → (0 < length ys → Q (get_or ys 0 p)) → Q (get_or (ys ++ x ∷ []) 0 p)
first-push [] x p Q h k = h refl
first-push (y ∷ ys) x p Q h k = k (omega arith)

some_first : (r : Option ℕ) (P : ℕ → ℤ → Type 0) (ys : List ℤ) (x p : ℤ) → (length ys ≡ 0 → IfSome r (λ v. P v x))
    → (0 < length ys → IfSome r (λ v. P v (get_or ys 0 p))) → IfSome r (λ v. P v (get_or (ys ++ x ∷ []) 0 p))
some_first None P ys x p h k = tt
some_first (Some v) P ys x p h k = first-push ys x p (P v) h k

-- none is restored yet
pub restored-none : (s : Parameters) (b : ℕ) (p : ℤ) (r : Option ℕ) (ds : List ℕ) → IsSample s p → IsRestored s b p r ds 0 [] p
restored-none s b p r ds h = grind (arith, common_steps)

-- and one more is
pub restored-more : {s : Parameters} {b : ℕ} {p : ℤ} {r : Option ℕ} {ds : List ℕ} {i : ℕ} {samples : List ℤ} (last x : ℤ) → IsRestored s b p r ds i samples last
    → IsReference s b r → i < length ds → length ds ≡ s.block → IsSample s x → residual_at s r (i == 0) last x ≡ get_or ds i 0 → ((i == 0) ≡ true → IfSome r (λ v. pattern s x ≡ v))
    → IsRestored s b p r ds (i + 1) (samples ++ x ∷ []) x
restored-more {s} {b} {p} {r} {ds} {i} {samples} last x h k lt n sample res first =
    let at : s.block * b + length samples ≡ s.block * b + i = omega (arith, h.len) in
    let here : residual s (s.block * b + length samples) (last_of p samples) x ≡ get_or ds i 0 = grind (arith, common_steps, residual_within) in
    record {
      same = grind (arith, common_steps, residuals-push, take_more);
      len = omega (arith, length-append samples (x ∷ []), h.len);
      legal = All-push (IsSample s) samples x h.legal sample;
      last_is = sym (last_of-push p samples x);
      sample = sample;
      first = λ _. some_first r (λ v y. pattern s y ≡ v) samples x p (λ e. first (eq-eqb i 0 (sym h.len ∙ e))) (λ g. h.first (omega (arith, h.len)));
    }
