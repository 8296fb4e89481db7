-- Samples of a block, restored.
use Rattle.std.proofs.Common.{◌≡◌, ℕ, suc, ◌+◌, ◌*◌, ◌<◌, ◌==◌, Bool, true, false, cond, List, [], ◌∷◌, length, map, drop, refl, sym, ◌∙◌, ap, arith, Option, Some, None, ℤ, zero, subst, ◌≤◌, inl, inr}
use Rattle.std.proofs.{lemmas.Grind.common_steps, Common.replicate}
use Rattle.rice_code.proofs.Words.{All, IfSome, IfNone, OnSome, is_some, slice_index, slice_index_or, ◌&&◌, div-mul-add, mul_comm, mod-mul-add, eqb-suc-zero, Parameters, IsSample, level, value_count}
use Rattle.rice_code.proofs.Words.{same_level, rank_injective, is_reference_sample, residual, residuals, rank, ranks, pattern, block_data, zero_block, IsReference, residual_at}
use Rattle.rice_code.proofs.lemmas.{code.RepeatedSamples.Repeats, code.RepeatedSamples.repeated_all, code.RepeatedSamples.same_rank, meaning.CoveredBlocks.bool_cases}

-- so a residual inside a block follows from whether it is the first, and whether the block has a reference
pub residual_within : (s : Parameters) (b j : ℕ) (r : Option ℕ) (p x : ℤ) → j < s.block → IsReference s b r → residual s (s.block * b + j) p x ≡ residual_at s r (j == 0) p x
residual_within s b j r p x h k = grind (arith, common_steps, mul_comm, div-mul-add, mod-mul-add)

-- the residuals of samples that no reference is among
ranks_within : {s : Parameters} {b : ℕ} (j : ℕ) {r : Option ℕ} (p : ℤ) (xs : List ℤ) → IsReference s b r → s.preprocess ≡ true → ((j == 0) && is_some r) ≡ false
    → j + length xs ≤ s.block → residuals s (s.block * b + j) p xs ≡ ranks s p xs
ranks_within j p [] k e f h = refl
ranks_within {s} {b} j {r} p (x ∷ xs) k e f h =
    let one : residual s (s.block * b + j) p x ≡ rank s p x = residual_within s b j r p x (omega (arith, h)) k ∙ (λ i. cond (e i) (cond (f i) 0 (rank s p x)) (pattern s x)) in
    let at : s.block * b + j + 1 ≡ s.block * b + suc j = omega arith in
    let rest = ap (λ n. residuals s n x xs) at ∙ ranks_within (suc j) x xs k e (ap (λ v. v && is_some r) (eqb-suc-zero j)) (omega (arith, h)) in
    λ i. one i ∷ rest i

patterns_alone : (s : Parameters) (n : ℕ) (p : ℤ) (xs : List ℤ) → s.preprocess ≡ false → residuals s n p xs ≡ map (pattern s) xs
patterns_alone s n p [] e = refl
patterns_alone s n p (x ∷ xs) e = let rest = patterns_alone s (n + 1) x xs e in λ i. cond (e i) (cond (is_reference_sample s n) 0 (rank s p x)) (pattern s x) ∷ rest i

-- the contents of a block whose samples have these residuals, and whose first sample is the reference, if there is one
pub contents_are : (s : Parameters) (b : ℕ) (p : ℤ) (r : Option ℕ) (ds : List ℕ) (samples : List ℤ) → IsReference s b r
    → residuals s (s.block * b) p samples ≡ ds → IfSome r (λ v. pattern s (slice_index_or samples 0 p) ≡ v)
    → block_data s b p samples ≡ record { reference = r; residuals = ds }
contents_are s b p None ds samples h e first = grind (arith, common_steps)
contents_are s b p (Some v) ds samples h e first = grind (arith, common_steps)

-- without preprocessing the residuals are the patterns of the samples
pub contents_of_patterns : (s : Parameters) (b : ℕ) (p : ℤ) (ds : List ℕ) (xs : List ℤ) → IsReference s b None → s.preprocess ≡ false → map (pattern s) xs ≡ ds
    → block_data s b p xs ≡ record { reference = None; residuals = ds }
contents_of_patterns s b p ds xs h e m = contents_are s b p None ds xs h (patterns_alone s (s.block * b) p xs e ∙ m) tt

-- and with preprocessing, in a block without reference, they are the ranks of the samples
pub contents_of_ranks : (s : Parameters) (b : ℕ) (p : ℤ) (ds : List ℕ) (xs : List ℤ) → IsReference s b None → s.preprocess ≡ true → length xs ≡ s.block
    → ranks s p xs ≡ ds → block_data s b p xs ≡ record { reference = None; residuals = ds }
contents_of_ranks s b p ds xs h e len r =
    let at : s.block * b ≡ s.block * b + 0 = omega arith in
    contents_are s b p None ds xs h (ap (λ n. residuals s n p xs) at ∙ (ranks_within 0 p xs h e refl (omega (arith, len)) ∙ r)) tt

-- a block has a reference only with preprocessing
reference_preprocesses : (s : Parameters) (b v : ℕ) → IsReference s b (Some v) → s.preprocess ≡ true
reference_preprocesses s b v h = grind (arith, common_steps)

-- residuals of a block, of which the first is in the place of the reference
pub record AfterReference (s : Parameters) (ds : List ℕ) (ys : List ℤ) : Type 0 where
  pub len : length ds ≡ s.block
  pub more : length ds ≡ suc (length ys)
  pub zero : slice_index ds 0 ≡ 0

-- the samples after a reference sample
pub contents_after : {s : Parameters} {b : ℕ} (p x : ℤ) {v : ℕ} (ds : List ℕ) (ys : List ℤ) → IsReference s b (Some v) → AfterReference s ds ys → ranks s x ys ≡ drop 1 ds → pattern s x ≡ v
    → block_data s b p (x ∷ ys) ≡ record { reference = Some v; residuals = ds }
contents_after p x [] ys h after r pat = absurd (omega arith)
contents_after {s} {b} p x {v} (d ∷ ds) ys h after r pat =
    let e = reference_preprocesses s b v h in
    let at : s.block * b ≡ s.block * b + 0 = omega arith in
    let one : residual s (s.block * b) p x ≡ d = ap (λ j. residual s j p x) at
    ∙ (residual_within s b 0 (Some v) p x (omega (arith, after.len)) h ∙ ((λ i. cond (e i) 0 (pattern s x)) ∙ sym after.zero)) in
    let rest : residuals s (s.block * b + 1) x ys ≡ ds = ranks_within 1 x ys h e refl (omega (arith, after.len, after.more)) ∙ r in
    contents_are s b p (Some v) (d ∷ ds) (x ∷ ys) h (λ i. one i ∷ rest i) pat

-- a sample that gives a residual of 0 first gives it again and again
pub zeros_restored : (s : Parameters) (b : ℕ) (p x : ℤ) (r : Option ℕ) → IsReference s b r → 1 ≤ s.block → residual_at s r true p x ≡ 0
    → IfSome r (λ v. pattern s x ≡ v) → block_data s b p (replicate s.block x) ≡ zero_block s r
zeros_restored s b p x r h j res ref = contents_are s b p r (replicate s.block 0) (replicate s.block x) h (all_zeros s.block j) (subst Q (sym (first s.block j)) ref)
  where
    Q : ℤ → Type 0
    Q y = IfSome r (λ v. pattern s y ≡ v)

    first : (n : ℕ) → 1 ≤ n → slice_index_or (replicate n x) 0 p ≡ x
    first zero h = absurd (omega arith)
    first (suc n) h = refl

    repeats : Repeats s x
    repeats = elim (bool_cases s.preprocess) [ inl e ↦ inl e | inr e ↦ inr (sym (ap (λ v. cond v (cond (is_some r) 0 (rank s p x)) (pattern s x)) e) ∙ res) ]

    here : s.block * b ≡ s.block * b + 0
    here = omega arith

    all_zeros : (n : ℕ) → 1 ≤ n → residuals s (s.block * b) p (replicate n x) ≡ replicate n 0
    all_zeros zero h = absurd (omega arith)
    all_zeros (suc n) h' =
        let one = ap (λ i. residual s i p x) here ∙ (residual_within s b 0 r p x j h ∙ res) in
        let rest = repeated_all s (s.block * b + 1) n x repeats in
        λ i. one i ∷ rest i

-- the sample at the place of the reference is the one that it is restored after
same_first : (s : Parameters) (x y : ℤ) → IsSample s x → IsSample s y → rank s x y ≡ 0 → y ≡ x
same_first s x y h k e = same_level s y x k h (rank_injective (value_count s) (level s x) (level s y) (level s x) h.1 k.1 h.1 (e ∙ sym (same_rank (value_count s) (level s x))))

-- residuals of a block, with a zero in the place of the reference
pub record ResidualsOfBlock (s : Parameters) (r : Option ℕ) (ds : List ℕ) : Type 0 where
  pub len : length ds ≡ s.block
  pub zero : OnSome r (slice_index ds 0 ≡ 0)
  pub some : 1 ≤ s.block

-- the sample after which the first one is restored: the reference, or the sample before the block
pub record FirstSample (s : Parameters) (p x : ℤ) (r : Option ℕ) : Type 0 where
  pub legal : IsSample s x
  pub some : IfSome r (λ v. pattern s x ≡ v)
  pub none : IfNone r (x ≡ p)

-- the samples of a block that are restored from residuals
pub record SamplesRestored (s : Parameters) (x : ℤ) (ds : List ℕ) (xs : List ℤ) : Type 0 where
  pub legal : All (IsSample s) xs
  pub len : length xs ≡ s.block
  pub ranks : ranks s x xs ≡ ds

-- samples restored from all residuals of a block, after its reference sample or the sample before it
pub contents_restored : {s : Parameters} {b : ℕ} (p x : ℤ) {r : Option ℕ} {ds : List ℕ} (xs : List ℤ) → IsReference s b r → s.preprocess ≡ true
    → ResidualsOfBlock s r ds → FirstSample s p x r → SamplesRestored s x ds xs → block_data s b p xs ≡ record { reference = r; residuals = ds }
contents_restored {s} {b} p x {r = None} {ds} xs h pre of_block begins restored = contents_of_ranks s b p ds xs h pre restored.len (ap (λ q. ranks s q xs) (sym begins.none) ∙ restored.ranks)
contents_restored p x {r = Some v} [] h pre of_block begins restored = absurd (omega arith)
contents_restored p x {r = Some v} {ds = []} (y ∷ ys) h pre of_block begins restored = absurd (omega arith)
contents_restored {s} {b} p x {r = Some v} {ds = d ∷ ds} (y ∷ ys) h pre of_block begins restored =
    let first : rank s x y ≡ d = cc in
    let rest : ranks s y ys ≡ ds = cc in
    let at : y ≡ x = same_first s x y begins.legal (restored.legal 0 x (omega arith)) (first ∙ of_block.zero) in
    let rest_after : ranks s x ys ≡ ds = ap (λ q. ranks s q ys) (sym at) ∙ rest in
    ap (λ q. block_data s b p (q ∷ ys)) at ∙ contents_after p x (d ∷ ds) ys h (record { len = of_block.len; more = omega arith; zero = of_block.zero }) rest_after begins.some
