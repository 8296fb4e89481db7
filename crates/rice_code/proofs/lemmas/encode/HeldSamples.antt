-- The residuals and the reference of the samples that a coder holds.
use Rattle.std.proofs.Common.{◌≡◌, ℕ, zero, suc, ◌+◌, ◌*◌, ◌/◌, ◌%◌, ◌<◌, ◌≤◌, ◌==◌, min, Bool, true, false, cond, ◌&&◌, List, [], ◌∷◌, ◌++◌}
use Rattle.std.proofs.Common.{length, take, drop, replicate, refl, ap, arith, sym, ◌∙◌, inl, inr, subst, append_assoc, append-nil, length-append, length-drop, None, Some, ℤ, pos}
use Rattle.rice_code.proofs.Words.{slice_index_or, AllByRecursion, take_at, drop_at, length-take-le, length-take, take-append-drop, div-mul-add, div-add-mod, mod-lt, eqb-true, and-true}
use Rattle.rice_code.proofs.Words.{mul-mod_right, mul-div_cancel_left, Parameters, IsSample, place, begins_segment, blocks_left, is_reference, is_reference_sample, pattern, residual, and-false}
use Rattle.rice_code.proofs.Words.{residuals, last_of, rank, one_less_left, last_of_segment, reference_begins, length-residuals, lt_of_mul-lt-mul_left, BlockData, blocks_from, HasCodedBefore}
use Rattle.rice_code.proofs.Words.{reference_in, CoderState, is_empty, next_residual, next_reference, state_after, state_with_fill, held_blocks, block_with, common_steps}
use Rattle.rice_code.proofs.lemmas.{meaning.CoveredBlocks.bool_cases, meaning.CoveredBlocks.and-split, code.RepeatedSamples.last_append, code.SegmentPlaces.place_inside}

-- the next residual and the reference after it
first_reference : (s : Parameters) (b : ℕ) → 1 ≤ s.block → is_reference_sample s (s.block * b + 0) ≡ is_reference s b
first_reference s b j =
    let e : s.block * b + 0 ≡ s.block * b = omega arith in
    let q : (s.block * b + 0) / s.block ≡ b = ap (λ v. v / s.block) e ∙ mul-div_cancel_left b j in
    let r : (s.block * b + 0) % s.block ≡ 0 = ap (λ v. v % s.block) e ∙ mul-mod_right s.block b in
    (λ i. is_reference s (q i) && (r i == 0)) ∙ and-true (is_reference s b)

later_reference : (s : Parameters) (b n : ℕ) → 1 ≤ s.interval → 1 ≤ s.block → suc n < s.block * blocks_left s b → is_reference_sample s (s.block * b + suc n) ≡ false
later_reference s b n h j k =
    elim (bool_cases (is_reference_sample s (s.block * b + suc n))) [
      | inr e ↦ e
      | inl e ↦
          let m = s.block * b + suc n in
          let p = and-split (is_reference s (m / s.block)) (m % s.block == 0) e in
          let p' = and-split s.preprocess (place s (m / s.block) == 0) p.0 in
          let whole : m % s.block ≡ 0 = eqb-true (m % s.block) 0 p.1 in
          let first : place s (m / s.block) ≡ 0 = eqb-true (place s (m / s.block)) 0 p'.1 in
          let q = suc n / s.block in
          let d = div-add-mod (suc n) s.block in
          let r = mod-lt (suc n) j in
          let f : m ≡ (b + q) * s.block + suc n % s.block = split m n b s.block q d in
          let at : m / s.block ≡ b + q = ap (λ v. v / s.block) f ∙ div-mul-add (b + q) s.block (suc n % s.block) r in
          let rest : m % s.block ≡ suc n % s.block = remainder m (b + q) s.block (suc n % s.block) f at (div-add-mod m s.block) in
          let few : q < blocks_left s b = below q (suc n % s.block) s.block (blocks_left s b) (suc n) d k in
          let some : 1 ≤ q = positive q (suc n % s.block) s.block n d (omega arith) in
          let in' = ap (place s) at ∙ place_inside s b q h few in
          absurd (omega (arith, in', first, some))
    ]
  where
    split : (m n b j q : ℕ) → j * q + suc n % j ≡ suc n → j * b + suc n ≡ (b + q) * j + suc n % j
    split m n b j q d = omega (arith, d)

    remainder : (m a j r : ℕ) → m ≡ a * j + r → m / j ≡ a → j * (m / j) + m % j ≡ m → m % j ≡ r
    remainder m a j r f g d = let e = ap (λ v. j * v) g in omega (arith, e)

    below : (q r j left n : ℕ) → j * q + r ≡ n → n < j * left → q < left
    below q r j left n d k = lt_of_mul-lt-mul_left j (omega arith)

    positive : (q r j n : ℕ) → j * q + r ≡ suc n → r ≡ 0 → 1 ≤ q
    positive zero r j n d e = absurd (omega arith)
    positive (suc q) r j n d e = omega arith

all_more : (s : Parameters) (xs : List ℤ) (x : ℤ) → AllByRecursion (IsSample s) xs → IsSample s x → AllByRecursion (IsSample s) (xs ++ x ∷ [])
all_more s [] x h k = (k, tt)
all_more s (y ∷ ys) x h k = (h.0, all_more s ys x h.1 k)

-- if all samples of two lists are legal, so are those of each
pub all_first : (s : Parameters) (xs ys : List ℤ) → AllByRecursion (IsSample s) (xs ++ ys) → AllByRecursion (IsSample s) xs × AllByRecursion (IsSample s) ys
all_first s [] ys h = (tt, h)
all_first s (x ∷ xs) ys h = let r = all_first s xs ys h.1 in ((h.0, r.0), r.1)

-- the samples that a coder holds of a segment that is not whole, and their residuals
record HeldAt (coder : CoderState) (b : ℕ) (held : List ℤ) (p : ℤ) : Type 0 where
  start : place coder.setting b ≡ coder.start
  room : length held < coder.setting.block * blocks_left coder.setting b
  residuals_are : coder.residuals ≡ residuals coder.setting (coder.setting.block * b) p held

-- the residual of the next sample
the_residual : (coder : CoderState) (b : ℕ) (held : List ℤ) (p x : ℤ) → 1 ≤ coder.setting.interval → 1 ≤ coder.setting.block
    → HeldAt coder b held p → residual coder.setting (coder.setting.block * b + length held) coder.previous x ≡ next_residual coder x
the_residual coder b [] p x h j held_at = grind (arith, common_steps, first_reference)
the_residual coder b (y ∷ ys) p x h j held_at = grind (arith, common_steps, later_reference)

residuals_append : (s : Parameters) (i : ℕ) (p : ℤ) (xs ys : List ℤ) → residuals s i p (xs ++ ys) ≡ residuals s i p xs ++ residuals s (i + length xs) (last_of p xs) ys
residuals_append s i p [] ys = let e : i ≡ i + 0 = omega arith in ap (λ n. residuals s n p ys) e
residuals_append s i p (x ∷ xs) ys =
    let e : i + 1 + length xs ≡ i + suc (length xs) = omega arith in
    ap (λ l. residual s i p x ∷ l) (residuals_append s (i + 1) x xs ys ∙ ap (λ n. residuals s (i + 1) x xs ++ residuals s n (last_of x xs) ys) e)

-- blocks inside a segment have no reference, but for the first
none_inside : (s : Parameters) (b : ℕ) (xs : List ℤ) → begins_segment s b ≡ false → reference_in s b xs ≡ None
none_inside s b [] e = refl
none_inside s b (x ∷ xs) e = grind (arith, common_steps, bool_cases, reference_begins)

no_blocks : (s : Parameters) (b : ℕ) (p : ℤ) (n : ℕ) (xs : List ℤ) → n ≡ 0 → blocks_from s b p n xs ≡ []
no_blocks s b p zero xs e = refl
no_blocks s b p (suc n) xs e = absurd (omega arith)

-- the blocks of the samples that are held are made of their residuals
pub held_are : (s : Parameters) (b : ℕ) (p : ℤ) (n : ℕ) (xs : List ℤ) → 1 ≤ s.interval → 1 ≤ s.block → n ≤ blocks_left s b → length xs ≡ s.block * n →
    blocks_from s b p n xs ≡ held_blocks s (reference_in s b xs) n (residuals s (s.block * b) p xs)
held_are s b p zero xs h j k e = refl
held_are s b p (suc n) xs h j k e =
    let front = take s.block xs in
    let back = drop s.block xs in
    let flen : length front ≡ s.block = length-take-le s.block xs (omega arith) in
    let blen : length back ≡ s.block * n = omega (arith, length-drop s.block xs) in
    let q = last_of p front in
    let all : residuals s (s.block * b) p xs ≡ residuals s (s.block * b) p front ++ residuals s (s.block * b + length front) q back = ap
    (residuals s (s.block * b) p) (sym (take-append-drop s.block xs)) ∙ residuals_append s (s.block * b) p front back in
    let rlen : length (residuals s (s.block * b) p front) ≡ s.block = length-residuals s (s.block * b) p front ∙ flen in
    let t : take s.block (residuals s (s.block * b) p xs) ≡ residuals s (s.block * b) p front = ap (take s.block) all ∙ take_at (residuals s (s.block * b) p front) _ s.block rlen in
    let at : s.block * b + length front ≡ s.block * (b + 1) = omega arith in
    let d : drop s.block (residuals s (s.block * b) p xs) ≡ residuals s (s.block * (b + 1)) q back = grind (arith, common_steps, drop_at) in
    let ref : cond (is_reference s b) (Some (pattern s (slice_index_or front 0 p))) None ≡ reference_in s b xs = same_reference xs front flen refl in
    let rest : blocks_from s (b + 1) q n back ≡ held_blocks s None n (residuals s (s.block * (b + 1)) q back) = after n back
    (residuals s (s.block * (b + 1)) q back) (blocks_from s (b + 1) q n back) k (no_blocks s (b + 1) q n back)
    (λ f. held_are s (b + 1) q n back h j f blen) in
    (λ i. block_with (ref i) (sym t i) ∷ (rest ∙ ap (held_blocks s None n) (sym d)) i)
  where
    same_reference : (xs front : List ℤ) → length front ≡ s.block → front ≡ take s.block xs → cond (is_reference s b) (Some (pattern s (slice_index_or front 0 p))) None ≡ reference_in s b xs
    same_reference [] front l f = absurd (let g : length front ≡ min s.block 0 = ap length f ∙ length-take s.block (let e : List ℤ = [] in e) in omega (arith, g))
    same_reference (x ∷ xs) front l f = ap (λ y. cond (is_reference s b) (Some (pattern s y)) None) (ap (λ f. slice_index_or f 0 p) f ∙ first s.block j)
      where
        first : (n : ℕ) → 1 ≤ n → slice_index_or (take n (x ∷ xs)) 0 p ≡ x
        first zero h = absurd (omega arith)
        first (suc n) h = refl

    after : (m : ℕ) (ys : List ℤ) (ds : List ℕ) (rest : List BlockData) → suc m ≤ blocks_left s b → (m ≡ 0 → rest ≡ [])
        → (m ≤ blocks_left s (b + 1) → rest ≡ held_blocks s (reference_in s (b + 1) ys) m ds) → rest ≡ held_blocks s None m ds
    after zero ys ds rest g none again = none refl
    after (suc m) ys ds rest g none again =
        elim (bool_cases (begins_segment s (b + 1))) [
          | inl f ↦ absurd (let i = last_of_segment s b h f in omega arith)
          | inr f ↦ let i = one_less_left s b h f in again (omega arith) ∙ ap (λ r. held_blocks s r (suc m) ds) (none_inside s (b + 1) ys f)
        ]

-- the reference after it
the_reference : (coder : CoderState) (b : ℕ) (held : List ℤ) (p x : ℤ) → place coder.setting b ≡ coder.start → coder.residuals ≡ residuals coder.setting (coder.setting.block * b) p held →
    coder.reference ≡ reference_in coder.setting b held → next_reference coder x ≡ reference_in coder.setting b (held ++ x ∷ [])
the_reference coder b [] p x e f g = grind (arith, common_steps)
the_reference coder b (y ∷ ys) p x e f g = grind (arith, common_steps, and-false)

-- one sample more is held
pub one_more : (coder : CoderState) (b : ℕ) (coded held : List ℤ) (x : ℤ) → HasCodedBefore coder b coded held
    → length held < coder.setting.block * blocks_left coder.setting b → IsSample coder.setting x → HasCodedBefore (state_after coder x) b coded (held ++ x ∷ [])
one_more coder b coded held x h k legal =
    let s = coder.setting in
    let j : 1 ≤ s.block = grind (arith, h.legal.block) in
    let more = append_assoc coded held (x ∷ []) in
    grind (arith, common_steps, length-residuals, common_steps, all_more, length-append, last_append, residuals_append, the_residual, the_reference)

-- a repeated sample fills a block
push_last : {X : Type 0} (n : ℕ) (x : X) (xs : List X) → xs ++ replicate (suc n) x ≡ (xs ++ x ∷ []) ++ replicate n x
push_last n x xs = sym (append_assoc xs (x ∷ []) (replicate n x))

-- a coder that holds samples holds its previous one n times more, if its segment has room for them
pub holds_fill : (coder : CoderState) (b : ℕ) (coded held : List ℤ) (n : ℕ) → HasCodedBefore coder b coded held → IsSample coder.setting coder.previous
    → (0 < n → is_empty coder.residuals ≡ false) → length held + n ≤ coder.setting.block * blocks_left coder.setting b →
    HasCodedBefore (state_with_fill coder n) b coded (held ++ replicate n coder.previous)
holds_fill coder b coded held zero h legal f k = grind (arith, common_steps, append-nil)
holds_fill coder b coded held (suc n) h legal f k =
    let x = coder.previous in
    let first = f (omega arith) in
    let more = one_more coder b coded held x h (omega arith) legal in
    let ref : next_reference coder x ≡ coder.reference = grind (arith, common_steps, and-false) in
    let later = not_first coder.residuals (next_residual coder x) in
    let same : next_residual (state_after coder x) x ≡ next_residual coder x = ap
    (λ v. cond coder.setting.preprocess (cond (v && coder.start == 0) 0 (rank coder.setting x x)) (pattern coder.setting x)) (later ∙ sym first) in
    let ih = holds_fill (state_after coder x) b coded (held ++ x ∷ []) n more legal (λ p. later) (omega (arith, length-append held (x ∷ []), k)) in
    let d = next_residual coder x in
    let state : state_with_fill (state_after coder x) n ≡ state_with_fill coder (suc n) = grind (arith, common_steps, push_last) in
    subst (λ v. HasCodedBefore v b coded (held ++ replicate (suc n) x)) state (subst (HasCodedBefore (state_with_fill (state_after coder x) n) b coded) (sym (push_last n x held)) ih)
  where
    not_first : (ds : List ℕ) (d : ℕ) → is_empty (ds ++ d ∷ []) ≡ false
    not_first [] d = refl
    not_first (e ∷ ds) d = refl
