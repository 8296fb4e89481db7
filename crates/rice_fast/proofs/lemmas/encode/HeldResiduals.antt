-- The blocks of residuals that a coder holds, and what it holds after several samples.
use Rattle.rice_fast.proofs.Words.{◌≡◌, ℕ, zero, suc, ◌+◌, ◌-◌, ◌*◌, ◌/◌, ◌%◌, ◌<◌, ◌≤◌, ◌==◌, Bool, true, false, cond, ◌&&◌, List, [], ◌∷◌, ◌++◌, length, take, drop, replicate, refl, ap, arith, sym}
use Rattle.rice_fast.proofs.Words.{nil_from_length, drop-append-le}
use Rattle.rice_fast.proofs.Words.{◌∙◌, subst, inl, inr, append-nil, Option, Some, None, ℤ, AllByRecursion, cases_lt, nat_tests, take-append-le, take_all, mod_self, mul-mod_right, mul-div_cancel_left}
use Rattle.rice_fast.proofs.Words.{mul-le-mul_left, Parameters, IsSample, blocks_left, pattern, rank, fill_count, AreSoundBlocks, block_with, IsCoder, held_blocks, reference_at, CoderState}
use Rattle.rice_fast.proofs.Words.{HoldsSoundBlocks, is_empty, later_residuals, next_residual, next_reference, state_after, state_after_all, state_with_fill, last_replicate, filled_sound}
use Rattle.rice_fast.proofs.Words.{several_stay_open, whole_is_sound, length-state_after_all, state_after_all-cons, state_after_all-none}
use Rattle.std.proofs.Common.{length-drop}

-- after whole blocks more residuals make no difference
pub held_more : (s : Parameters) (r : Option ℕ) (n : ℕ) (ds es : List ℕ) → s.block * n ≤ length ds → held_blocks s r n (ds ++ es) ≡ held_blocks s r n ds
held_more s r zero ds es h = refl
held_more s r (suc n) ds es h =
    let first : take s.block (ds ++ es) ≡ take s.block ds = take-append-le s.block ds es (omega arith) in
    let rest = ap (held_blocks s None n) (drop-append-le s.block ds es (omega arith)) ∙ held_more s None n (drop s.block ds) es (omega (arith, length-drop s.block ds)) in
    λ i. block_with r (first i) ∷ rest i

reference_none : (n : ℕ) → reference_at None n ≡ None
reference_none zero = refl
reference_none (suc n) = refl

-- a block more
pub held_next : (s : Parameters) (r : Option ℕ) (n : ℕ) (ds es : List ℕ) → length ds ≡ s.block * n → length es ≡ s.block
    → held_blocks s r (n + 1) (ds ++ es) ≡ held_blocks s r n ds ++ block_with (reference_at r n) es ∷ []
held_next s r zero ds es h k =
    let none = nil_from_length ds (omega arith) in
    let first : take s.block (ds ++ es) ≡ es = ap (λ v. take s.block (v ++ es)) none ∙ take_all s.block es (omega (arith, k)) in
    ap (λ v. block_with r v ∷ []) first
held_next s r (suc n) ds es h k =
    let e : suc n + 1 ≡ suc (n + 1) = omega arith in
    let first : take s.block (ds ++ es) ≡ take s.block ds = take-append-le s.block ds es (omega arith) in
    let rest = ap (held_blocks s None (n + 1)) (drop-append-le s.block ds es (omega arith)) ∙ held_next s None n (drop s.block ds) es (omega (arith, length-drop s.block ds)) k in
    let last = ap (λ q. held_blocks s None n (drop s.block ds) ++ block_with q es ∷ []) (reference_none n) in
    ap (λ m. held_blocks s r m (ds ++ es)) e ∙ λ i. block_with r (first i) ∷ (rest ∙ last) i

-- what a coder holds after samples, and after more
pub state_after_all-append : (coder : CoderState) (xs ys : List ℤ) → state_after_all coder (xs ++ ys) ≡ state_after_all (state_after_all coder xs) ys
state_after_all-append coder [] ys = ap (λ v. state_after_all v ys) (sym (state_after_all-none coder [] refl))
state_after_all-append coder (x ∷ xs) ys =
    sym (state_after_all-cons coder x (xs ++ ys))
    ∙ (state_after_all-append (state_after coder x) xs ys ∙ ap (λ v. state_after_all v ys) (state_after_all-cons coder x xs))

no_fill : (j n m : ℕ) → 1 ≤ j → m ≡ j * n → (j - m % j) % j ≡ 0
no_fill j n m some e =
    let z : m % j ≡ 0 = ap (λ v. v % j) e ∙ mul-mod_right j n in
    let same : j - 0 ≡ j = omega arith in
    ap (λ v. (j - v) % j) z ∙ (ap (λ v. v % j) same ∙ mod_self j)

-- nothing fills whole blocks
pub fill_none : (s : Parameters) (n m : ℕ) → 1 ≤ s.block → m ≡ s.block * n → fill_count s m ≡ 0
fill_none s n m some e = no_fill s.block n m some e

filled_none : (coder : CoderState) (n : ℕ) → n ≡ 0 → state_with_fill coder n ≡ coder
filled_none coder n e = λ i. record {
  setting = coder.setting;
  residuals = (ap (λ m. coder.residuals ++ replicate m (next_residual coder coder.previous)) e ∙ append-nil coder.residuals) i;
  reference = coder.reference;
  previous = coder.previous;
  start = coder.start;
}

-- whole blocks of samples that a coder takes are sound
pub sound_after : (coder : CoderState) (ys : List ℤ) (n : ℕ) → IsCoder coder → AllByRecursion (IsSample coder.setting) ys
    → length coder.residuals + length ys ≡ coder.setting.block * n → n ≤ blocks_left coder.setting coder.start → HoldsSoundBlocks (state_after_all coder ys)
sound_after coder ys n k legal whole few =
    let s = coder.setting in
    let one : 1 ≤ s.block = grind (arith, k.taken.holds.legal.block) in
    let most : s.block * n ≤ s.block * blocks_left s coder.start = mul-le-mul_left s.block few in
    let count = length-state_after_all coder ys in
    elim (cases_lt (length coder.residuals + length ys) (s.block * blocks_left s coder.start)) [
      | inl lt ↦
          let held = state_after_all coder ys in
          let open_still = several_stay_open coder ys k.samples k.taken legal lt in
          let none = fill_none s n (length held.residuals) one (omega (arith, count, whole)) in
          subst HoldsSoundBlocks (filled_none held (fill_count s (length held.residuals)) none) (filled_sound held (k.samples ++ ys) open_still.0)
      | inr le ↦ whole_is_sound coder coder (state_after_all coder ys) ys (record {
        same = refl;
        coded = k;
        legal = legal;
        room = omega (arith, whole, most);
        holds = refl;
      }) (omega (arith, count, whole, most, le))
    ]

-- so are the blocks of what it holds then
pub blocks_are_sound : (coder : CoderState) (n : ℕ) → 1 ≤ coder.setting.block → length coder.residuals ≡ coder.setting.block * n → HoldsSoundBlocks coder
    → AreSoundBlocks coder.setting coder.start (held_blocks coder.setting coder.reference n coder.residuals)
blocks_are_sound coder n one whole h =
    let s = coder.setting in
    let count : length coder.residuals / s.block ≡ n = ap (λ v. v / s.block) whole ∙ mul-div_cancel_left n one in
    subst (λ m. AreSoundBlocks s coder.start (held_blocks s coder.reference m coder.residuals)) count h.sound

-- no residual is held just where no block is, and no part of one
pub is_empty-by_counts : (ds : List ℕ) (j n held : ℕ) → 1 ≤ j → length ds ≡ j * n + held → is_empty ds ≡ (held == 0 && n == 0)
is_empty-by_counts [] j n held one e =
    let none : held ≡ 0 = omega arith in
    let blocks : n ≡ 0 = no_blocks j n one (omega (arith, e, none)) in
    sym (ap (λ v. v == 0 && n == 0) none ∙ ap (λ v. 0 == 0 && v == 0) blocks)
  where
    no_blocks : (j n : ℕ) → 1 ≤ j → j * n ≡ 0 → n ≡ 0
    no_blocks j zero one e = refl
    no_blocks j (suc n) one e = absurd (let m : j * suc n ≡ j * n + j = omega arith in omega (arith, m))
is_empty-by_counts (d ∷ ds) j n held one e = some_held j n held e
  where
    some_held : (j n held : ℕ) → suc (length ds) ≡ j * n + held → false ≡ (held == 0 && n == 0)
    some_held j zero zero e = absurd (omega arith)
    some_held j (suc n) zero e = grind (arith, nat_tests)
    some_held j n (suc held) e = grind (arith, nat_tests)

-- the residuals of one sample again and again after itself
pub later_copies : (s : Parameters) (n : ℕ) (x : ℤ) → later_residuals s x (replicate n x) ≡ replicate n (cond s.preprocess (rank s x x) (pattern s x))
later_copies s zero x = refl
later_copies s (suc n) x = ap (λ v. cond s.preprocess (rank s x x) (pattern s x) ∷ v) (later_copies s n x)

and-false : (v : Bool) → (v && false) ≡ false
and-false true = refl
and-false false = refl

-- the last sample repeated fills a block
pub fill_is_taken : (coder : CoderState) (n : ℕ) → (0 < n → is_empty coder.residuals ≡ false) → state_after_all coder (replicate n coder.previous) ≡ state_with_fill coder n
fill_is_taken coder zero some = refl
fill_is_taken coder (suc n) some =
    let x = coder.previous in
    let e = some (omega arith) in
    let later : next_residual coder x ≡ cond coder.setting.preprocess (rank coder.setting x x) (pattern coder.setting x) =
    ap (λ v. cond coder.setting.preprocess (cond (v && coder.start == 0) 0 (rank coder.setting x x)) (pattern coder.setting x)) e in
    let rest = later_copies coder.setting n x ∙ ap (replicate n) (sym later) in
    let head : next_reference coder x ≡ coder.reference =
    ap (λ v. cond (coder.setting.preprocess && (v && coder.start == 0)) (Some (pattern coder.setting x)) coder.reference) e
    ∙ ap (λ v. cond v (Some (pattern coder.setting x)) coder.reference) (and-false coder.setting.preprocess) in
    λ i. record { setting = coder.setting; residuals = coder.residuals ++ next_residual coder x ∷ rest i; reference = head i; previous = last_replicate x n i; start = coder.start }
