-- Zero blocks that are pending until their run ends.
use Rattle.std.proofs.Common.{◌≡◌, ℕ, zero, suc, ◌+◌, ◌*◌, ◌<◌, ◌≤◌, ◌==◌, true, false, not, ◌&&◌, List, [], ◌∷◌, ◌++◌, length, take, drop, replicate, refl, ap, arith, sym, ◌∙◌, inl, inr, subst}
use Rattle.std.proofs.Common.{append-nil, length-append, Option, None}
use Rattle.rice_code.proofs.Words.{list_all, nat_tests, length-replicate, drop-drop, Parameters, begins_segment, blocks_left, one_less_left, last_of_segment, BlockData, is_zero_block, zero_block}
use Rattle.rice_code.proofs.Words.{data_sets, zero_run, run_len, shortest, run_of_blocks, pending_zeros, pending_run, held_blocks, reference_at, block_with, AreSoundBlocks, common_steps}
use Rattle.rice_code.proofs.lemmas.meaning.CoveredBlocks.{bool_cases, skipped, run_cons, skipped_go, skipped_plain, skipped_nil, data_sets_inside, data_sets_start, data_sets_plain}

-- zeros alone are zero
pub zeros_are_zero : (n : ℕ) → list_all (λ d. d == 0) (replicate n 0) ≡ true
zeros_are_zero zero = refl
zeros_are_zero (suc n) = zeros_are_zero n

-- a block of zeros is a zero block, with a reference or without
pub is_zero_zeros : (s : Parameters) (r : Option ℕ) → is_zero_block (zero_block s r) ≡ true
is_zero_zeros s r = zeros_are_zero s.block

-- inside a segment nothing is sent for the zero blocks of a run
pub skip_zeros : (s : Parameters) (b w : ℕ) (rest : List BlockData) → 1 ≤ s.interval → suc w ≤ blocks_left s b →
    data_sets s (b + 1) true (replicate w (zero_block s None) ++ rest) ≡ data_sets s (b + 1 + w) true rest
skip_zeros s b zero rest h k = let e : b + 1 ≡ b + 1 + 0 = omega arith in ap (λ n. data_sets s n true rest) e
skip_zeros s b (suc w) rest h k =
    elim (bool_cases (begins_segment s (b + 1))) [
      | inl e ↦ absurd (let f = last_of_segment s b h e in omega arith)
      | inr e ↦
          let f = one_less_left s b h e in
          let n : b + 1 + 1 + w ≡ b + 1 + suc w = omega arith in
          data_sets_inside s (b + 1) true (zero_block s None) (replicate w (zero_block s None) ++ rest) (is_zero_zeros s None) (ap (λ v. true && not v) e)
          ∙ (skip_zeros s (b + 1) w rest h (omega arith) ∙ ap (λ n. data_sets s n true rest) n)
    ]

-- and they are counted
pub count_zeros : (s : Parameters) (b w : ℕ) (rest : List BlockData) → 1 ≤ s.interval → suc w ≤ blocks_left s b →
    skipped s (b + 1) true (replicate w (zero_block s None) ++ rest) ≡ w + skipped s (b + 1 + w) true rest
count_zeros s b zero rest h k = let e : b + 1 + 0 ≡ b + 1 = omega arith in omega (arith, ap (λ n. skipped s n true rest) e)
count_zeros s b (suc w) rest h k =
    elim (bool_cases (begins_segment s (b + 1))) [
      | inl e ↦ absurd (let f = last_of_segment s b h e in omega arith)
      | inr e ↦
          let f = one_less_left s b h e in
          let ahead = replicate w (zero_block s None) ++ rest in
          let n : b + 1 + 1 + w ≡ b + 1 + suc w = omega arith in
          let more : skipped s (b + 1) true (replicate (suc w) (zero_block s None) ++ rest) ≡ suc (skipped s (b + 1 + 1) true ahead) = skipped_go s (b + 1) true
          (zero_block s None) ahead h (is_zero_zeros s None) (ap (λ v. true && not v) e) in
          omega (arith, more, count_zeros s (b + 1) w rest h (omega arith), ap (λ n. skipped s n true rest) n)
    ]

-- a run that ends before the segment and the list do
run_before : (s : Parameters) (b w : ℕ) (r : Option ℕ) (cs : List BlockData) → run_len s b cs ≡ suc w → suc w < blocks_left s b → suc w < length cs → zero_run s b r cs ≡ run_of_blocks false r (suc w)
run_before s b w r cs e h k = grind (arith, common_steps, nat_tests)

run_at_end : (s : Parameters) (b w : ℕ) (r : Option ℕ) (cs : List BlockData) → run_len s b cs ≡ suc w → suc w ≡ length cs → zero_run s b r cs ≡ run_of_blocks true r (suc w)
run_at_end s b w r cs e k = grind (arith, common_steps, nat_tests)

-- zero blocks, and then a block that is not zero
pub run_then_block : (s : Parameters) (b run : ℕ) (r : Option ℕ) (c : BlockData) (cs : List BlockData) → 1 ≤ s.interval → run < blocks_left s b → is_zero_block c ≡ false →
    data_sets s b false (pending_zeros s r run ++ c ∷ cs) ≡ pending_run false r run ++ shortest s c ∷ data_sets s (b + run + 1) false cs
run_then_block s b zero r c cs h k z = grind (arith, common_steps, data_sets_plain)
run_then_block s b (suc w) r c cs h k z =
    let rest = replicate w (zero_block s None) ++ c ∷ cs in
    let len : length rest ≡ w + suc (length cs) = length-append (replicate w (zero_block s None)) (c ∷ cs) ∙ ap (λ n. n + suc (length cs)) (length-replicate w (zero_block s None)) in
    let counted : skipped s (b + 1) true rest ≡ w = omega (arith, count_zeros s b w (c ∷ cs) h (omega arith), skipped_plain s (b + 1 + w) true c cs h z) in
    let count = run_cons s b (zero_block s r) rest h (is_zero_zeros s r) ∙ ap (λ v. suc v) counted in
    let n : b + 1 + w + 1 ≡ b + suc w + 1 = omega arith in
    data_sets_start s b false (zero_block s r) rest (is_zero_zeros s r) refl
    ∙ (λ i. run_before s b w r (zero_block s r ∷ rest) count k (omega arith) i
    ∷ (skip_zeros s b w (c ∷ cs) h (omega arith) ∙ (data_sets_plain s (b + 1 + w) true c cs z ∙ ap (λ m. shortest s c ∷ data_sets s m false cs) n)) i)

-- zero blocks at the end
pub run_ends : (s : Parameters) (b run : ℕ) (r : Option ℕ) → 1 ≤ s.interval → run ≤ blocks_left s b → data_sets s b false (pending_zeros s r run) ≡ pending_run true r run
run_ends s b zero r h k = refl
run_ends s b (suc w) r h k =
    let bare = replicate w (zero_block s None) in
    let same : bare ++ [] ≡ bare = append-nil bare in
    let len = length-replicate w (zero_block s None) in
    let counted : skipped s (b + 1) true (bare ++ []) ≡ w = omega (arith, count_zeros s b w [] h (omega arith), skipped_nil s (b + 1 + w) true) in
    let count = run_cons s b (zero_block s r) bare h (is_zero_zeros s r) ∙ ap (λ v. suc v) (sym (ap (λ l. skipped s (b + 1) true l) same) ∙ counted) in
    data_sets_start s b false (zero_block s r) bare (is_zero_zeros s r) refl
    ∙ (λ i. run_at_end s b w r (zero_block s r ∷ bare) count (omega arith) i ∷ (sym (ap (λ l. data_sets s (b + 1) true l) same) ∙ skip_zeros s b w [] h (omega arith)) i)

replicate_push : {X : Type 0} (n : ℕ) (x : X) (xs : List X) → replicate n x ++ x ∷ xs ≡ x ∷ (replicate n x ++ xs)
replicate_push zero x xs = refl
replicate_push (suc n) x xs = ap (λ l. x ∷ l) (replicate_push n x xs)

-- one more zero block is pending
pub zero_block_joins_run : (s : Parameters) (run : ℕ) (r q : Option ℕ) (c : BlockData) (cs : List BlockData) → c ≡ zero_block s q → (run ≡ 0 → q ≡ r)
    → (0 < run → q ≡ None) → pending_zeros s r run ++ c ∷ cs ≡ pending_zeros s r (run + 1) ++ cs
zero_block_joins_run s zero r q c cs e f g = ap (λ c. c ∷ cs) (e ∙ ap (zero_block s) (f refl))
zero_block_joins_run s (suc w) r q c cs e f g =
    let h : zero_block s r ∷ (replicate w (zero_block s None) ++ c ∷ cs) ≡ zero_block s r ∷ (zero_block s None ∷ (replicate w (zero_block s None) ++ cs)) =
    grind (arith, common_steps, zero_block, replicate_push) in
    let n : suc (suc w) ≡ suc w + 1 = omega arith in
    h ∙ ap (λ n. pending_zeros s r n ++ cs) n

-- the block with number i
pub held_at : (s : Parameters) (r : Option ℕ) (n i : ℕ) (ds : List ℕ) → i < n
    → drop i (held_blocks s r n ds) ≡ block_with (reference_at r i) (take s.block (drop (i * s.block) ds)) ∷ drop (i + 1) (held_blocks s r n ds)
held_at s r zero i ds h = absurd (omega arith)
held_at s r (suc n) zero ds h = grind (arith, common_steps)
held_at s r (suc n) (suc i) ds h = grind (arith, common_steps, drop-drop, held_at s None n i (drop s.block ds) (omega arith))

-- as many blocks are held as are counted
pub held_len : (s : Parameters) (r : Option ℕ) (n : ℕ) (ds : List ℕ) → length (held_blocks s r n ds) ≡ n
held_len s r zero ds = refl
held_len s r (suc n) ds = ap (λ n. suc n) (held_len s None n (drop s.block ds))

-- sound blocks without the first i are sound from block b + i on
pub drop_sound : (s : Parameters) (b i : ℕ) (cs : List BlockData) → AreSoundBlocks s b cs → AreSoundBlocks s (b + i) (drop i cs)
drop_sound s b zero cs h = let e : b ≡ b + 0 = omega arith in subst (λ n. AreSoundBlocks s n cs) e h
drop_sound s b (suc i) [] h = tt
drop_sound s b (suc i) (c ∷ cs) h = let e : b + 1 + i ≡ b + suc i = omega arith in subst (λ n. AreSoundBlocks s n (drop i cs)) e (drop_sound s (b + 1) i cs h.1)
