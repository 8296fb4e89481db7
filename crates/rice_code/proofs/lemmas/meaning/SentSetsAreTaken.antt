-- The coded data sets that a coder sends are ones that a decoder takes.
use Rattle.std.proofs.Common.{◌≡◌, ℕ, suc, ◌+◌, ◌-◌, ◌*◌, ◌<◌, ◌≤◌, Bool, true, false, not, ◌&&◌, nat_le, nat_lt, map, List, [], ◌∷◌, length, ap, arith, sym, ◌∙◌, inl, inr, subst, Option, Some, None}
use Rattle.rice_code.proofs.Words.{range_with_len, AllByRecursion, cases_lt, length-replicate, mul-le-mul_left, Parameters, k_max, begins_segment, some_left, BlockData, is_zero_block, zero_block}
use Rattle.rice_code.proofs.Words.{CodedDataSet, NoCompression, Split, cost, IsForm, IsReference, RunIsSound, ResidualsAreSound, blocks_in, zero_blocks, block_after, shortest, other_options}
use Rattle.rice_code.proofs.lemmas.meaning.CoveredBlocks.{bool_cases, skipped, data_sets_plain, data_sets_start, data_sets_inside, skipped_plain, skipped_go, skipped_stop, zero_run_is, best_keeps}
use Rattle.rice_code.proofs.Words.{data_sets, zero_run, run_len, IsWanted, AreTaken, IsSoundBlock, AreSoundBlocks, common_steps}
use Rattle.rice_code.proofs.lemmas.meaning.CoveredBlocks.{run_cons, run_inside, shortest_covers, nothing_more}
use Rattle.rice_code.proofs.lemmas.{cost.BlockBounds.shortest_is_form, code.Layouts.BeginBefore}

-- a form that is sound
abbrev pub IsSound : Parameters → ℕ → CodedDataSet → Type 0
IsSound s b d = IsForm s b d × RunIsSound s b d × ResidualsAreSound s d

shortest_is_sound : (s : Parameters) (b : ℕ) (c : BlockData) → IsSoundBlock s b c → IsSound s b (shortest s c)
shortest_is_sound s b c h =
    let p = best_keeps (λ d. RunIsSound s b d × ResidualsAreSound s d) (λ x y. nat_lt (cost s x) (cost s y)) (NoCompression c) (other_options s c)
    (tt, tt) ((tt, (h.at_reference, h.fit)), splits (range_with_len 0 (k_max s + 1))) in
    (shortest_is_form s b c h, p.0, p.1)
  where
    splits : (ks : List ℕ) → AllByRecursion (λ d. RunIsSound s b d × ResidualsAreSound s d) (map (λ k. Split k c) ks)
    splits [] = tt
    splits (k ∷ ks) = ((tt, h.fit), splits ks)

-- what is sent for a run of at least one zero block is a sound form
pub zero_run_is_sound : (s : Parameters) (b w : ℕ) (r : Option ℕ) (cs : List BlockData) → 1 ≤ s.interval → IsReference s b r → run_len s b cs ≡ suc w → IsSound s b (zero_run s b r cs)
zero_run_is_sound s b w r cs h k e = grind (arith, common_steps, bool_cases, nat_le, run_inside, some_left)

count_zeros : (s : Parameters) (r : Option ℕ) (z w : ℕ) → z ≡ suc w → length (zero_blocks s r z) ≡ suc w
count_zeros s r z w e = omega (arith, length-replicate (z - 1) (zero_block s None))

-- one more coded data set, and those after it
take_one : (s : Parameters) (asked : Option ℕ) (b : ℕ) {n : ℕ} (d : CodedDataSet) (ds : List CodedDataSet) → IsWanted s asked b → IsSound s b d
    → length (blocks_in s b d) ≡ suc n → AreTaken s asked (b + 1 + n) ds → AreTaken s asked b (d ∷ ds)
take_one s asked b {n} d ds go sound e h = grind (arith, common_steps)

-- the coded data sets that are sent for sound blocks, all of them wanted, are taken from the first block on that no earlier run covers
pub are_taken : (s : Parameters) (asked : Option ℕ) (b : ℕ) (after : Bool) (cs : List BlockData) → 1 ≤ s.interval → AreSoundBlocks s b cs → ((i : ℕ) → i < b + length cs → IsWanted s asked i) →
    AreTaken s asked (b + skipped s b after cs) (data_sets s b after cs)
are_taken s asked b after [] h k go = tt
are_taken s asked b after (c ∷ cs) h k go =
    let P : ℕ → Type 0 = λ n. AreTaken s asked (b + n) (data_sets s b after (c ∷ cs)) in
    let Q : List CodedDataSet → Type 0 = λ ds. AreTaken s asked b ds in
    let at = λ (ds : List CodedDataSet) (e : skipped s b after (c ∷ cs) ≡ 0) (f : data_sets s b after (c ∷ cs) ≡ ds) (g : AreTaken s asked b ds). zero_more s
    asked b (data_sets s b after (c ∷ cs)) (skipped s b after (c ∷ cs)) e (subst Q (sym f) g) in
    let here : IsWanted s asked b = go b (omega arith) in
    let later = λ (i : ℕ) (lt : i < b + 1 + length cs). go i (omega arith) in
    elim (bool_cases (is_zero_block c)) [
      | inr z ↦
          let ih = are_taken s asked (b + 1) false cs h k.1 later in
          let rest = data_sets s (b + 1) false cs in
          at (shortest s c ∷ rest) (skipped_plain s b after c cs h z) (data_sets_plain s b after c cs z)
          (take_one s asked b (shortest s c) rest here (shortest_is_sound s b c k.0) (ap length (shortest_covers s b c)) ih)
      | inl z ↦
          let ih = are_taken s asked (b + 1) true cs h k.1 later in
          let j = skipped s (b + 1) true cs in
          let rest = data_sets s (b + 1) true cs in
          let len = run_cons s b c cs h z in
          elim (bool_cases (after && not (begins_segment s b))) [
            | inl go_on ↦
                let n : b + 1 + j ≡ b + suc j = omega arith in
                let m : b + suc j ≡ b + skipped s b after (c ∷ cs) = ap (λ x. b + x) (sym (skipped_go s b after c cs h z go_on)) in
                let R : ℕ → Type 0 = λ x. AreTaken s asked x rest in
                let T : List CodedDataSet → Type 0 = λ ds. AreTaken s asked (b + skipped s b after (c ∷ cs)) ds in
                subst T (sym (data_sets_inside s b after c cs z go_on)) (subst R (n ∙ m) ih)
            | inr stop ↦
                let d = zero_run s b c.reference (c ∷ cs) in
                let sound = zero_run_is_sound s b j c.reference (c ∷ cs) h k.0.block.reference len in
                at (d ∷ rest) (skipped_stop s b after (c ∷ cs) stop) (data_sets_start s b after c cs z stop)
                (elim (zero_run_is s b c.reference (c ∷ cs)) [
                  | inl e ↦ take_one s asked b d rest here sound (ap (λ d. length (blocks_in s b d)) e ∙ count_zeros s c.reference (run_len s b (c ∷ cs)) j len) ih
                  | inr e ↦ grind (arith, common_steps, count_zeros, nothing_more)
                ])
          ]
    ]
  where
    zero_more : (s : Parameters) (asked : Option ℕ) (b : ℕ) (ds : List CodedDataSet) (n : ℕ) → n ≡ 0 → AreTaken s asked b ds → AreTaken s asked (b + n) ds
    zero_more s asked b ds n e h = let R : ℕ → Type 0 = λ m. AreTaken s asked m ds in let f : b ≡ b + n = omega arith in subst R f h

-- those that are taken before a block begin before it
pub begin_before : (s : Parameters) (end b : ℕ) (ds : List CodedDataSet) → AreTaken s (Some (s.block * end)) b ds → BeginBefore s end b ds
begin_before s end b [] h = tt
begin_before s end b (d ∷ ds) h =
    let before : b < end = elim (cases_lt b end) [ inl l ↦ l | inr le ↦ let m : s.block * end ≤ s.block * b = mul-le-mul_left s.block le in absurd (omega arith) ] in
    (before, begin_before s end (block_after s b d) ds h.4)
