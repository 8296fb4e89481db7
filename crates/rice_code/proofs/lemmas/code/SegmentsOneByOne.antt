-- Segments are coded one by one: what stands after a segment's end changes nothing before it.
use Rattle.std.proofs.Common.{◌≡◌, ℕ, zero, suc, ◌+◌, ◌≤◌, Bool, true, cond, not, ◌&&◌, nat_le, List, [], ◌∷◌, ◌++◌, length, refl, ap, arith, sym, ◌∙◌, inl, inr, append_assoc, length-append, Option}
use Rattle.rice_code.proofs.Words.{take-append-le, Parameters, begins_segment, blocks_left, one_less_left, last_of_segment, BlockData, is_zero_block, shortest, data_sets, data_set_at, zero_run}
use Rattle.rice_code.proofs.{lemmas.meaning.CoveredBlocks.bool_cases, lemmas.meaning.CoveredBlocks.run_inside, Words.common_steps}

-- a segment that begins n blocks on ends the one before
pub ends_before : (s : Parameters) (b n : ℕ) → 1 ≤ s.interval → begins_segment s (b + suc n) ≡ true → blocks_left s b ≤ suc n
ends_before s b zero h e = let here = last_of_segment s b h e in omega arith
ends_before s b (suc n) h e =
    elim (bool_cases (begins_segment s (b + 1))) [
      | inl f ↦ let here = last_of_segment s b h f in omega arith
      | inr f ↦
          let next = ends_before s (b + 1) n h ((let k : b + 1 + suc n ≡ b + suc (suc n) = omega arith in ap (λ m. begins_segment s m) k) ∙ e) in
          let one = one_less_left s b h f in
          omega arith
    ]

same_run : (s : Parameters) (b : ℕ) (r : Option ℕ) (cs ds : List BlockData) → blocks_left s b ≤ length cs → zero_run s b r (cs ++ ds) ≡ zero_run s b r cs
same_run s b r cs ds h = grind (arith, common_steps, nat_le, take-append-le, run_inside, length-append)

-- at the head of a segment it makes no difference what stood before it
pub head_of_segment : (s : Parameters) (b : ℕ) (v w : Bool) (cs : List BlockData) → begins_segment s b ≡ true → data_sets s b v cs ≡ data_sets s b w cs
head_of_segment s b v w [] e = refl
head_of_segment s b v w (c ∷ cs) e = grind (arith, common_steps)

-- the coded data sets of whole segments, and of what follows
pub sets_of_segments : (s : Parameters) (b : ℕ) (v w : Bool) (cs ds : List BlockData) → 1 ≤ s.interval → begins_segment s (b + length cs) ≡ true →
    data_sets s b v (cs ++ ds) ≡ data_sets s b v cs ++ data_sets s (b + length cs) w ds
sets_of_segments s b v w [] ds h e = grind (arith, common_steps, head_of_segment)
sets_of_segments s b v w (c ∷ cs) ds h e =
    let n : b + suc (length cs) ≡ b + 1 + length cs = omega arith in
    let rest = sets_of_segments s (b + 1) (is_zero_block c) w cs ds h (ap (λ m. begins_segment s m) (sym n) ∙ e) in
    let first : data_set_at s b v c (cs ++ ds) ≡ data_set_at s b v c cs =
    ap (λ run. cond (is_zero_block c) (cond (v && not (begins_segment s b)) [] (run ∷ [])) (shortest s c ∷ [])) (same_run s b c.reference (c ∷ cs) ds (ends_before s b (length cs) h e)) in
    grind (arith, common_steps, append_assoc)
