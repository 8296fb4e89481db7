-- How the coded data sets of a segment lie: one after the other, and padded where they end an interval.
use Rattle.std.proofs.Common.{◌≡◌, ℕ, suc, ◌+◌, ◌-◌, ◌*◌, ◌<◌, ◌≤◌, ◌==◌, min, false, cond, ◌&&◌, List, [], ◌∷◌, ◌++◌, length, replicate, ap, arith, sym, ◌∙◌, subst, append_assoc, append-nil}
use Rattle.std.proofs.Common.{length-append, None, Some}
use Rattle.rice_code.proofs.Words.{nat_tests, cases_lt, mod-lt, mod-eq_of_lt, mul-le-mul_left, mod_self, bits_to_byte, Parameters, IsLegal, place, blocks_left, is_padded, BlockData, zero_block}
use Rattle.rice_code.proofs.Words.{data_sets, CodedDataSet, bits_of_set, bits_of_sets, AreTaken, blocks_in_all, AreSoundBlocks, block_after, padding, layout, common_steps}
use Rattle.rice_code.proofs.lemmas.{code.Layouts.BeginBefore, code.Layouts.ends_inside, code.Layouts.some_block, meaning.SentSetsAreTaken.are_taken, meaning.SentSetsAreTaken.begin_before}
use Rattle.rice_code.proofs.lemmas.{meaning.CoveredBlocks.covers_blocks, code.SegmentPlaces.none_padded, cost.PaddingBounds.are_blocks}

-- only the last can be padded, since the others end inside
laid_to_end : (s : Parameters) (end b position : ℕ) (d : CodedDataSet) (ds : List CodedDataSet) → ((m : ℕ) → b < m → m < end → is_padded s m ≡ false)
    → BeginBefore s end b (d ∷ ds) → end ≤ b + length (blocks_in_all s b (d ∷ ds)) →
    layout s end b position (d ∷ ds) ≡ bits_of_sets s (d ∷ ds) ++ replicate (padding s end (position + length (bits_of_sets s (d ∷ ds)))) false
laid_to_end s end b position d [] none h le = grind (arith, common_steps, ends_inside, append-nil)
laid_to_end s end b position d (c ∷ ds) none h le =
    let next = block_after s b d in
    let t = bits_of_set s d in
    let more = bits_of_sets s (c ∷ ds) in
    let whole = ends_inside s b d (c ∷ ds) in
    let some = some_block s b d in
    let before : next < end = h.1.0 in
    let e : min end next ≡ next = omega arith in
    let nothing : padding s next (position + length t) ≡ 0 = ap (λ v. cond v (bits_to_byte (position + length t)) 0) (none next (omega arith) before) in
    let ih = laid_to_end s end next (position + length t) c ds (λ m p q. none m (omega arith) q) h.1 (omega arith) in
    grind (arith, common_steps, length-append, common_steps, append_assoc)

-- the same, where there are blocks
laid_some : (s : Parameters) (end b position : ℕ) (ds : List CodedDataSet) → b < end → ((m : ℕ) → b < m → m < end → is_padded s m ≡ false)
    → BeginBefore s end b ds → end ≤ b + length (blocks_in_all s b ds) →
    layout s end b position ds ≡ bits_of_sets s ds ++ replicate (padding s end (position + length (bits_of_sets s ds))) false
laid_some s end b position [] lt none h le = absurd (omega arith)
laid_some s end b position (d ∷ ds) lt none h le = laid_to_end s end b position d ds none h le

-- the blocks of a segment up to its end, or to the last of all blocks
pub laid_segment : (s : Parameters) (start position : ℕ) (cs : List BlockData) → IsLegal s → AreSoundBlocks s start cs → 1 ≤ length cs → length cs ≤ blocks_left s start →
    layout s (start + length cs) start position (data_sets s start false cs) ≡ bits_of_sets s (data_sets s start false cs) ++ replicate
    (padding s (start + length cs) (position + length (bits_of_sets s (data_sets s start false cs)))) false
laid_segment s start position cs legal sound some few =
    let end = start + length cs in
    let ds = data_sets s start false cs in
    let j : 1 ≤ s.block = grind (arith, legal.block) in
    let cover = covers_blocks s start false cs legal.interval_from (are_blocks s start cs sound) in
    let here : start + 0 ≡ start = omega arith in
    let all : length (blocks_in_all s (start + 0) ds) ≡ length (cs ++ replicate cover.fill (zero_block s None)) = ap length cover.blocks in
    let reach : end ≤ start + length (blocks_in_all s start ds) = omega (arith, ap (λ m. length (blocks_in_all s m ds)) here, all, length-append cs (replicate cover.fill (zero_block s None))) in
    let taken = are_taken s (Some (s.block * end)) start false cs legal.interval_from sound
    (λ i lt. let m : s.block * suc i ≤ s.block * end = mul-le-mul_left s.block (omega arith) in less s.block i _ j m) in
    let begin = begin_before s end start ds (subst (λ m. AreTaken s (Some (s.block * end)) m ds) here taken) in
    let inside = λ (m : ℕ) (p : start < m) (q : m < end).
    (let e : start + (m - start) ≡ m = omega arith in sym (ap (is_padded s) e) ∙ none_padded s start (m - start) legal.interval_from (omega arith) (omega arith)) in
    laid_some s end start position ds (omega arith) inside begin reach
  where
    less : (j i m : ℕ) → 1 ≤ j → j * suc i ≤ m → j * i < m
    less j i m h k = omega arith

-- padding goes by the place alone, which at a segment's end is tested by a sum
pub padded_at_end : (s : Parameters) (start count bits : ℕ) → start < s.interval → 1 ≤ count → start + count ≤ s.interval →
    padding s (start + count) bits ≡ cond (s.pad && start + count == s.interval) (bits_to_byte bits) 0
padded_at_end s start count bits lt some le = grind (arith, common_steps, cases_lt, mod-eq_of_lt, mod_self, nat_tests)

-- a segment stays in its interval
inside_interval : (s : Parameters) (start count : ℕ) → start < s.interval → place s start ≡ start → count ≤ blocks_left s start → start + count ≤ s.interval
inside_interval s start count lt at few = grind (arith, common_steps)

-- the code of blocks of a segment: their texts, and zeros up to a byte where they end an interval and intervals are padded
pub code_lies : {s : Parameters} {start : ℕ} (position : ℕ) {count : ℕ} (cs : List BlockData) → length cs ≡ count → IsLegal s → place s start ≡ start → AreSoundBlocks s start cs
    → count ≤ blocks_left s start → bits_of_sets s (data_sets s start false cs) ++ replicate
    (cond (s.pad && start + count == s.interval) (bits_to_byte (position + length (bits_of_sets s (data_sets s start false cs)))) 0) false ≡ layout s
    (start + count) start position (data_sets s start false cs)
code_lies {s} {start} position {count} [] e legal at sound few = grind (arith, common_steps, mod-lt, nat_tests)
code_lies {s} {start} position {count} (c ∷ cs) e legal at sound few =
    let ds = data_sets s start false (c ∷ cs) in
    let bits = position + length (bits_of_sets s ds) in
    let lt : start < s.interval = omega (arith, at, mod-lt start legal.interval_from) in
    let l = laid_segment s start position (c ∷ cs) legal sound (omega arith) (omega arith) in
    grind (arith, common_steps, padded_at_end, inside_interval, common_steps)
