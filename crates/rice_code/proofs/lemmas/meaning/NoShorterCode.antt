-- No bits that decode to samples are fewer than the code of these samples.
use Rattle.std.proofs.Common.{◌≡◌, ℕ, zero, suc, ◌+◌, ◌-◌, ◌*◌, ◌%◌, ◌<◌, ◌≤◌, Bool, true, false, List, [], ◌∷◌, ◌++◌, length, take}
use Rattle.std.proofs.Common.{drop, replicate, refl, ap, arith, sym, ◌∙◌, ◌⊎◌, inl, inr, append_assoc, length-append, length-drop, subst, Option, Some, None, ℤ, pos}
use Rattle.rice_code.proofs.Words.{next_multiple_of, drop-append-le, length-replicate, length-take-le, take-append-drop, take-append-le, mod-lt, mod_self, take-append-add, take-length, bits_to_byte}
use Rattle.rice_code.proofs.Words.{bits_of-padded, length-bits_of, Parameters, IsLegal, block_count, residuals, last_of, filled_samples, length-residuals, NoCodeIsShorter, NoOutputIsShorter}
use Rattle.rice_code.proofs.Words.{block_data, blocks_from, blocks_of, code, output, sets_of, CodedDataSet, AreTaken, Decoded, Ending, cut_to, blocks_in_all, block_after, common_steps}
use Rattle.rice_code.proofs.lemmas.{code.RepeatedSamples.last_after, code.RepeatedSamples.repeated_all, code.SoundBlocks.count_blocks, code.SoundBlocks.filled_len, cost.LeastCode.ends_no_later}
use Rattle.rice_code.proofs.lemmas.cost.WhereSetsEnd.{padded_is, sent_padded, taken_padded}
use Rattle.rice_code.proofs.lemmas.cost.CostsOfSmallerBlocks.{AreAtMost, BeginAtMost, IsAtMost, at_most_itself}

-- ---- samples that repeat the last one have the least residuals

zeros_below : (n : ℕ) (ds : List ℕ) → length ds ≡ n → AreAtMost (replicate n 0) ds
zeros_below zero [] e = tt
zeros_below (suc n) (d ∷ ds) e = (omega arith, zeros_below n ds (omega arith))
zeros_below _ _ e = absurd (omega arith)

-- the last sample is predicted again, or no sample is filled
abbrev FillsLeast : Parameters → ℕ → Type 0
FillsLeast s k = (s.preprocess ≡ true) ⊎ (k ≡ 0)

residuals_at_most : (s : Parameters) (i k : ℕ) (p : ℤ) (xs zs : List ℤ) → FillsLeast s k → length zs ≡ k → AreAtMost (residuals s i p (xs ++ replicate k (last_of p xs))) (residuals s i p (xs ++ zs))
residuals_at_most s i k p [] zs way len = grind (arith, common_steps, repeated_all, zeros_below, length-residuals)
residuals_at_most s i k p (x ∷ xs) zs way len = (omega arith, residuals_at_most s (i + 1) k x xs zs way len)

data_at_most : (s : Parameters) (b k : ℕ) (p : ℤ) (xs zs : List ℤ) → 1 ≤ length xs → FillsLeast s k → length zs ≡ k
    → IsAtMost (block_data s b p (xs ++ replicate k (last_of p xs))) (block_data s b p (xs ++ zs))
data_at_most s b k p [] zs some way len = absurd (omega arith)
data_at_most s b k p (x ∷ xs) zs some way len = record { reference = refl; residuals = residuals_at_most s (s.block * b) k p (x ∷ xs) zs way len }

-- whole blocks first
first_block : (s : Parameters) (b n : ℕ) (p : ℤ) (xs zs : List ℤ) → s.block ≤ length xs →
    blocks_from s b p (suc n) (xs ++ zs) ≡ block_data s b p (take s.block xs) ∷ blocks_from s (b + 1) (last_of p (take s.block xs)) n (drop s.block xs ++ zs)
first_block s b n p xs zs le = grind (arith, common_steps, take-append-le, drop-append-le)

-- samples that are filled to whole blocks, and those with more samples
record FilledBlocks (s : Parameters) (m count k : ℕ) (xs ys : List ℤ) : Type 0 where
  block : 1 ≤ s.block
  least : FillsLeast s k
  few : k < s.block
  first : length xs + k ≡ s.block * m
  all : length xs + length ys ≡ s.block * count

-- the blocks of samples that are filled up are at most those of any samples that begin with them
blocks_begin : (s : Parameters) (b m count : ℕ) {k : ℕ} (p : ℤ) (xs ys : List ℤ) → FilledBlocks s m count k xs ys →
    BeginAtMost (blocks_from s b p m (xs ++ replicate k (last_of p xs))) (blocks_from s b p count (xs ++ ys))
blocks_begin s b zero count p xs ys filled = tt
blocks_begin s b (suc m) zero p xs ys filled = absurd (omega (arith, filled.few, filled.first, filled.all))
blocks_begin s b (suc zero) (suc count) {k} p xs ys filled = grind (arith, common_steps, length-append, length-replicate, take-length, take-append-add, length-take-le, data_at_most)
blocks_begin s b (suc (suc m)) (suc count) {k} p xs ys filled =
    let whole : s.block ≤ length xs = omega (arith, filled.few, filled.first) in
    let next = last_of p (take s.block xs) in
    let rest = drop s.block xs in
    let last = last_after p s.block xs in
    let own = ap (λ v. blocks_from s b p (suc (suc m)) (xs ++ replicate k v)) (sym last) ∙ first_block s b (suc m) p xs (replicate k (last_of next rest)) whole in
    let ih = blocks_begin s (b + 1) (suc m) count next rest ys (record {
      block = filled.block;
      least = filled.least;
      few = filled.few;
      first = omega (arith, filled.first, length-drop s.block xs, whole);
      all = omega (arith, filled.all, length-drop s.block xs, whole);
    }) in
    grind (arith, common_steps, common_steps, at_most_itself)

-- ---- and so has their code

taken_at_will : (s : Parameters) (asked : Option ℕ) (b : ℕ) (ds : List CodedDataSet) → AreTaken s asked b ds → AreTaken s None b ds
taken_at_will s asked b [] h = tt
taken_at_will s asked b (d ∷ ds) h = (tt, h.1, h.2, h.3, taken_at_will s asked (block_after s b d) ds h.4)

-- samples that decoding gives begin all those of the coded data sets
all_begin : (s : Parameters) (asked : Option ℕ) (all xs more : List ℤ) → xs ++ more ≡ cut_to s asked 0 all → (ys : List ℤ) × (all ≡ xs ++ ys)
all_begin s None all xs more e = (more, sym e)
all_begin s (Some n) all xs more e =
    let m = n - s.block * 0 in
    (more ++ drop m all, sym (take-append-drop m all) ∙ (ap (λ l. l ++ drop m all) (sym e) ∙ append_assoc xs more (drop m all)))

-- how many samples are filled
fill_of : (n j k : ℕ) → 1 ≤ j → k ≡ next_multiple_of n j - n → (k < j) × (n % j ≡ 0 → k ≡ 0)
fill_of n j k h e = grind (arith, common_steps, mod-lt, mod_self)

-- the bits of the coded data sets from which samples were decoded
pub sets_are_no_shorter : {s : Parameters} → IsLegal s → 4 ≤ s.block → (xs more : List ℤ) → (s.preprocess ≡ true) ⊎ (length xs % s.block ≡ 0)
    → {bits : List Bool} {asked : Option ℕ} {ending : Ending} {used : ℕ} →
    (h : Decoded s bits asked (xs ++ more) ending used) → length (code s xs) ≤ length h.front
sets_are_no_shorter {s} legal size xs more way {asked} h =
    let j : 1 ≤ s.block = grind (arith, legal.block) in
    let m = block_count s (length xs) in
    let k = next_multiple_of (length xs) s.block - length xs in
    let last = last_of (pos 0) xs in
    let count = length (blocks_in_all s 0 h.sets) in
    let parted = all_begin s asked h.all xs more h.asked_for in
    let filled = fill_of (length xs) s.block k j refl in
    let least_fill : FillsLeast s k = elim way [ inl on ↦ inl on | inr whole ↦ inr (filled.1 whole) ] in
    let len : length xs + k ≡ s.block * m = omega (arith, filled_len s (pos 0) xs j, length-append xs (replicate k last), length-replicate k last) in
    let all : length xs + length parted.0 ≡ s.block * count = omega (arith, h.len, ap length parted.1, length-append xs parted.0) in
    let below = blocks_begin s 0 m count (pos 0) xs parted.0 (record { block = j; least = least_fill; few = filled.0; first = len; all = all }) in
    let theirs = ap (λ l. blocks_from s 0 (pos 0) count l) (sym parted.1) ∙ h.blocks in
    let cs = blocks_of s 0 (pos 0) xs in
    let end : 0 + m ≡ 0 + length cs = omega (arith, count_blocks s 0 (pos 0) m (filled_samples s (pos 0) xs)) in
    omega (
      arith,
      ends_no_later (record { legal = legal; block = size; fill_is = padded_is s legal.interval_from }) 0 {p = 0} {q = 0} cs h.sets end (omega arith) (taken_at_will s asked 0 h.sets h.taken)
          (subst (λ l. BeginAtMost cs l) theirs below),
      sent_padded s (0 + m) 0 0 (sets_of s xs),
      taken_padded s 0 0 h.sets h.front h.lie,
    )

-- With blocks of 4 samples or more, preprocessed or all full, bits that decode to samples, and perhaps to others after them, use no fewer bits than their code has.
pub no_code_is_shorter : NoCodeIsShorter
no_code_is_shorter s legal size xs more way bits asked ending used h = omega (arith, sets_are_no_shorter legal size xs more way h, h.bits_used)

-- and no bytes that decode so are fewer than the output of these samples
pub no_output_is_shorter : NoOutputIsShorter
no_output_is_shorter s legal size xs more way bytes asked ending used h =
    let own = code s xs in
    let own_bytes = output s xs in
    let fill = bits_to_byte (length own) in
    omega (
      arith,
      sets_are_no_shorter legal size xs more way h,
      ap length h.parts,
      length-append h.front h.rest,
      length-bits_of bytes,
      length-bits_of own_bytes,
      ap length (bits_of-padded own),
      length-append own (replicate fill false),
      length-replicate fill false,
    )
