-- How coded data sets lie: without padding their texts are joined, what is laid is taken, and each interval has seven bits of padding at most.
use Rattle.std.proofs.Common.{◌≡◌, ℕ, ◌+◌, ◌-◌, ◌*◌, ◌/◌, ◌%◌, ◌<◌, ◌≤◌, min, Bool, true, false, cond, List, [], ◌∷◌, ◌++◌, length, replicate, refl, ap, arith, sym, ◌∙◌, inl, inr, append_assoc}
use Rattle.std.proofs.Common.{append-nil, length-append}
use Rattle.rice_code.proofs.Words.{flat_map, sum_by, cases_lt, length-replicate, sum_by-cons, le-div, div-add-mod, div-mul-le_self, mul-le-mul_left, bits_to_byte, Parameters, common_steps, is_padded}
use Rattle.rice_code.proofs.Words.{CodedDataSet, NoCompression, SecondExtension, Split, ZeroBlocks, RemainderOfSegment, bits_of_set, blocks_in, blocks_in_all, block_after, padding, bits_with_padding}
use Rattle.rice_code.proofs.{lemmas.meaning.CoveredBlocks.bool_cases, lemmas.meaning.CoveredBlocks.and-split, Words.layout, Words.Lies, Words.eqb-true}

-- one coded data set, as it is sent
abbrev pub sent_first : Parameters → ℕ → ℕ → ℕ → CodedDataSet → List Bool
sent_first s end b position d = bits_with_padding s (min end (block_after s b d)) position d

-- where intervals are not padded, coded data sets are laid as their texts, one after the other
pub laid_plain : (s : Parameters) (end b position : ℕ) (ds : List CodedDataSet) → s.pad ≡ false → layout s end b position ds ≡ flat_map (bits_of_set s) ds
laid_plain s end b position [] e = refl
laid_plain s end b position (d ∷ ds) e = grind (arith, common_steps, append-nil, laid_plain s end (block_after s b d) (position + length (sent_first s end b position d)) ds e)

-- the blocks of the first of several coded data sets end no later than those of all
pub ends_inside : (s : Parameters) (b : ℕ) (d : CodedDataSet) (ds : List CodedDataSet) → block_after s b d + length (blocks_in_all s (block_after s b d) ds) ≡ b + length (blocks_in_all s b (d ∷ ds))
ends_inside s b d ds = omega (arith, length-append (blocks_in s b d) (blocks_in_all s (block_after s b d) ds))

-- where the blocks end makes no difference to coded data sets before that end
pub laid_inside : (s : Parameters) (m n b position : ℕ) (ds : List CodedDataSet) → b + length (blocks_in_all s b ds) ≤ m → b + length (blocks_in_all s b ds) ≤ n
    → layout s m b position ds ≡ layout s n b position ds
laid_inside s m n b position [] h k = refl
laid_inside s m n b position (d ∷ ds) h k =
    let next = block_after s b d in
    let whole = ends_inside s b d ds in
    let e : min m next ≡ min n next = omega arith in
    let first = ap (λ v. bits_with_padding s v position d) e in
    let rest = laid_inside s m n next (position + length (sent_first s m b position d)) ds (omega arith) (omega arith) in
    (λ i. sent_first s m b position d ++ rest i) ∙ (λ i. first i ++ layout s n next (position + length (first i)) ds)

-- each of them begins before block `end`
abbrev pub BeginBefore : Parameters → ℕ → ℕ → List CodedDataSet → Type 0
BeginBefore s end b [] = Unit {0}
BeginBefore s end b (d ∷ ds) = (b < end) × BeginBefore s end (block_after s b d) ds

-- what is laid before the end is taken
pub lies_inside : (s : Parameters) (end b position : ℕ) (ds : List CodedDataSet) → b + length (blocks_in_all s b ds) ≤ end → Lies s b position ds (layout s end b position ds)
lies_inside s end b position [] h = refl
lies_inside s end b position (d ∷ ds) h =
    let next = block_after s b d in
    let whole = ends_inside s b d ds in
    let e : min end next ≡ next = omega arith in
    let bits = position + length (bits_of_set s d) in
    let n = padding s (min end next) bits in
    let zeros = replicate n false in
    let rest = layout s end next (position + length (sent_first s end b position d)) ds in (
      zeros,
      rest,
      length-replicate n false ∙ ap (λ v. padding s v bits) e,
      append_assoc (bits_of_set s d) zeros rest,
      lies_inside s end next
          (position + length (sent_first s end b position d)) ds (omega arith),
    )

-- What is laid is taken with some zeros more, no more than fill the last byte. They are skipped after a run that stands for more blocks than there are.
pub lies_laid : (s : Parameters) (end b position : ℕ) (ds : List CodedDataSet) → is_padded s end ≡ false → BeginBefore s end b ds →
    (n : ℕ) × (n ≤ bits_to_byte (position + length (layout s end b position ds))) × Lies s b position ds (layout s end b position ds ++ replicate n false)
lies_laid s end b position [] e h = (0, omega arith, refl)
lies_laid s end b position (d ∷ []) e h =
    let next = block_after s b d in
    let t = bits_of_set s d in
    let bits = position + length t in
    let n = padding s (min end next) bits in
    let zeros = replicate n false in
    let len = length-append (t ++ zeros) [] in
    let size = length-replicate n false in
    elim (cases_lt end next) [
      | inr le ↦ grind (arith, common_steps, append-nil, append_assoc)
      | inl past ↦
          let same : min end next ≡ end = omega arith in
          let nothing : n ≡ 0 = ap (λ v. padding s v bits) same ∙ ap (λ v. cond v (bits_to_byte bits) 0) e in
          let more = padding s next bits in
          let front : (t ++ zeros) ++ [] ≡ t = append-nil (t ++ zeros) ∙ (ap (λ m. t ++ replicate m false) nothing ∙ append-nil t) in
          let skipped = replicate more false in
          let all = ap length front in
          let bound = cond_below (is_padded s next) (bits_to_byte bits) in
          let f = ap (λ m. bits_to_byte (position + m)) all in
          (more, omega arith, (skipped, [], length-replicate more false, ap (λ v. v ++ skipped) front ∙ ap (λ v. t ++ v) (sym (append-nil skipped)), refl))
    ]
  where
    cond_below : (v : Bool) (m : ℕ) → cond v m 0 ≤ m
    cond_below true m = omega arith
    cond_below false m = omega arith
lies_laid s end b position (d ∷ c ∷ ds) e h =
    let next = block_after s b d in
    let t = bits_of_set s d in
    let bits = position + length t in
    let n = padding s (min end next) bits in
    let zeros = replicate n false in
    let at = position + length (sent_first s end b position d) in
    let rest = layout s end next at (c ∷ ds) in
    let ih = lies_laid s end next at (c ∷ ds) e h.1 in
    let same : min end next ≡ next = omega (arith, h.1.0) in
    let size : at + length rest ≡ position + length ((t ++ zeros) ++ rest) = omega (arith, length-append (t ++ zeros) rest) in
    let f = ap (λ m. bits_to_byte m) size in (
      ih.0,
      omega (arith, ih.1),
      (
        zeros,
        rest ++ replicate ih.0 false,
        length-replicate n false ∙ ap (λ v. padding s v bits) same,
        append_assoc (t ++ zeros) rest (replicate ih.0 false) ∙ append_assoc t zeros (rest ++ replicate ih.0 false),
        ih.2,
      ),
    )

-- what is laid after other coded data sets
pub laid_append : (s : Parameters) (end b position : ℕ) (ds es : List CodedDataSet) →
    layout s end b position (ds ++ es) ≡ layout s end b position ds ++ layout s end (b + length (blocks_in_all s b ds)) (position + length (layout s end b position ds)) es
laid_append s end b position [] es = let e : b ≡ b + 0 = omega arith in let f : position ≡ position + 0 = omega arith in λ i. layout s end (e i) (f i) es
laid_append s end b position (d ∷ ds) es =
    let first = sent_first s end b position d in
    let next = block_after s b d in
    let at = position + length first in
    let rest = layout s end next at ds in
    let ih = laid_append s end next at ds es in
    grind (arith, common_steps, ends_inside, length-append, append_assoc)

-- a coded data set stands for a block at least
pub some_block : (s : Parameters) (b : ℕ) (d : CodedDataSet) → 1 ≤ length (blocks_in s b d)
some_block s b (NoCompression c) = omega arith
some_block s b (SecondExtension c) = omega arith
some_block s b (Split k c) = omega arith
some_block s b (ZeroBlocks r z) = omega arith
some_block s b (RemainderOfSegment r) = omega arith

-- blocks of which the last ends an interval
end_passed : (b n r : ℕ) → 1 ≤ r → 1 ≤ n → (b + n) % r ≡ 0 → b / r + 1 ≤ (b + n) / r
end_passed b n r h k e = grind (arith, common_steps, div-add-mod, cases_lt, mul-le-mul_left)

no_end_passed : (b n r : ℕ) → 1 ≤ r → b / r ≤ (b + n) / r
no_end_passed b n r h = le-div (b / r) (b + n) r h (let e = div-mul-le_self b r in omega arith)

few_zeros : (n : ℕ) → bits_to_byte n ≤ 7
few_zeros n = omega arith

padding_bound : (s : Parameters) (end b bits : ℕ) (d : CodedDataSet) → 1 ≤ s.interval → b < end
    → padding s (min end (block_after s b d)) bits + 7 * (b / s.interval) ≤ 7 * (block_after s b d / s.interval)
padding_bound s end b bits d h lt =
    let n = length (blocks_in s b d) in
    let r = s.interval in
    let next = min end (b + n) in
    let k = next - b in
    let some = some_block s b d in
    let here : b + k ≡ next = omega arith in
    let there : next + (b + n - next) ≡ b + n = omega arith in
    grind (arith, common_steps, no_end_passed, bool_cases, common_steps, eqb-true, and-split, end_passed, few_zeros)

-- the bits of coded data sets, with at most seven for each end of an interval
pub laid_bound : (s : Parameters) (end b position : ℕ) (ds : List CodedDataSet) → 1 ≤ s.interval → BeginBefore s end b ds →
    length (layout s end b position ds) + 7 * (b / s.interval) ≤ sum_by (λ d. length (bits_of_set s d)) ds + 7 * ((b + length (blocks_in_all s b ds)) / s.interval)
laid_bound s end b position [] h k = let e : b + 0 ≡ b = omega arith in let f = ap (λ n. n / s.interval) e in omega arith
laid_bound s end b position (d ∷ ds) h k =
    let first = sent_first s end b position d in
    let next = block_after s b d in
    let bits = position + length (bits_of_set s d) in
    let n = padding s (min end next) bits in
    let rest = layout s end next (position + length first) ds in
    let ih = laid_bound s end next (position + length first) ds h k.1 in
    let one = padding_bound s end b bits d h k.0 in
    let len = length-append first rest in
    let len' = length-append (bits_of_set s d) (replicate n false) in
    grind (arith, common_steps, length-replicate, sum_by-cons, common_steps)

-- of the position only its place in a byte matters
same_to_byte : (m n : ℕ) → m % 8 ≡ n % 8 → bits_to_byte m ≡ bits_to_byte n
same_to_byte m n e = omega arith

same_place_after : (m n k : ℕ) → m % 8 ≡ n % 8 → (m + k) % 8 ≡ (n + k) % 8
same_place_after m n k e = omega arith

-- so after positions at the same place in a byte coded data sets are laid as the same bits,
pub laid_at : (s : Parameters) (end b m n : ℕ) (ds : List CodedDataSet) → m % 8 ≡ n % 8 → layout s end b m ds ≡ layout s end b n ds
laid_at s end b m n [] e = refl
laid_at s end b m n (d ∷ ds) e =
    let t = length (bits_of_set s d) in
    let next = block_after s b d in
    let p = ap (λ v. cond (is_padded s (min end next)) v 0) (same_to_byte (m + t) (n + t) (same_place_after m n t e)) in
    let first : sent_first s end b m d ≡ sent_first s end b n d = ap (λ v. bits_of_set s d ++ replicate v false) p in
    let k = length (sent_first s end b m d) in
    let rest = laid_at s end next (m + k) (n + k) ds (same_place_after m n k e) in
    (λ i. sent_first s end b m d ++ rest i) ∙ (λ i. first i ++ layout s end next (n + length (first i)) ds)

-- and they lie in the same bits
pub lies_at : (s : Parameters) (b m n : ℕ) (ds : List CodedDataSet) (bits : List Bool) → m % 8 ≡ n % 8 → Lies s b m ds bits → Lies s b n ds bits
lies_at s b m n [] bits e h = h
lies_at s b m n (d ∷ ds) bits e h =
    let t = length (bits_of_set s d) in
    let p = ap (λ v. cond (is_padded s (block_after s b d)) v 0) (same_to_byte (m + t) (n + t) (same_place_after m n t e)) in
    let k = length (bits_of_set s d ++ h.0) in
    (h.0, h.1, h.2 ∙ p, h.3, lies_at s (block_after s b d) (m + k) (n + k) ds h.1 (same_place_after m n k e) h.4)
