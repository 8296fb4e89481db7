-- The output decodes to its samples, and without their number to less than a segment more.
use Rattle.std.proofs.Common.{◌≡◌, ℕ, zero, suc, ◌+◌, ◌-◌, ◌*◌, ◌%◌, ◌<◌, ◌≤◌, ◌==◌, Bool, true, false, List, ◌++◌, length, take, replicate, refl, ap, arith, sym, ◌∙◌, inl, inr, append_assoc}
use Rattle.std.proofs.Common.{append-nil, length-append, subst, Option, Some, None, ℤ, pos}
use Rattle.rice_code.proofs.Words.{All, div_ceil, next_multiple_of, cases_lt, length-replicate, replicate-append-replicate, recursion_from_All, All-from_recursion, All-replicate, eqb-true}
use Rattle.rice_code.proofs.Words.{div-add-mod, mod-lt, mul-le-mul_left, take-append_seam, bits_of-padded, Parameters, IsLegal, IsSample, place, is_padded, block_count, last_of, filled_samples}
use Rattle.rice_code.proofs.Words.{zero_is_sample, bits_to_byte, padded_bits, whole_bytes, bits_of, blocks_from, blocks_of, zero_block, CodedDataSet, Lies, blocks_in_all, sets_of, code, output}
use Rattle.rice_code.proofs.lemmas.code.SoundBlocks.{all_append, all_replicate, last_legal, count_blocks, filled_len, blocks_sound_after}
use Rattle.rice_code.proofs.Words.{Decoded, Ending, Reached, Ended, IsWanted, EndsWith, cut_to, common_steps}
use Rattle.rice_code.proofs.lemmas.cost.PaddingBounds.{are_blocks, interval_begins_segment, sets_begin}
use Rattle.rice_code.proofs.lemmas.code.{RepeatedSamples.blocks_append, RepeatedSamples.repeated_blocks, RepeatedSamples.last_repeats, Layouts.lies_laid, Layouts.lies_inside}
use Rattle.rice_code.proofs.lemmas.meaning.{CoveredBlocks.bool_cases, CoveredBlocks.and-split, CoveredBlocks.GoOn, CoveredBlocks.covers_blocks, SentSetsAreTaken.are_taken}

-- What the output of samples decodes to, whether their number is known or not.
pub record Returned (s : Parameters) (xs : List ℤ) : Type 0 where
  pub more : List ℤ
  pub few : length more < 64 * s.block
  pub count : ℕ
  pub enough : length xs ≤ s.block * count
  pub rest : List Bool
  pub zeros : All (λ bit. bit ≡ false) rest
  pub size : ℕ
  pub sizes : size + length rest ≡ length (bits_of (output s xs))
  pub decoded : (asked : Option ℕ) (samples : List ℤ) (ending : Ending) (last : ℕ) → ((i : ℕ) → i < block_count s (length xs) → IsWanted s asked i) →
      samples ≡ cut_to s asked 0 (xs ++ more) → EndsWith s asked count rest ending last → Decoded s (bits_of (output s xs)) asked samples ending (size + last)

-- zeros after bits, in two parts
two_fills : (bits : List Bool) (m n : ℕ) → m ≤ n → bits ++ replicate n false ≡ (bits ++ replicate m false) ++ replicate (n - m) false
two_fills bits m n h = grind (arith, common_steps, replicate-append-replicate, append_assoc)

byte_parts : (bits : List Bool) (m : ℕ) → m ≤ bits_to_byte (length bits) → bits_of (whole_bytes (padded_bits bits)) ≡ (bits ++ replicate m false) ++ replicate (bits_to_byte (length bits) - m) false
byte_parts bits m h = bits_of-padded bits ∙ two_fills bits m (bits_to_byte (length bits)) h

with_none : (s : Parameters) (sets : List CodedDataSet) (bits : List Bool) → Lies s 0 0 sets bits → Lies s 0 0 sets (bits ++ replicate 0 false)
with_none s sets bits h = let P : List Bool → Type 0 = λ v. Lies s 0 0 sets v in subst P (sym (append-nil bits)) h

two_lengths : (bits x y : List Bool) → bits ≡ x ++ y → length x + length y ≡ length bits
two_lengths bits x y e = sym (ap length e ∙ length-append x y)

-- the output of samples is coded data sets that decode to them and to fewer than 64 blocks of others, and then zeros
pub samples_are_returned : (s : Parameters) → IsLegal s → (xs : List ℤ) → All (IsSample s) xs → Returned s xs
samples_are_returned s legal xs k =
    let jay : 1 ≤ s.block = grind (arith, legal.block) in
    with_block s legal jay xs k
  where
    few_more : (j len pad fill rest : ℕ) → 1 ≤ j → pad ≡ len + (j - len % j) % j - len → rest ≡ j * fill → fill < 64 → pad + rest < 64 * j
    few_more j len pad fill rest h e f lt = let m = mod-lt (j - len % j) h in let p : j * fill ≤ j * 63 = mul-le-mul_left j (omega arith) in omega arith

    with_block : (s : Parameters) → IsLegal s → 1 ≤ s.block → (xs : List ℤ) → All (IsSample s) xs → Returned s xs
    with_block s legal jay xs k =
        let j = s.block in
        let n = block_count s (length xs) in
        let base = filled_samples s (pos 0) xs in
        let end = last_of (pos 0) base in
        let cs = blocks_of s 0 (pos 0) xs in
        let sets = sets_of s xs in
        let samples = recursion_from_All (IsSample s) xs k in
        let zero = zero_is_sample s legal.bits_from in
        let sound = blocks_sound_after s 0 (pos 0) xs legal jay zero samples in
        let cover = covers_blocks s 0 false cs legal.interval_from (are_blocks s 0 cs sound) in
        let fill = cover.fill in
        let front = replicate (next_multiple_of (length xs) j - length xs) (last_of (pos 0) xs) in
        let back = replicate (j * fill) end in
        let front_len = length-replicate (next_multiple_of (length xs) j - length xs) (last_of (pos 0) xs) in
        let back_len = length-replicate (j * fill) end in
        let whole : length base ≡ j * n = filled_len s (pos 0) xs jay in
        let blocks : length cs ≡ n = count_blocks s 0 (pos 0) n base in
        let found : length (blocks_in_all s 0 sets) ≡ n + fill = grind (arith, common_steps, length-append, zero_block, length-replicate) in
        let base_legal = all_append (IsSample s) xs front samples (all_replicate (IsSample s) _ (last_of (pos 0) xs) (last_legal s (pos 0) xs zero samples)) in
        let all_legal = all_append (IsSample s) base back base_legal (all_replicate (IsSample s) (j * fill) end (last_legal s (pos 0) base zero base_legal)) in
        let after : blocks_from s (0 + n) end fill back ≡ replicate fill (zero_block s None) = grind (arith, common_steps, cases_lt, repeated_blocks, last_repeats, zero_block) in
        let made = ap (λ m. blocks_from s 0 (pos 0) m (base ++ back)) found ∙ (blocks_append s 0 (pos 0) n fill base back whole ∙ (ap (λ v. cs ++ v) after ∙ sym cover.blocks)) in
        let len = whole_len (length base) (length back) (length (base ++ back)) n fill j _ (length-append base back) whole back_len found in
        let base_len = length-append xs front in
        let last_byte = bits_to_byte (length (code s xs)) in
        let here : 0 + length (code s xs) ≡ length (code s xs) = omega arith in
        let byte_here = ap bits_to_byte here in
        let taken : (m : ℕ) × (m ≤ bits_to_byte (0 + length (code s xs))) × Lies s 0 0 sets (code s xs ++ replicate m false) =
        elim (cases_lt 0 fill) [
          | inl some ↦
              let P : ℕ → Type 0 = λ m. GoOn s (0 + m) fill in
              lies_laid s (0 + n) 0 0 sets (not_padded s (0 + n) fill some (subst P blocks cover.inside)) (sets_begin s 0 (pos 0) xs legal (zero_is_sample s legal.bits_from) k)
          | inr none ↦ (0, omega arith, with_none s sets (code s xs) (lies_inside s (0 + n) 0 0 sets (omega arith)))
        ] in
        let skipped = taken.0 in
        let rest = replicate (last_byte - skipped) false in
        let parts = byte_parts (code s xs) skipped (omega (arith, taken.1)) in
        record {
          more = front ++ back;
          few = let e = length-append front back in let f = few_more j (length xs) (length front) fill (length back) jay front_len back_len cover.few in omega arith;
          count = 0 + length (blocks_in_all s 0 sets);
          enough = let e = length-append base back in omega arith;
          rest = rest;
          zeros = All-replicate (λ (bit : Bool). bit ≡ false) (last_byte - skipped) false refl;
          size = length (code s xs ++ replicate skipped false);
          sizes = two_lengths (bits_of (output s xs)) (code s xs ++ replicate skipped false) rest parts;
          decoded = λ asked ys ending last go cut ends. record {
            sets = sets;
            front = code s xs ++ replicate skipped false;
            rest = rest;
            parts = parts;
            lie = taken.2;
            taken = are_taken s asked 0 false cs legal.interval_from sound (λ i lt. go i (omega arith));
            all = base ++ back;
            legal = All-from_recursion (IsSample s) (base ++ back) all_legal;
            len = len;
            blocks = made;
            asked_for = cut ∙ ap (λ v. cut_to s asked 0 v) (sym (append_assoc xs front back));
            last = last;
            ends = ends;
            bits_used = refl;
          };
        }
      where
        not_padded : (s : Parameters) (b n : ℕ) → 1 ≤ n → GoOn s b n → is_padded s b ≡ false
        not_padded s b zero h g = absurd (omega arith)
        not_padded s b (suc n) h g =
            elim (bool_cases (is_padded s b)) [
              | inr e ↦ e
              | inl e ↦ absurd (let f : true ≡ false = sym (interval_begins_segment s b (eqb-true (place s b) 0 (and-split s.pad (place s b == 0) e).1)) ∙ g.0 in cc)
            ]

        whole_len : (base back all n fill j found : ℕ) → all ≡ base + back → base ≡ j * n → back ≡ j * fill → found ≡ n + fill → all ≡ j * found
        whole_len base back all n fill j found e f g h = let p = ap (λ m. j * m) h in omega arith

-- each block begins before the last sample
begins_before : (j len i : ℕ) → 1 ≤ j → i < div_ceil len j → j * i < len
begins_before j len i h lt = grind (arith, common_steps, div-add-mod, cases_lt, mul-le-mul_left)

-- where as many are asked for as there are samples, their output decodes to just these
pub returns_samples : (s : Parameters) → IsLegal s → (xs : List ℤ) → All (IsSample s) xs → (used : ℕ) × Decoded s (bits_of (output s xs)) (Some (length xs)) xs Reached used
returns_samples s legal xs k =
    let jay : 1 ≤ s.block = grind (arith, legal.block) in
    let r = samples_are_returned s legal xs k in
    let n : length xs - s.block * 0 ≡ length xs = omega arith in
    let all = sym (ap (λ m. take m (xs ++ r.more)) n ∙ take-append_seam xs r.more) in
    (r.size + 0, r.decoded (Some (length xs)) xs Reached 0 (λ i lt. begins_before s.block (length xs) i jay lt) all (r.enough, refl))

-- and where no number is asked for, to these and to fewer than 64 blocks of others, up to its last bit
pub returns_samples_and_fill : (s : Parameters) → IsLegal s → (xs : List ℤ) → All (IsSample s) xs →
    (fill : List ℤ) × (length fill < 64 * s.block) × Decoded s (bits_of (output s xs)) None (xs ++ fill) Ended (length (bits_of (output s xs)))
returns_samples_and_fill s legal xs k =
    let r = samples_are_returned s legal xs k in
    let P : ℕ → Type 0 = λ n. Decoded s (bits_of (output s xs)) None (xs ++ r.more) Ended n in
    (r.more, r.few, subst P r.sizes (r.decoded None (xs ++ r.more) Ended (length r.rest) (λ i lt. tt) refl (tt, r.zeros, refl)))
