-- Fundamental sequences from their ends, in lanes.
use Rattle.rice_fast.proofs.Words.{◌≡◌, ℕ, zero, suc, ◌+◌, ◌-◌, ◌*◌, ◌≤◌, Bool, true, false, List, [], ◌∷◌, ◌++◌, length, take, get_or, replicate, sym, ◌∙◌, ap, arith, take-take, flat_map}
use Rattle.rice_fast.proofs.Words.{get_or-take, length-take-le, take-append-le, fundamental_sequence, word, ends_after, gaps, length-word, in_lanes}
use Rattle.rice_fast.proofs.lemmas.ahead.EndsAndGapsLemmas.{gaps-spell, take-gaps}

-- the fundamental sequences of the first gaps are the bits up to the last of these ends, which is within the first bytes
pub lanes-spell : (front bytes count : ℕ) (ends : List ℕ) → bytes ≤ 7 → ends ≡ in_lanes (ends_after 0 (take (8 * bytes) (word 64 front)))
    → 1 ≤ count → count ≤ 16 → count ≤ length (ends_after 0 (take (8 * bytes) (word 64 front)))
    → (get_or ends (count - 1) 0 ≤ 8 * bytes) × (flat_map fundamental_sequence (take count (gaps (0 ∷ ends))) ≡ take (get_or ends (count - 1) 0) (word 64 front))
lanes-spell front bytes count ends h e some few there =
    let bits = take (8 * bytes) (word 64 front) in
    let es = ends_after 0 bits in
    let n : count ≡ suc (count - 1) = omega (arith, some) in
    let first : take count ends ≡ take count es = ap (take count) e ∙ (take-take count 16 (es ++ replicate 16 0) few ∙ take-append-le count es (replicate 16 0) there) in
    let last : get_or ends (count - 1) 0 ≡ get_or (0 ∷ es) count 0 =
    sym (get_or-take count ends (count - 1) 0 (omega (arith, some)))
    ∙ (ap (λ z. get_or z (count - 1) 0) first ∙ (get_or-take count es (count - 1) 0 (omega (arith, some)) ∙ ap (λ k. get_or (0 ∷ es) k 0) (sym n))) in
    let same : get_or ends (count - 1) 0 ≡ get_or (0 ∷ es) count 0 - 0 = omega (arith, last) in
    let len : length bits ≡ 8 * bytes = length-take-le (8 * bytes) (word 64 front) (omega (arith, h, length-word 64 front)) in
    let inside : get_or ends (count - 1) 0 ≤ 8 * bytes = omega (arith, last, len, ends-within 0 bits count there) in
    let m : count + 1 ≡ suc count = omega arith in
    let numbers : take count (gaps (0 ∷ ends)) ≡ take count (gaps (0 ∷ es)) =
    take-gaps count count (0 ∷ ends) (omega arith) ∙ (ap (λ k. take count (gaps (take k (0 ∷ ends)))) m ∙ (ap (λ z. take count (gaps (0 ∷ z))) first
    ∙ (ap (λ k. take count (gaps (take k (0 ∷ es)))) (sym m) ∙ sym (take-gaps count count (0 ∷ es) (omega arith))))) in (
      inside,
      ap (flat_map fundamental_sequence) numbers ∙ (gaps-spell 0 0 bits count (omega arith) there
          ∙ (ap (λ k. take k bits) (sym same) ∙ take-take (get_or ends (count - 1) 0) (8 * bytes) (word 64 front) inside)),
    )
  where
    ends-within : (q : ℕ) (bits : List Bool) (t : ℕ) → t ≤ length (ends_after q bits) → get_or (q ∷ ends_after q bits) t 0 ≤ q + length bits
    ends-within q bits zero h = omega arith
    ends-within q [] (suc t) h = absurd (omega (arith, h))
    ends-within q (true ∷ bits) (suc t) h = omega (arith, ends-within (q + 1) bits t (omega (arith, h)))
    ends-within q (false ∷ bits) (suc t) h = omega (arith, ends-within (q + 1) bits (suc t) h)
