-- Every form contains a one.
use Rattle.std.proofs.Common.{◌≡◌, ℕ, zero, suc, ◌+◌, ◌-◌, ◌*◌, ◌/◌, ◌%◌, ◌^◌, ◌<◌, ◌≤◌, ◌==◌, Bool, true, false, List, [], ◌∷◌, ◌++◌, refl, ap, arith, ◌∙◌, inl, inr}
use Rattle.rice_code.proofs.Words.{Contains, flat_map, nat_tests, Contains-append_left, Contains-append_right, Contains-push, mod-eq_of_lt, digit_split, Parameters, IsLegal, id_len, pair_codes, word}
use Rattle.rice_code.proofs.Words.{fundamental_sequence, CodedDataSet, NoCompression, SecondExtension, Split, ZeroBlocks, RemainderOfSegment, bits_of_set, sent_residuals, reference_bits, run_number}
use Rattle.rice_code.proofs.{lemmas.meaning.CoveredBlocks.bool_cases, lemmas.code.FormsReadInOneWay.wide_id, Words.IsForm, Words.common_steps}

-- the word of a number has a one, where its digits are not all zeros
word_has_one : (w v : ℕ) → 1 ≤ v % 2 ^ w → Contains (word w v) true
unfolding word
word_has_one zero v h = absurd (omega arith)
word_has_one (suc w) v h =
    let digit = v / 2 ^ w % 2 == 1 in
    elim (bool_cases digit) [
      | inl e ↦ (0, omega arith, e)
      | inr e ↦
          let none : v / 2 ^ w % 2 ≡ 0 = not_one (v / 2 ^ w) e in
          let less = digit_split w v ∙ ap (λ d. d * 2 ^ w + v % 2 ^ w) none in
          Contains-append_right (digit ∷ []) (word w v) true (word_has_one w v (omega arith))
    ]
  where
    not_one : (n : ℕ) → (n % 2 == 1) ≡ false → n % 2 ≡ 0
    not_one n e = grind (arith, nat_tests)

small_word_has_one : (w v : ℕ) → 1 ≤ v → v < 2 ^ w → (rest : List Bool) → Contains (word w v ++ rest) true
small_word_has_one w v h lt rest = let e : v % 2 ^ w ≡ v = mod-eq_of_lt lt in Contains-append_left (word w v) rest true (word_has_one w v (omega arith))

sequence_has_one : (s : Parameters) (front : List Bool) (m : ℕ) → Contains (word (id_len s) 0 ++ false ∷ (front ++ fundamental_sequence m)) true
sequence_has_one s front m = grind (arith, common_steps, Contains-append_right, Contains-push)

-- the text of each form has a one
pub forms_have_a_one : (s : Parameters) (b : ℕ) (d : CodedDataSet) → IsLegal s → IsForm s b d → Contains (bits_of_set s d) true
forms_have_a_one s b (NoCompression c) legal h = let w = wide_id s in
    small_word_has_one (id_len s) (2 ^ id_len s - 1) (omega arith) (omega arith) (reference_bits s c.reference ++ flat_map (word s.bits) (sent_residuals c))
forms_have_a_one s b (SecondExtension c) legal h =
    Contains-append_right (word (id_len s) 0) (true ∷ (reference_bits s c.reference ++ flat_map fundamental_sequence (pair_codes c.residuals))) true (0, omega arith, refl)
forms_have_a_one s b (Split k c) legal h = grind (arith, common_steps, wide_id, small_word_has_one)
forms_have_a_one s b (ZeroBlocks r z) legal h = sequence_has_one s (reference_bits s r) (run_number z)
forms_have_a_one s b (RemainderOfSegment r) legal h = sequence_has_one s (reference_bits s r) 4
