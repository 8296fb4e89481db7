-- All bytes are decoded, in one way or another.
use Rattle.std.proofs.Common.{◌≡◌, ℕ, zero, suc, ◌+◌, ◌-◌, ◌*◌, ◌%◌, ◌<◌, ◌≤◌, ◌⊎◌, inl, inr, Bool, true, false, cond, List, [], ◌∷◌, ◌++◌, length, take, drop, replicate, refl, ap, arith, sym, ◌∙◌}
use Rattle.std.proofs.Common.{subst, length-append, Option, Some, None, ℤ}
use Rattle.rice_code.proofs.Words.{Contains, IsSomeAnd, OnSome, slice_index, AllByRecursion, cases_lt, length-replicate, length-take-le, length-drop, take-append-drop, All-from_recursion}
use Rattle.rice_code.proofs.Words.{recursion_from_All, All-replicate, Contains-append_right, pow_pos, take-append_seam, drop-append_seam, length-bits_of, Parameters, IsLegal, IsSample, value_count}
use Rattle.rice_code.proofs.Words.{is_reference, is_reference_sample, is_padded, pattern, rank, residual, residuals, last_of, some_left, reference_begins, zero_is_sample, common_steps}
use Rattle.rice_code.proofs.Words.{zero_at_reference, inside_block, no_reference_at, has_pattern, has_rank, bits_to_byte, bits_of, BlockData, block_data, blocks_from, zero_block, CodedDataSet}
use Rattle.rice_code.proofs.Words.{NoCompression, SecondExtension, Split, ZeroBlocks, RemainderOfSegment, bits_of_set, IsReference, AllFit, RunIsSound, ResidualsAreSound, blocks_in, block_after}
use Rattle.rice_code.proofs.Words.{padding, Decoded, DecodedFrom, Ending, Reached, Ended, CutOff, Past, Large, IsWanted, EndsWith, cut_to, IsSoundBlock, AreSoundBlocks}
use Rattle.rice_code.proofs.lemmas.meaning.{CoveredBlocks.bool_cases, CoveredBlocks.GoOn, CoveredBlocks.segment_goes_on, DecodingWitnesses.decoded_from_none, DecodingGoesOn.decoding_goes_on}
use Rattle.rice_code.proofs.lemmas.{code.SoundBlocks.all_append, code.SoundBlocks.last_legal, code.OnesOfForms.forms_have_a_one, meaning.SentSetsAreTaken.IsSound, meaning.FormsAtFront.form_piece}

-- what can be decided
run_or_not : (s : Parameters) (b : ℕ) (d : CodedDataSet) → RunIsSound s b d ⊎ (RunIsSound s b d → ⊥)
run_or_not s b (NoCompression c) = inl tt
run_or_not s b (SecondExtension c) = inl tt
run_or_not s b (Split k c) = inl tt
run_or_not s b (ZeroBlocks r z) = grind (arith, common_steps, cases_lt)
run_or_not s b (RemainderOfSegment r) = inl tt

fit_or_not : (m : ℕ) (ds : List ℕ) → AllByRecursion (λ d. d < m) ds ⊎ (AllByRecursion (λ d. d < m) ds → ⊥)
fit_or_not m [] = inl tt
fit_or_not m (d ∷ ds) = grind (arith, common_steps, cases_lt, fit_or_not m ds)

all_fit_or_not : (s : Parameters) (c : BlockData) → AllFit s c ⊎ (AllFit s c → ⊥)
all_fit_or_not s c =
    elim (fit_or_not (value_count s) c.residuals) [
      | inl h ↦ inl (All-from_recursion (λ d. d < value_count s) c.residuals h)
      | inr wrong ↦ inr (λ h. wrong (recursion_from_All (λ d. d < value_count s) c.residuals h))
    ]

zero_or_not : (r : Option ℕ) (d : ℕ) → OnSome r (d ≡ 0) ⊎ (OnSome r (d ≡ 0) → ⊥)
zero_or_not None d = inl tt
zero_or_not (Some v) zero = inl refl
zero_or_not (Some v) (suc d) = inr (λ h. absurd cc)

residuals_or_not : (s : Parameters) (d : CodedDataSet) → ResidualsAreSound s d ⊎ (ResidualsAreSound s d → ⊥)
residuals_or_not s (NoCompression c) = inl tt
residuals_or_not s (SecondExtension c) =
    elim (zero_or_not c.reference (slice_index c.residuals 0)) [
      | inr wrong ↦ inr (λ h. wrong h.0)
      | inl at ↦ elim (all_fit_or_not s c) [ inl h ↦ inl (at, h) | inr wrong ↦ inr (λ h. wrong h.1) ]
    ]
residuals_or_not s (Split k c) = all_fit_or_not s c
residuals_or_not s (ZeroBlocks r z) = inl tt
residuals_or_not s (RemainderOfSegment r) = inl tt

one_or_none : (bits : List Bool) → Contains bits true ⊎ AllByRecursion (λ bit. bit ≡ false) bits
one_or_none [] = inr tt
one_or_none (true ∷ bits) = inl (0, omega arith, refl)
one_or_none (false ∷ bits) = elim (one_or_none bits) [ inl h ↦ inl (Contains-append_right (false ∷ []) bits true h) | inr h ↦ inr (refl, h) ]

goes_or_not : (s : Parameters) (asked : Option ℕ) (b : ℕ) → IsWanted s asked b ⊎ IsSomeAnd asked (λ n. n ≤ s.block * b)
goes_or_not s None b = inl tt
goes_or_not s (Some n) b = cases_lt (s.block * b) n

zeros_sound : (s : Parameters) (b : ℕ) (r : Option ℕ) → IsReference s b r → IsSoundBlock s b (zero_block s r)
zeros_sound s b r h = grind (arith, common_steps, length-replicate, All-replicate, pow_pos)

more_zeros : (s : Parameters) (b n : ℕ) → GoOn s b n → AreSoundBlocks s b (replicate n (zero_block s None))
more_zeros s b zero h = tt
more_zeros s b (suc n) h =
    let none : is_reference s b ≡ false = elim (bool_cases (is_reference s b)) [ inl r ↦ absurd (let f : true ≡ false = sym (reference_begins s b r) ∙ h.0 in cc) | inr r ↦ r ] in
    (zeros_sound s b None (record { there = sym none; fits = tt }), more_zeros s (b + 1) n h.1)

-- the blocks of a sound coded data set are sound
pub blocks_are_sound : (s : Parameters) (b : ℕ) (d : CodedDataSet) → IsLegal s → IsSound s b d → AreSoundBlocks s b (blocks_in s b d)
blocks_are_sound s b (NoCompression c) legal h = (record { block = h.0.0; at_reference = h.0.1; fit = h.0.2 }, tt)
blocks_are_sound s b (SecondExtension c) legal h = (record { block = h.0; at_reference = h.2.0; fit = h.2.1 }, tt)
blocks_are_sound s b (Split k c) legal h = (record { block = h.0.0; at_reference = h.0.1; fit = h.2 }, tt)
blocks_are_sound s b (ZeroBlocks r z) legal h = grind (arith, common_steps, zeros_sound, more_zeros, segment_goes_on)
blocks_are_sound s b (RemainderOfSegment r) legal h = grind (arith, common_steps, some_left, zeros_sound, more_zeros, segment_goes_on)

-- sound blocks are those of samples
residual_has_sample : (s : Parameters) (i : ℕ) (p : ℤ) (d : ℕ) → IsLegal s → IsSample s p → is_reference_sample s i ≡ false → d < value_count s → (x : ℤ) × IsSample s x × (residual s i p x ≡ d)
residual_has_sample s i p d legal h r lt =
    elim (bool_cases s.preprocess) [
      | inl e ↦
          let x = has_rank s legal.bits_from p h d lt in
          (x.0, x.1, ap (λ v. cond v (cond (is_reference_sample s i) 0 (rank s p x.0)) (pattern s x.0)) e ∙ (ap (λ v. cond v 0 (rank s p x.0)) r ∙ x.2))
      | inr e ↦
          let x = has_pattern s legal.bits_from d lt in
          (x.0, x.1, ap (λ v. cond v (cond (is_reference_sample s i) 0 (rank s p x.0)) (pattern s x.0)) e ∙ x.2)
    ]

residuals_have_samples : (s : Parameters) (i : ℕ) (p : ℤ) (ds : List ℕ) → IsLegal s → IsSample s p
    → ((t : ℕ) → t < length ds → is_reference_sample s (i + t) ≡ false) → AllByRecursion (λ d. d < value_count s) ds →
    (xs : List ℤ) × (length xs ≡ length ds) × AllByRecursion (IsSample s) xs × (residuals s i p xs ≡ ds)
residuals_have_samples s i p [] legal h r k = ([], refl, tt, refl)
residuals_have_samples s i p (d ∷ ds) legal h r k =
    let here : is_reference_sample s i ≡ false = (let z : i ≡ i + 0 = omega arith in ap (λ m. is_reference_sample s m) z) ∙ r 0 (omega arith) in
    let x = residual_has_sample s i p d legal h here k.0 in
    let later = λ (t : ℕ) (lt : t < length ds). (let z : i + 1 + t ≡ i + suc t = omega arith in ap (λ m. is_reference_sample s m) z) ∙ r (suc t) (omega arith) in
    let rest = residuals_have_samples s (i + 1) x.0 ds legal x.1 later k.1 in
    let first = x.2 in
    let others = rest.3 in
    (x.0 ∷ rest.0, ap (λ n. suc n) rest.1, (x.1, rest.2), λ j. first j ∷ others j)

block_has_samples : (s : Parameters) (b : ℕ) (p : ℤ) (r : Option ℕ) (ds : List ℕ) → IsLegal s → 1 ≤ s.block → IsSample s p → IsSoundBlock s b (record { reference = r; residuals = ds }) →
    (xs : List ℤ) × (length xs ≡ s.block) × AllByRecursion (IsSample s) xs × (block_data s b p xs ≡ record { reference = r; residuals = ds })
block_has_samples s b p r [] legal j h k = absurd (omega (arith, k.block.len))
block_has_samples s b p None (d ∷ ds) legal j h k =
    let none : is_reference s b ≡ false = sym k.block.reference.there in
    let len : suc (length ds) ≡ s.block = k.block.len in
    let fit = recursion_from_All (λ d. d < value_count s) (d ∷ ds) k.fit in
    let i = s.block * b in
    let x = residual_has_sample s i p d legal h (no_reference_at s b j none) fit.0 in
    let inside = λ (t : ℕ) (lt : t < length ds). (let z : i + 1 + t ≡ i + (1 + t) = omega arith in ap (λ v. is_reference_sample s v) z) ∙ inside_block s b (1 + t) (omega arith) (omega arith) in
    let rest = residuals_have_samples s (i + 1) x.0 ds legal x.1 inside fit.1 in
    let first = x.2 in
    let others = rest.3 in
    let reference = ap (λ v. cond v (Some (pattern s x.0)) None) none in
    (x.0 ∷ rest.0, ap (λ n. suc n) rest.1 ∙ len, (x.1, rest.2), λ t. record { reference = reference t; residuals = first t ∷ others t })
block_has_samples s b p (Some v) (d ∷ ds) legal j h k =
    let there : is_reference s b ≡ true = sym k.block.reference.there in
    let len : suc (length ds) ≡ s.block = k.block.len in
    let fit = recursion_from_All (λ d. d < value_count s) (d ∷ ds) k.fit in
    let i = s.block * b in
    let x = has_pattern s legal.bits_from v k.block.reference.fits in
    let inside = λ (t : ℕ) (lt : t < length ds). (let z : i + 1 + t ≡ i + (1 + t) = omega arith in ap (λ v. is_reference_sample s v) z) ∙ inside_block s b (1 + t) (omega arith) (omega arith) in
    let rest = residuals_have_samples s (i + 1) x.0 ds legal x.1 inside fit.1 in
    let first : residual s i p x.0 ≡ d = zero_at_reference s b p (x.0 ∷ rest.0) j there ∙ sym k.at_reference in
    let others = rest.3 in
    let reference = ap (λ u. cond u (Some (pattern s x.0)) None) there ∙ ap (λ n. Some n) x.2 in
    (x.0 ∷ rest.0, ap (λ n. suc n) rest.1 ∙ len, (x.1, rest.2), λ t. record { reference = reference t; residuals = first t ∷ others t })

-- sound blocks, after a legal sample, are those of legal samples that fill them
pub blocks_have_samples : (s : Parameters) (b : ℕ) (p : ℤ) (cs : List BlockData) → IsLegal s → 1 ≤ s.block → IsSample s p → AreSoundBlocks s b cs →
    (xs : List ℤ) × (length xs ≡ s.block * length cs) × AllByRecursion (IsSample s) xs × (blocks_from s b p (length cs) xs ≡ cs)
blocks_have_samples s b p [] legal j h k = ([], omega arith, tt, refl)
blocks_have_samples s b p (c ∷ cs) legal j h k =
    let one = block_has_samples s b p c.reference c.residuals legal j h k.0 in
    let xs = one.0 in
    let rest = blocks_have_samples s (b + 1) (last_of p xs) cs legal j (last_legal s p xs h one.2) k.1 in
    let ys = rest.0 in
    let front : take s.block (xs ++ ys) ≡ xs = ap (λ n. take n (xs ++ ys)) (sym one.1) ∙ take-append_seam xs ys in
    let back : drop s.block (xs ++ ys) ≡ ys = ap (λ n. drop n (xs ++ ys)) (sym one.1) ∙ drop-append_seam xs ys in
    grind (arith, common_steps, common_steps, length-append, all_append)

-- what decoding can come to
abbrev Comes : Parameters → ℕ → ℕ → ℤ → List Bool → Option ℕ → Type 0
Comes s b position p bits asked = (xs : List ℤ) × (e : Ending) × (n : ℕ) × DecodedFrom s b position p bits asked xs e n

comes_to_stop : (s : Parameters) (b position : ℕ) (p : ℤ) (bits : List Bool) (asked : Option ℕ) (ending : Ending) (last : ℕ) → EndsWith s asked b bits ending last → Comes s b position p bits asked
comes_to_stop s b position p bits asked ending last h = (cut_to s asked b [], ending, last, decoded_from_none s b position p bits asked ending last h)

-- in whole bytes there is room for the padding
padding_fits : (position t more total : ℕ) (pads : Bool) → total ≡ t + more → (position + total) % 8 ≡ 0 → cond pads (bits_to_byte (position + t)) 0 ≤ more
padding_fits position t more total true e h = omega arith
padding_fits position t more total false e h = omega arith

bits_are_decoded : (fuel : ℕ) {s : Parameters} {b position : ℕ} {p : ℤ} {bits : List Bool} {asked : Option ℕ} → IsLegal s → 1 ≤ s.block → IsSample s p
    → length bits < fuel → (position + length bits) % 8 ≡ 0 → Comes s b position p bits asked
bits_are_decoded zero legal j h lt whole = absurd (omega arith)
bits_are_decoded (suc fuel) {s} {b} {position} {p} {bits} {asked} legal j h lt whole =
    elim (goes_or_not s asked b) [
      | inr reached ↦ comes_to_stop s b position p bits asked Reached 0 (reached, refl)
      | inl go ↦ elim (form_piece s b bits legal) [
        | inr miss ↦ elim (one_or_none bits) [
          | inl one ↦ comes_to_stop s b position p bits asked CutOff (length bits) (go, one, (λ d more f e. miss d more f e), refl)
          | inr none ↦ comes_to_stop s b position p bits asked Ended (length bits) (go, All-from_recursion (λ bit. bit ≡ false) bits none, refl)
        ]
        | inl q ↦ elim (run_or_not s b q.piece) [
          | inr past ↦ comes_to_stop s b position p bits asked Past (length (bits_of_set s q.piece))
              (go, record { refused = q.piece; more = q.more; form = q.fits; unsound = past; begins = q.begins; bits = refl })
          | inl run ↦ elim (residuals_or_not s q.piece) [
            | inr large ↦ comes_to_stop s b position p bits asked Large (length (bits_of_set s q.piece))
                (go, record { refused = q.piece; more = q.more; form = q.fits; unsound = large; begins = q.begins; bits = refl })
            | inl sound ↦
                let d = q.piece in
                let t = length (bits_of_set s d) in
                let n = padding s (block_after s b d) (position + t) in
                let size : length bits ≡ t + length q.more = ap length q.begins ∙ length-append (bits_of_set s d) q.more in
                let fits : n ≤ length q.more = padding_fits position t (length q.more) (length bits) (is_padded s (block_after s b d)) size whole in
                let skipped = take n q.more in
                let rest = drop n q.more in
                let l1 : length skipped ≡ n = length-take-le n q.more fits in
                let l2 : length rest ≡ length q.more - n = length-drop n q.more in
                let l3 : length (bits_of_set s d ++ skipped) ≡ t + n = length-append (bits_of_set s d) skipped ∙ ap (λ m. t + m) l1 in
                let some : 1 ≤ t = not_empty (bits_of_set s d) (forms_have_a_one s b d legal q.fits) in
                let made = blocks_have_samples s b p (blocks_in s b d) legal j h (blocks_are_sound s b d legal (q.fits, run, sound)) in
                let later = bits_are_decoded fuel legal j
                (last_legal s p made.0 h made.2) (sizes _ _ _ _ _ _ size l2 fits some lt) (places _ _ _ _ _ _ _ size l2 l3 fits whole) in
                let P : List Bool → Type 0 = λ v. DecodedFrom s b position p v asked (cut_to s asked b made.0 ++ later.0) later.1 (length (bits_of_set s d ++ skipped) + later.2) in
                let joined : bits_of_set s d ++ (skipped ++ rest) ≡ bits = ap (λ v. bits_of_set s d ++ v) (take-append-drop n q.more) ∙ sym q.begins in (
                  cut_to s asked b made.0 ++ later.0,
                  later.1,
                  length (bits_of_set s d ++ skipped) + later.2,
                  subst P joined (decoding_goes_on legal d skipped made.0 (go, q.fits, run, sound, tt) l1
                      (record { legal = All-from_recursion (IsSample s) made.0 made.2; len = made.1; blocks = made.3 }) later.3),
                )
          ]
        ]
      ]
    ]
  where
    not_empty : (bits : List Bool) → Contains bits true → 1 ≤ length bits
    not_empty bits h = let lt : h.0 < length bits = h.1 in omega arith

    sizes : (total t more n rest fuel : ℕ) → total ≡ t + more → rest ≡ more - n → n ≤ more → 1 ≤ t → total < suc fuel → rest < fuel
    sizes total t more n rest fuel e f g h lt = omega arith

    places : (position total t more n rest front : ℕ) → total ≡ t + more → rest ≡ more - n → front ≡ t + n → n ≤ more → (position + total) % 8 ≡ 0 → (position + front + rest) % 8 ≡ 0
    places position total t more n rest front e f g le h = let same : position + front + rest ≡ position + total = omega arith in ap (λ m. m % 8) same ∙ h

-- Any bytes, whatever number of samples is asked for, are decoded to some samples, with some ending, by some number of bits.
pub all_bytes_are_decoded : (s : Parameters) → IsLegal s → (bytes : List ℕ) (asked : Option ℕ) → (xs : List ℤ) × (p : Ending) × (n : ℕ) × Decoded s (bits_of bytes) asked xs p n
all_bytes_are_decoded s legal bytes asked =
    let j : 1 ≤ s.block = grind (arith, legal.block) in
    let e = length-bits_of bytes in
    bits_are_decoded (suc (length (bits_of bytes))) legal j (zero_is_sample s legal.bits_from) (omega arith) (multiple _ _ e)
  where
    multiple : (n m : ℕ) → n ≡ 8 * m → (0 + n) % 8 ≡ 0
    multiple n m e = omega arith
