-- The coded data sets that were read so far, and one more.
use Rattle.std.proofs.Common.{◌≡◌, ℕ, ◌+◌, Bool, List, [], ◌∷◌, ◌++◌, length, refl, ap, arith, sym, ◌∙◌, subst, append_assoc, append-nil, length-append, None}
use Rattle.rice_stream.proofs.Words.{Parameters, CodedDataSet, bits_of_set, AreTaken, IsForm, RunIsSound, ResidualsAreSound, blocks_in, blocks_in_all, Lies, block_after, padding, HasSets}

-- a data set after others: at which block, at which bit, and what fills it
record SetAfter (s : Parameters) (b at position place : ℕ) (ds : List CodedDataSet) (bits : List Bool) (d : CodedDataSet) (skipped : List Bool) : Type 0 where
  at_is : at ≡ b + length (blocks_in_all s b ds)
  place_is : place ≡ position + length bits
  filled : length skipped ≡ padding s (block_after s at d) (place + length (bits_of_set s d))

-- one more coded data set lies after others
lies-push : (s : Parameters) (b : ℕ) {at : ℕ} (position : ℕ) {place : ℕ} (ds : List CodedDataSet) (bits : List Bool) (d : CodedDataSet) (skipped : List Bool)
    → SetAfter s b at position place ds bits d skipped → Lies s b position ds bits → Lies s b position (ds ++ d ∷ []) (bits ++ (bits_of_set s d ++ skipped))
lies-push s b {at} position {place} [] bits d skipped stands lies =
    let here : at ≡ b = omega (arith, stands.at_is) in
    let there : place ≡ position = omega (arith, stands.place_is, ap length lies) in
    let text = bits_of_set s d in (
      skipped,
      [],
      stands.filled ∙ (λ i. padding s (block_after s (here i) d) (there i + length text)),
      (λ i. lies i ++ (text ++ skipped)) ∙ ap (λ v. text ++ v) (sym (append-nil skipped)),
      refl,
    )
lies-push s b {at} position {place} (x ∷ ds) bits d skipped stands lies =
    let more = bits_of_set s d ++ skipped in
    let text = bits_of_set s x in
    let ahead = text ++ lies.0 in
    let at_is : at ≡ block_after s b x + length (blocks_in_all s (block_after s b x) ds) = omega (arith, stands.at_is, length-append (blocks_in s b x) (blocks_in_all s (block_after s b x) ds)) in
    let place_is : place ≡ position + length ahead + length lies.1 = omega
    (arith, stands.place_is, ap length lies.3, length-append text (lies.0 ++ lies.1), length-append lies.0 lies.1, length-append text lies.0) in (
      lies.0,
      lies.1 ++ more,
      lies.2,
      ap (λ v. v ++ more) lies.3 ∙ append_assoc text (lies.0 ++ lies.1) more ∙ ap (λ v. text ++ v) (append_assoc lies.0 lies.1 more),
      lies-push s (block_after s b x) (position + length ahead) ds lies.1 d skipped (record { at_is = at_is; place_is = place_is; filled = stands.filled }) lies.4,
    )

-- one coded data set more is taken after the others
taken-push : (s : Parameters) (b : ℕ) {at : ℕ} (ds : List CodedDataSet) (d : CodedDataSet) → at ≡ b + length (blocks_in_all s b ds) → AreTaken s None b ds
    → IsForm s at d → RunIsSound s at d → ResidualsAreSound s d → AreTaken s None b (ds ++ d ∷ [])
taken-push s b {at} [] d e taken form run residuals =
    let here : at ≡ b = omega (arith, e) in
    (tt, subst (λ n. IsForm s n d) here form, subst (λ n. RunIsSound s n d) here run, residuals, tt)
taken-push s b {at} (x ∷ ds) d e taken form run residuals =
    let at_is : at ≡ block_after s b x + length (blocks_in_all s (block_after s b x) ds) = omega (arith, e, length-append (blocks_in s b x) (blocks_in_all s (block_after s b x) ds)) in
    (tt, taken.1, taken.2, taken.3, taken-push s (block_after s b x) ds d at_is taken.4 form run residuals)

-- and its blocks stand after theirs
blocks-push : (s : Parameters) (b at : ℕ) (ds : List CodedDataSet) (d : CodedDataSet) → at ≡ b + length (blocks_in_all s b ds)
    → length (blocks_in_all s b (ds ++ d ∷ [])) ≡ length (blocks_in_all s b ds) + length (blocks_in s at d)
blocks-push s b at [] d e =
    let here : at ≡ b = omega (arith, e) in
    length-append (blocks_in s b d) [] ∙ ap (λ n. length (blocks_in s n d) + 0) (sym here) ∙ omega arith
blocks-push s b at (x ∷ ds) d e =
    let next = block_after s b x in
    let at_is : at ≡ next + length (blocks_in_all s next ds) = omega (arith, e, length-append (blocks_in s b x) (blocks_in_all s next ds)) in
    omega (arith, blocks-push s next at ds d at_is, length-append (blocks_in s b x) (blocks_in_all s next (ds ++ d ∷ [])), length-append (blocks_in s b x) (blocks_in_all s next ds))

-- one more coded data set was read, with its padding
pub sets-push : {s : Parameters} {sets : List CodedDataSet} {front : List Bool} (skipped : List Bool) {b after : ℕ} (d : CodedDataSet) → HasSets s sets front b
    → IsForm s b d → RunIsSound s b d → ResidualsAreSound s d → length skipped ≡ padding s (block_after s b d) (length front + length (bits_of_set s d))
    → after ≡ b + length (blocks_in s b d) → HasSets s (sets ++ d ∷ []) (front ++ (bits_of_set s d ++ skipped)) after
sets-push {s} {sets} {front} skipped {b} d has form run residuals pads e =
    let at : b ≡ 0 + length (blocks_in_all s 0 sets) = omega (arith, has.end) in
    let place : length front ≡ 0 + length front = omega arith in
    record {
      lie = lies-push s 0 0 sets front d skipped (record { at_is = at; place_is = place; filled = pads }) has.lie;
      sound = taken-push s 0 sets d at has.sound form run residuals;
      end = blocks-push s 0 b sets d at ∙ omega (arith, has.end, e);
    }

-- no coded data set was read
pub sets-none : (s : Parameters) → HasSets s [] [] 0
sets-none s = record { lie = refl; sound = tt; end = refl }
