-- Words that become the spellings of samples, one after another.
use Rattle.std.proofs.Common.{◌≡◌, ℕ, ◌+◌, ◌*◌, ◌%◌, ◌^◌, ◌<◌, ◌≤◌, List, [], ◌∷◌, ◌++◌, length, take, drop, map, refl, ap, arith, sym, ◌∙◌, append_assoc, append-nil, length-append, length-drop, ℤ}
use Rattle.std.proofs.lemmas.{List.drop-drop, List.drop_at, List.map-append, List.take_at, Grind.common_steps, Grind.flat_map-append, List.Elements.All-nil, List.Elements.All-push}
use Rattle.std.{proofs.Math.Seq.take-add, specs.Prelude.All}
use Rattle.rice_samples.specs.{Parameters.Parameters, Parameters.IsSample, Parameters.value_count, Parameters.width, UnusedBits.SpellsOne, UnusedBits.bytes_of_words}
use Rattle.rice_samples.specs.{Spelling.spellings, Spelling.ordered_bytes, Residuals.pattern}

-- the words in the first `at` bytes have become spellings
pub record SpelledSoFar (s : Parameters) (old now : List ℕ) (at : ℕ) : Type 0 where
  pub words : List ℕ
  pub samples : List ℤ
  pub carries : take at old ≡ bytes_of_words s words
  pub fit : All (λ w. w < 2 ^ (8 * width s)) words
  pub legal : All (IsSample s) samples
  pub patterns : map (pattern s) samples ≡ map (λ w. w % value_count s) words
  pub spelled : now ≡ spellings s samples ++ drop at old

-- before the first sample nothing was spelled
pub none_so_far : (s : Parameters) (old : List ℕ) (w : ℕ) → SpelledSoFar s old old (w * 0)
none_so_far s old w =
    let none : 0 ≡ w * 0 = omega arith in
    record {
      words = [];
      samples = [];
      carries = ap (λ n. take n old) (sym none);
      fit = All-nil (λ w. w < 2 ^ (8 * width s));
      legal = All-nil (IsSample s);
      patterns = refl;
      spelled = ap (λ n. drop n old) none;
    }

-- one sample more was spelled
pub one_more : {s : Parameters} {old now new one one_new : List ℕ} (w : ℕ) {at : ℕ} → (h : SpelledSoFar s old now at) → at + w ≤ length old → length now ≡ length old
    → one ≡ take w (drop at now) → SpellsOne s one one_new → new ≡ take at now ++ (one_new ++ drop (at + w) now) → SpelledSoFar s old new (at + w)
one_more {s} {old} {now} w {at} h within len one_is d wrote =
    let front = spellings s h.samples in
    let size : length front ≡ at = omega (arith, ap length h.spelled, length-append front (drop at old), length-drop at old) in
    let ahead : drop at now ≡ drop at old = ap (drop at) h.spelled ∙ drop_at front (drop at old) at size in
    let first : take at now ≡ front = ap (take at) h.spelled ∙ take_at front (drop at old) at size in
    let rest : drop (at + w) now ≡ drop (at + w) old = sym (drop-drop w at now) ∙ ap (drop w) ahead ∙ drop-drop w at old in
    let word : take w (drop at old) ≡ ordered_bytes s.msb (width s) d.word = ap (take w) (sym ahead) ∙ sym one_is ∙ d.carries in
    record {
      words = h.words ++ d.word ∷ [];
      samples = h.samples ++ d.sample ∷ [];
      carries = take-add at w old ∙ (λ i. h.carries i ++ word i)
          ∙ ap (λ l. bytes_of_words s h.words ++ l) (sym (append-nil (ordered_bytes s.msb (width s) d.word)))
          ∙ sym (flat_map-append (ordered_bytes s.msb (width s)) h.words (d.word ∷ []));
      fit = All-push (λ w. w < 2 ^ (8 * width s)) h.words d.word h.fit d.fits;
      legal = All-push (IsSample s) h.samples d.sample h.legal d.legal;
      patterns = map-append (pattern s) h.samples (d.sample ∷ []) ∙ (λ i. h.patterns i ++ d.pattern_is i ∷ []) ∙ sym (map-append (λ w. w % value_count s) h.words (d.word ∷ []));
      spelled = grind (arith, common_steps, append_assoc, append-nil, flat_map-append);
    }
