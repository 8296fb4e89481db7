-- Bits are decoded in one way only.
use Rattle.std.proofs.Common.{◌≡◌, ℕ, zero, suc, ◌+◌, ◌*◌, ◌<◌, ◌≤◌, Bool, true, false, List, [], ◌∷◌, ◌++◌, length, take, drop, refl, ap, arith, sym, ◌∙◌, inl, inr, subst, append_assoc}
use Rattle.std.proofs.Common.{length-append, length-drop, Option, Some, None, ℤ}
use Rattle.rice_code.proofs.Words.{All, Contains, IfSome, IsSomeAnd, cond, AllByRecursion, length-take-le, take-append-drop, All-contains, Contains-append_left, recursion_from_All, bits_read}
use Rattle.rice_code.proofs.Words.{Parameters, IsLegal, IsSample, is_reference, is_reference_sample, pattern, residuals, residual, last_of, same_pattern, same_residual, same_residuals, inside_block}
use Rattle.rice_code.proofs.Words.{no_reference_at, BlockData, block_data, blocks_from, CodedDataSet, bits_of_set, IsForm, RunIsSound, ResidualsAreSound, blocks_in, blocks_in_all, block_after}
use Rattle.rice_code.proofs.Words.{padding, Lies, DecodedFrom, Ending, Reached, Ended, CutOff, Past, Large, IsWanted, AreTaken, BeginsUnsound, EndsWith, common_steps}
use Rattle.rice_code.proofs.lemmas.code.{SoundBlocks.all_take, SoundBlocks.all_drop, SoundBlocks.last_legal, FormsReadInOneWay.forms_read_in_one_way, OnesOfForms.forms_have_a_one}
use Rattle.rice_code.proofs.lemmas.meaning.{CoveredBlocks.bool_cases, SentSetsAreTaken.IsSound}

-- what excludes each other
reached_or_not : (asked : Option ℕ) (m : ℕ) → IsSomeAnd asked (λ n. n ≤ m) → IfSome asked (λ n. m < n) → ⊥
reached_or_not None m h k = absurd h
reached_or_not (Some n) m h k = omega arith

zeros_or_one : (rest : List Bool) → All (λ bit. bit ≡ false) rest → Contains rest true → ⊥
zeros_or_one rest h k = let e : true ≡ false = All-contains (λ bit. bit ≡ false) rest true h k in absurd cc

begins_with_one : (s : Parameters) (b : ℕ) (d : CodedDataSet) (rest more : List Bool) → IsLegal s → IsForm s b d → rest ≡ bits_of_set s d ++ more → Contains rest true
begins_with_one s b d rest more legal h e = grind (arith, common_steps, Contains-append_left, forms_have_a_one)

refused_here : {s : Parameters} {b : ℕ} {rest : List Bool} {used : ℕ} (P : CodedDataSet → Type 0) (d : CodedDataSet) (more : List Bool) → IsLegal s
    → BeginsUnsound s b rest used P → IsForm s b d → rest ≡ bits_of_set s d ++ more → P d → ⊥
refused_here {s} {b} P d more legal r h e k = grind (arith, common_steps, forms_read_in_one_way)

past_and_large : (s : Parameters) (b : ℕ) (rest : List Bool) (m n : ℕ) → IsLegal s → BeginsUnsound s b rest m (RunIsSound s b) → BeginsUnsound s b rest n (ResidualsAreSound s) → ⊥
past_and_large s b rest m n legal h k = grind (arith, common_steps, forms_read_in_one_way)

same_refusal : (s : Parameters) (b : ℕ) (rest : List Bool) (m n : ℕ) (P : CodedDataSet → Type 0) → IsLegal s → BeginsUnsound s b rest m P → BeginsUnsound s b rest n P → m ≡ n
same_refusal s b rest m n P legal h k = grind (arith, common_steps, forms_read_in_one_way)

-- legal parameters, and where decoding ends
record EndsThere (s : Parameters) (asked : Option ℕ) (b : ℕ) (rest : List Bool) (ending : Ending) (used : ℕ) : Type 0 where
  legal : IsLegal s
  ending_is : EndsWith s asked b rest ending used

-- where decoding ends, no coded data set is taken
takes_no_set : {s : Parameters} {asked : Option ℕ} (b : ℕ) {rest : List Bool} (ending : Ending) (used : ℕ) → EndsThere s asked b rest ending used →
    (d : CodedDataSet) (more : List Bool) → IsWanted s asked b → IsSound s b d → rest ≡ bits_of_set s d ++ more → ⊥
takes_no_set {s} {asked} b Reached used ends d more go sound e = reached_or_not asked (s.block * b) ends.ending_is.0 go
takes_no_set {s} b {rest} Ended used ends d more go sound e = zeros_or_one rest ends.ending_is.1 (begins_with_one s b d rest more ends.legal sound.0 e)
takes_no_set b CutOff used ends d more go sound e = ends.ending_is.2 d more sound.0 e
takes_no_set {s} b {rest} Past used ends d more go sound e = refused_here (RunIsSound s b) d more ends.legal ends.ending_is.1 sound.0 e sound.1
takes_no_set {s} b {rest} Large used ends d more go sound e = refused_here (ResidualsAreSound s) d more ends.legal ends.ending_is.1 sound.0 e sound.2

-- decoding ends in one way
same_ending : {s : Parameters} (asked : Option ℕ) (b : ℕ) (rest : List Bool) (p q : Ending) {m n : ℕ} → IsLegal s → EndsWith s asked b rest p m → EndsWith s asked b rest q n → (p ≡ q) × (m ≡ n)
same_ending asked b rest Reached Reached legal h k = (refl, h.1 ∙ sym k.1)
same_ending asked b rest Ended Ended legal h k = (refl, h.2 ∙ sym k.2)
same_ending asked b rest CutOff CutOff legal h k = (refl, h.3 ∙ sym k.3)
same_ending {s} asked b rest Past Past {m} {n} legal h k = (refl, same_refusal s b rest m n (RunIsSound s b) legal h.1 k.1)
same_ending {s} asked b rest Large Large {m} {n} legal h k = (refl, same_refusal s b rest m n (ResidualsAreSound s) legal h.1 k.1)
same_ending asked b rest Ended CutOff legal h k = absurd (zeros_or_one rest h.1 k.1)
same_ending asked b rest CutOff Ended legal h k = absurd (zeros_or_one rest k.1 h.1)
same_ending {s} asked b rest Past Large {m} {n} legal h k = absurd (past_and_large s b rest m n legal h.1 k.1)
same_ending {s} asked b rest Large Past {m} {n} legal h k = absurd (past_and_large s b rest n m legal k.1 h.1)
same_ending {s} asked b rest Reached _ legal h k = absurd (reached_or_not asked (s.block * b) h.0 k.0)
same_ending {s} asked b rest _ Reached legal h k = absurd (reached_or_not asked (s.block * b) k.0 h.0)
same_ending {s} asked b rest Ended _ legal h k = absurd (zeros_or_one rest h.1 (begins_with_one s b k.1.refused rest k.1.more legal k.1.form k.1.begins))
same_ending {s} asked b rest _ Ended legal h k = absurd (zeros_or_one rest k.1 (begins_with_one s b h.1.refused rest h.1.more legal h.1.form h.1.begins))
same_ending asked b rest CutOff _ legal h k = absurd (h.2 k.1.refused k.1.more k.1.form k.1.begins)
same_ending asked b rest _ CutOff legal h k = absurd (k.2 h.1.refused h.1.more h.1.form h.1.begins)

-- at block b nothing of the rest is taken
abbrev NothingFollows : Parameters → Option ℕ → ℕ → List Bool → Type 0
NothingFollows s asked b rest = (d : CodedDataSet) (more : List Bool) → IsWanted s asked b → IsSound s b d → rest ≡ bits_of_set s d ++ more → ⊥

-- data sets up to block m that are all taken of bits, and nothing follows them
record TakesAllSets (s : Parameters) (asked : Option ℕ) (b position m : ℕ) (ds : List CodedDataSet) (bits rest : List Bool) : Type 0 where
  end_is : b + length (blocks_in_all s b ds) ≡ m
  lie : Lies s b position ds bits
  taken : AreTaken s asked b ds
  nothing : NothingFollows s asked m rest

same_sets : {s : Parameters} (asked : Option ℕ) (b position : ℕ) {m n : ℕ} {ds es : List CodedDataSet} {f g r q : List Bool} → IsLegal s →
    TakesAllSets s asked b position m ds f r → TakesAllSets s asked b position n es g q → f ++ r ≡ g ++ q → (ds ≡ es) × (f ≡ g) × (r ≡ q)
same_sets asked b position {ds = []} {es = []} {r} {q} legal this_way that_way e =
    (refl, this_way.lie ∙ sym that_way.lie, ap (λ v. v ++ r) (sym this_way.lie) ∙ (e ∙ ap (λ v. v ++ q) that_way.lie))
same_sets {s} asked b position {m} {ds = []} {es = d ∷ es} {r} {q} legal this_way that_way e =
    let P : ℕ → Type 0 = λ i. NothingFollows s asked i r in
    let here : m ≡ b = omega arith in
    let all : r ≡ bits_of_set s d ++ ((that_way.lie.0 ++ that_way.lie.1) ++ q) = grind (arith, common_steps, append_assoc) in
    absurd (subst P here this_way.nothing d ((that_way.lie.0 ++ that_way.lie.1) ++ q) that_way.taken.0 (that_way.taken.1, that_way.taken.2, that_way.taken.3) all)
same_sets {s} asked b position {n} {ds = d ∷ ds} {es = []} {r} {q} legal this_way that_way e =
    let P : ℕ → Type 0 = λ i. NothingFollows s asked i q in
    let here : n ≡ b = omega arith in
    let all : q ≡ bits_of_set s d ++ ((this_way.lie.0 ++ this_way.lie.1) ++ r) = grind (arith, common_steps, append_assoc) in
    absurd (subst P here that_way.nothing d ((this_way.lie.0 ++ this_way.lie.1) ++ r) this_way.taken.0 (this_way.taken.1, this_way.taken.2, this_way.taken.3) all)
same_sets {s} asked b position {m} {n} {ds = d ∷ ds} {es = c ∷ es} {f} {g} {r} {q} legal this_way that_way e =
    let left : f ++ r ≡ bits_of_set s d ++ (this_way.lie.0 ++ (this_way.lie.1 ++ r)) = grind (arith, common_steps, append_assoc) in
    let right : g ++ q ≡ bits_of_set s c ++ (that_way.lie.0 ++ (that_way.lie.1 ++ q)) = grind (arith, common_steps, append_assoc) in
    let one = forms_read_in_one_way b d c (this_way.lie.0 ++ (this_way.lie.1 ++ r)) (that_way.lie.0 ++ (that_way.lie.1 ++ q)) legal this_way.taken.1 that_way.taken.1 (sym left ∙ (e ∙ right)) in
    let same = one.0 in
    let two = bits_read this_way.lie.0 that_way.lie.0 (this_way.lie.1 ++ r) (that_way.lie.1 ++ q)
    (this_way.lie.2 ∙ (ap (λ x. padding s (block_after s b x) (position + length (bits_of_set s x))) same ∙ sym that_way.lie.2)) one.1 in
    let skipped = two.0 in
    let P : CodedDataSet → Type 0 = λ x. Lies s (block_after s b x) (position + length (bits_of_set s x ++ that_way.lie.0)) es that_way.lie.1 in
    let Q : List Bool → Type 0 = λ v. Lies s (block_after s b d) (position + length (bits_of_set s d ++ v)) es that_way.lie.1 in
    let R : CodedDataSet → Type 0 = λ x. AreTaken s asked (block_after s b x) es in
    let lies : Lies s (block_after s b d) (position + length (bits_of_set s d ++ this_way.lie.0)) es that_way.lie.1 = subst Q (sym skipped) (subst P (sym same) that_way.lie.4) in
    let taken : AreTaken s asked (block_after s b d) es = subst R (sym same) that_way.taken.4 in
    let next = ap (λ x. block_after s b x + length (blocks_in_all s (block_after s b x) es)) same in
    let bm' : block_after s b d + length (blocks_in_all s (block_after s b d) ds) ≡ m = omega (arith, length-append (blocks_in s b d) (blocks_in_all s (block_after s b d) ds)) in
    let bn' : block_after s b c + length (blocks_in_all s (block_after s b c) es) ≡ n = omega (arith, length-append (blocks_in s b c) (blocks_in_all s (block_after s b c) es)) in
    let rest = same_sets asked (block_after s b d) (position + length (bits_of_set s d ++ this_way.lie.0)) legal
    (record { end_is = bm'; lie = this_way.lie.4; taken = this_way.taken.4; nothing = this_way.nothing }) (record { end_is = next ∙ bn'; lie = lies; taken = taken; nothing = that_way.nothing })
    two.1 in
    ((λ i. same i ∷ rest.0 i), this_way.lie.3 ∙ ((λ i. bits_of_set s (same i) ++ (skipped i ++ rest.1 i)) ∙ sym that_way.lie.3), rest.2)

-- so many samples
record AreSamples (s : Parameters) (count : ℕ) (xs : List ℤ) : Type 0 where
  legal : AllByRecursion (IsSample s) xs
  len : length xs ≡ count

-- a block says its samples
same_block : {s : Parameters} (b : ℕ) (p : ℤ) {xs ys : List ℤ} → IsLegal s → 1 ≤ s.block → IsSample s p → AreSamples s s.block xs → AreSamples s s.block ys
    → block_data s b p xs ≡ block_data s b p ys → xs ≡ ys
same_block b p {xs = []} legal j h these those e = absurd (omega arith)
same_block b p {xs = x ∷ xs} {ys = []} legal j h these those e = absurd (omega arith)
same_block {s} b p {xs = x ∷ xs} {ys = y ∷ ys} legal j h these those e =
    let i = s.block * b in
    let ds : residual s i p x ∷ residuals s (i + 1) x xs ≡ residual s i p y ∷ residuals s (i + 1) y ys = ap (λ c. c.residuals) e in
    let one : residual s i p x ≡ residual s i p y = cc in
    let others : residuals s (i + 1) x xs ≡ residuals s (i + 1) y ys = cc in
    let reference = λ (v : Bool) (f : is_reference s b ≡ v). ap (λ u. cond u (Some (pattern s x)) None) (sym f) ∙ (ap (λ c. c.reference) e ∙ ap (λ u. cond u (Some (pattern s y)) None) f) in
    let first : x ≡ y =
    elim (bool_cases (is_reference s b)) [
      | inl f ↦ let g : Some (pattern s x) ≡ Some (pattern s y) = reference true f in same_pattern s x y legal.bits_from these.legal.0 those.legal.0 cc
      | inr f ↦ same_residual s i p legal.bits_from h these.legal.0 those.legal.0 (no_reference_at s b j f) one
    ] in
    let inside = λ (t : ℕ) (lt : t < length xs). (let z : i + 1 + t ≡ i + (1 + t) = omega arith in ap (λ v. is_reference_sample s v) z) ∙ inside_block s b (1 + t) (omega arith) (omega arith) in
    grind (arith, common_steps, same_residuals)

same_samples : {s : Parameters} (b : ℕ) (p : ℤ) (n : ℕ) {xs ys : List ℤ} → IsLegal s → 1 ≤ s.block → IsSample s p → AreSamples s (s.block * n) xs → AreSamples s (s.block * n) ys
    → blocks_from s b p n xs ≡ blocks_from s b p n ys → xs ≡ ys
same_samples b p zero {xs = []} {ys = []} legal j h these those e = refl
same_samples b p zero {xs = []} {ys = y ∷ ys} legal j h these those e = absurd (omega arith)
same_samples b p zero {xs = x ∷ xs} legal j h these those e = absurd (omega arith)
same_samples {s} b p (suc count) {xs} {ys} legal j h these those e =
    let one : block_data s b p (take s.block xs) ≡ block_data s b p (take s.block ys) = first_of_two _ _ _ _ e in
    let others : blocks_from s (b + 1) (last_of p (take s.block xs)) count (drop s.block xs) ≡ blocks_from s (b + 1) (last_of p (take s.block ys)) count (drop s.block ys) = second_of_two _ _ _ _ e in
    let kf = all_take (IsSample s) s.block xs these.legal in
    let lf = all_take (IsSample s) s.block ys those.legal in
    let front = same_block b p legal j h (record { legal = kf; len = length-take-le s.block xs (omega arith) })
    (record { legal = lf; len = length-take-le s.block ys (omega arith) }) one in
    let back = same_samples (b + 1) (last_of p (take s.block xs)) count legal j (last_legal s p (take s.block xs) h kf)
    (record {
      legal = all_drop (IsSample s) s.block xs these.legal;
      len = omega (arith, length-drop s.block xs);
    }) (record {
      legal = all_drop (IsSample s) s.block ys those.legal;
      len = omega (arith, length-drop s.block ys);
    }) (others ∙ ap (λ v. blocks_from s (b + 1) (last_of p v) count (drop s.block ys)) (sym front)) in
    sym (take-append-drop s.block xs) ∙ ((λ i. front i ++ back i) ∙ take-append-drop s.block ys)
  where
    first_of_two : (c d : BlockData) (cs ds : List BlockData) → c ∷ cs ≡ d ∷ ds → c ≡ d
    first_of_two c d cs ds e = cc

    second_of_two : (c d : BlockData) (cs ds : List BlockData) → c ∷ cs ≡ d ∷ ds → cs ≡ ds
    second_of_two c d cs ds e = cc

-- Two decodings of the same bits from the same place on agree: in their samples, their ending, and how many bits they used.
pub decoded_is_one : {s : Parameters} → IsLegal s → {b position : ℕ} {t : ℤ} → IsSample s t → {bits : List Bool} {asked : Option ℕ} {xs ys : List ℤ} {p q : Ending} {m n : ℕ} →
    DecodedFrom s b position t bits asked xs p m → DecodedFrom s b position t bits asked ys q n → (xs ≡ ys) × (p ≡ q) × (m ≡ n)
decoded_is_one {s} legal {b} {position} {t} sample {asked} {p} {q} h k =
    let j : 1 ≤ s.block = grind (arith, legal.block) in
    let cs = blocks_in_all s b h.sets in
    let ds = blocks_in_all s b k.sets in
    let same = same_sets asked b position legal (record {
      end_is = refl;
      lie = h.lie;
      taken = h.taken;
      nothing = takes_no_set (b + length cs) p h.last (record { legal = legal; ending_is = h.ends });
    }) (record {
      end_is = refl;
      lie = k.lie;
      taken = k.taken;
      nothing = takes_no_set (b + length ds) q k.last (record { legal = legal; ending_is = k.ends });
    }) (sym h.parts ∙ k.parts) in
    let blocks : cs ≡ ds = ap (λ v. blocks_in_all s b v) same.0 in
    let count = ap length blocks in
    let P : ℕ → Type 0 = λ i. EndsWith s asked (b + i) k.rest q k.last in
    let Q : List Bool → Type 0 = λ v. EndsWith s asked (b + length cs) v q k.last in
    let ending = same_ending asked (b + length cs) h.rest p q legal h.ends (subst Q (sym same.2) (subst P (sym count) k.ends)) in
    let all = same_samples b t (length cs) legal j sample (record { legal = recursion_from_All (IsSample s) h.all h.legal; len = h.len }) (record {
      legal = recursion_from_All (IsSample s) k.all k.legal;
      len = k.len ∙ ap (λ i. s.block * i) (sym count);
    }) (h.blocks ∙ (blocks ∙ (sym k.blocks ∙ ap (λ i. blocks_from s b t i k.all) (sym count)))) in
    grind (arith, common_steps)
