-- Pieces that are pulled give what the code decodes to.
use Rattle.std.proofs.Common.{◌≡◌, ◌≢◌, ℕ, zero, suc, ◌+◌, ◌-◌, ◌*◌, ◌/◌, ◌%◌, ◌^◌, ◌<◌, ◌≤◌, Bool, List, [], ◌∷◌, ◌++◌}
use Rattle.std.proofs.Common.{length, length-drop, take, drop, refl, ap, arith, sym, ◌∙◌, subst, append_assoc, append-nil, length-append, Some, None, ℤ, pos}
use Rattle.rice_stream.proofs.Words.{mul-le-mul_left, drop-nil, take-length, drop-drop, bits_of-append, bits_of-nil, length-bits_of, Parameters, width, place, spellings, CodedDataSet, bits_of_set}
use Rattle.rice_stream.proofs.Words.{BeginsUnsound, Decoded, Ending, Reached, Ended, CutOff, Past, Large, EndsWith, IsWanted, decoding_begins_afresh, end_there, bits_of, DecodedSoFar}
use Rattle.rice_stream.proofs.Words.{ArePulled, EndsCode}
use Rattle.rice_stream.proofs.Words.{EnoughAfterIsDecoding, EnoughIsDecoding, FrontIsPlace, GiveInParts, IsPlace, IsPulled, Pull, PullsAreDecoding, SeekingIsDecoding, StandsTellPlaces, last_stand}
use Rattle.rice_stream.proofs.Words.{Origin, IsStand, PausesAt, bits_ahead, Pause, Stand, drop-append-add, drop-append_seam}
use Rattle.rice_stream.specs.declared.stand.Pause.TheVariants as pauses
use Rattle.rice_stream.proofs.lemmas.{ReturnedBytes.unsound_on, DecodingLemmas.same_place, DecodedSamples.at_end, DecodedSamples.ends_here, DecodedSamples.ends_reached}

-- Bits of a code were pulled from where decoding began, and a stand is after them.
record HasPulled (s : Parameters) (code : List ℕ) (o : Origin) (stand : Stand) : Type 0 where
  pub front : List Bool
  pub given : List ℤ
  pub rest : List Bool
  pub inside : o.bits ≤ length (bits_of code)
  pub split : drop o.bits (bits_of code) ≡ front ++ rest
  pub stands : IsStand s o stand front given

-- what is left of two lists after some bits
drop_both : (k : ℕ) (xs ys : List Bool) → drop k (xs ++ ys) ≡ drop k xs ++ drop (k - length xs) ys
drop_both zero xs ys = let e : 0 - length xs ≡ 0 = omega arith in ap (λ n. xs ++ drop n ys) (sym e)
drop_both (suc k) [] ys = let e : suc k - 0 ≡ suc k = omega arith in ap (λ n. drop n ys) (sym e)
drop_both (suc k) (x ∷ xs) ys = let e : k - length xs ≡ suc k - suc (length xs) = omega arith in drop_both k xs ys ∙ ap (λ n. drop k xs ++ drop n ys) e

-- the bits of bytes after the first
drop_bits : (n k : ℕ) (code : List ℕ) → n ≤ length code → drop (8 * n + k) (bits_of code) ≡ drop k (bits_of (drop n code))
drop_bits zero k code le = let e : 8 * 0 + k ≡ k = omega arith in ap (λ m. drop m (bits_of code)) e
drop_bits (suc n) k [] le = absurd (omega arith)
drop_bits (suc n) k (x ∷ xs) le =
    let byte = bits_of (x ∷ []) in
    let all : bits_of (x ∷ xs) ≡ byte ++ bits_of xs = bits_of-append (x ∷ []) xs in
    let e : 8 * suc n + k ≡ length byte + (8 * n + k) = omega (arith, length-bits_of (x ∷ [])) in
    (λ i. drop (e i) (all i)) ∙ drop-append-add byte (bits_of xs) (8 * n + k) ∙ drop_bits n k xs (omega arith)

-- the bits after the stand are those of the piece and others
bits_after_stand : (stand : Stand) (piece after : List ℕ) → List Bool
bits_after_stand stand piece after = drop (stand.bits % 8 - length (bits_of piece)) (bits_of after)

-- what is left of a code is the rest of the piece, and what is after it
after_stand : (s : Parameters) (code : List ℕ) (o : Origin) (stand : Stand) (piece after : List ℕ) → (h : HasPulled s code o stand)
    → drop (stand.bits / 8) code ≡ piece ++ after → h.rest ≡ bits_ahead stand piece ++ bits_after_stand stand piece after
unfolding bits_after_stand
after_stand s code o stand piece after h e =
    let n = stand.bits / 8 in
    let k = stand.bits % 8 in
    let here : o.bits + length h.front ≡ 8 * n + k = omega (arith, h.stands.bits) in
    let most : n ≤ length code = omega (arith, here, h.inside, length-drop o.bits (bits_of code), ap length h.split, length-append h.front h.rest, length-bits_of code) in
    sym (drop-append_seam h.front h.rest) ∙ ap (drop (length h.front)) (sym h.split) ∙ drop-drop (length h.front) o.bits (bits_of code)
    ∙ ap (λ m. drop m (bits_of code)) here ∙ drop_bits n k code most ∙ ap (λ l. drop k (bits_of l)) e
    ∙ ap (drop k) (bits_of-append piece after) ∙ drop_both k (bits_of piece) (bits_of after)

-- a piece more was pulled
record PullsOn (s : Parameters) (code : List ℕ) (o : Origin) (stand : Stand) (p : Pull) (given : List ℤ) (after : List ℕ) : Type 0 where
  pub next : HasPulled s code o p.stand
  pub part : List ℤ
  pub more : next.given ≡ given ++ part
  pub count : p.stand.samples ≡ stand.samples + length part
  pub writes : p.new ≡ spellings s part ++ drop (width s * length part) p.old
  pub left : List Bool
  pub rest_is : next.rest ≡ left ++ bits_after_stand stand p.piece after
  pub pauses_at : PausesAt s stand p.piece (length p.old) p.stand left (length part) p.pause
  pub limit : p.pause ≢ pauses.TooLong → p.stand.bits + length left ≤ 2 ^ 52

-- one pull goes on with what was pulled before
pulls_on : (s : Parameters) (code : List ℕ) (o : Origin) (stand : Stand) (p : Pull) (after : List ℕ) → (h : HasPulled s code o stand)
    → IsPulled s code stand p after → PullsOn s code o stand p h.given after
pulls_on s code o stand p after h pulled =
    let d = pulled.1 o h.front h.given h.stands in
    let far = bits_after_stand stand p.piece after in
    record {
      next = record {
        front = h.front ++ d.bits;
        given = h.given ++ d.samples;
        rest = d.rest ++ far;
        inside = h.inside;
        split = h.split ∙ ap (λ l. h.front ++ l) (after_stand s code o stand p.piece after h pulled.0 ∙ ap (λ l. l ++ far) d.parts
            ∙ append_assoc d.bits d.rest far) ∙ sym (append_assoc h.front d.bits (d.rest ++ far));
        stands = d.stands;
      };
      part = d.samples;
      more = refl;
      count = omega (arith, h.stands.samples, d.stands.samples, length-append h.given d.samples);
      writes = d.writes;
      left = d.rest;
      rest_is = refl;
      pauses_at = d.pauses_at;
      limit = λ no.
          let most = d.limit no in
          let ahead : length (bits_of p.piece) - stand.bits % 8 ≡ length d.bits + length d.rest = sym (length-drop (stand.bits % 8) (bits_of p.piece))
          ∙ ap length d.parts ∙ length-append d.bits d.rest in
          within stand.bits (length p.piece) (stand.bits % 8) (length d.bits) (length d.rest) p.stand.bits most (sym (length-bits_of p.piece)) ahead
          (omega (arith, h.stands.bits, d.stands.bits, length-append h.front d.bits)) d.stands.limit;
    }
  where
    within : (old n k bits rest new : ℕ) {m : ℕ} → old + 8 * n ≤ 2 ^ 52 → 8 * n ≡ m → m - k ≡ bits + rest → new ≡ old + bits → new ≤ 2 ^ 52 → new + rest ≤ 2 ^ 52
    within old n k bits rest new most e f g few = omega arith

-- pieces were pulled after these samples
record PullAll (s : Parameters) (code : List ℕ) (o : Origin) (stand : Stand) (pulls : List Pull) (given : List ℤ) : Type 0 where
  pub next : HasPulled s code o (last_stand stand pulls)
  pub more : List ℤ
  pub all : next.given ≡ given ++ more
  pub parts : GiveInParts s stand pulls more

-- and several pulls do, one after another
pull_all : (s : Parameters) (code : List ℕ) (o : Origin) (stand : Stand) (pulls : List Pull) → (h : HasPulled s code o stand) → ArePulled s code stand pulls → PullAll s code o stand pulls h.given
pull_all s code o stand [] h pulled = record { next = h; more = []; all = sym (append-nil h.given); parts = refl }
pull_all s code o stand (p ∷ ps) h pulled =
    let on = pulls_on s code o stand p pulled.0.0 h pulled.0.1 in
    let rest = pull_all s code o p.stand ps on.next pulled.1 in
    record {
      next = rest.next;
      more = on.part ++ rest.more;
      all = rest.all ∙ ap (λ l. l ++ rest.more) on.more ∙ append_assoc h.given on.part rest.more;
      parts = (on.part, rest.more, refl, on.count, on.writes, rest.parts);
    }

-- and one more
parts-push : (s : Parameters) (first : Stand) (pulls : List Pull) (last : Pull) (more part : List ℤ) → GiveInParts s first pulls more
    → last.stand.samples ≡ (last_stand first pulls).samples + length part
    → last.new ≡ spellings s part ++ drop (width s * length part) last.old → GiveInParts s first (pulls ++ last ∷ []) (more ++ part)
parts-push s first [] last more part parts count writes = (part, [], ap (λ l. l ++ part) parts ∙ sym (append-nil part), count, writes, refl)
parts-push s first (p ∷ ps) last more part parts count writes =
    (parts.0, parts.1 ++ part, ap (λ l. l ++ part) parts.2 ∙ append_assoc parts.0 parts.1 part, parts.3, parts.4, parts-push s p.stand ps last parts.1 part parts.5 count writes)

-- how the bits after the stand end, of which so many are its piece's
record EndsAfter (s : Parameters) (stand : Stand) (rest : List Bool) (ahead : ℕ) (ending : Ending) : Type 0 where
  pub none : stand.run ≡ 0
  pub used : ℕ
  pub ends : EndsWith s None stand.block rest ending used
  pub few : used ≤ ahead

-- the coded data set that is not sound lies in the bits that begin with it
unsound_in : (s : Parameters) (b used : ℕ) (left : List Bool) (P : CodedDataSet → Type 0) → BeginsUnsound s b left used P → used ≤ length left
unsound_in s b used left P u = omega (arith, u.bits, ap length u.begins, length-append (bits_of_set s u.refused) u.more)

nothing_far : (stand : Stand) (piece after : List ℕ) → after ≡ [] → bits_after_stand stand piece after ≡ []
unfolding bits_after_stand
nothing_far stand piece after e = let k = stand.bits % 8 - length (bits_of piece) in ap (λ l. drop k (bits_of l)) e ∙ ap (drop k) bits_of-nil ∙ drop-nil k

-- a pause after which nothing is left is the end of the code
pause_finishes : {s : Parameters} (old : Stand) {stand : Stand} (piece after : List ℕ) (room count : ℕ) (left : List Bool) (pause : Pause) {ending : Ending}
    → PausesAt s old piece room stand left count pause → EndsCode pause after ending → EndsAfter s stand (left ++ bits_after_stand old piece after) (length left) ending
pause_finishes {s} old {stand} piece after room count left pause {ending} at e = by_pause pause at e
  where
    far : List Bool
    far = bits_after_stand old piece after

    so : (known : Ending) (used : ℕ) → ending ≡ known → stand.run ≡ 0 → used ≤ length left → EndsWith s None stand.block (left ++ far) known used → EndsAfter s stand (left ++ far) (length left) ending
    so known used is none few ends = record { none = none; used = used; few = few; ends = subst (λ (v : Ending). EndsWith s None stand.block (left ++ far) v used) (sym is) ends }

    alone : (known : Ending) → after ≡ [] → EndsWith s None stand.block left known (length left) → EndsWith s None stand.block (left ++ far) known (length left)
    alone known none ends = subst (λ (l : List Bool). EndsWith s None stand.block l known (length left)) (sym (append-nil left) ∙ ap (λ l. left ++ l) (sym (nothing_far old piece after none))) ends

    by_pause : (pause : Pause) → PausesAt s old piece room stand left count pause → EndsCode pause after ending → EndsAfter s stand (left ++ far) (length left) ending
    by_pause pauses.Blank at e = so Ended (length left) e.1 at.1 (omega arith) (alone Ended e.0 at.2)
    by_pause pauses.Cut at e = so CutOff (length left) e.1 at.1 (omega arith) (alone CutOff e.0 at.2)
    by_pause pauses.RunPastSegment at e = so Past at.2 e at.1 (unsound_in s stand.block at.2 left _ at.3.1) (tt, unsound_on s stand.block at.2 left far _ at.3.1)
    by_pause pauses.ResidualTooLarge at e = so Large at.2 e at.1 (unsound_in s stand.block at.2 left _ at.3.1) (tt, unsound_on s stand.block at.2 left far _ at.3.1)
    by_pause _ at e = absurd e

-- a code that ends was not refused for its length
not_long : (pause : Pause) (after : List ℕ) (ending : Ending) → EndsCode pause after ending → pause ≢ pauses.TooLong
not_long pause after ending e = λ same. absurd (subst (λ (q : Pause). EndsCode q after ending) same e)

-- nothing is pulled yet
at_first : (s : Parameters) (code : List ℕ) (o : Origin) (first : Stand) → o.bits ≤ length (bits_of code) → IsStand s o first [] [] → HasPulled s code o first
at_first s code o first le h = record { front = []; given = []; rest = drop o.bits (bits_of code); inside = le; split = refl; stands = h }

-- what ends there is what the code decodes to
decoded_all : {s : Parameters} {code : List ℕ} {o : Origin} {stand : Stand} {rest : List Bool} {ahead : ℕ} {ending : Ending} → (h : HasPulled s code o stand)
    → h.rest ≡ rest → (f : EndsAfter s stand rest ahead ending) → Decoded s (drop o.bits (bits_of code)) None h.given ending (length h.front + f.used)
decoded_all {s} {stand} {rest} {ending} h e f =
    let st = h.stands in
    let ends = end_there s stand.block st.blocks rest ending f.used (same_place s st.blocks stand.block st.state.legal.interval_from st.here) f.ends in
    subst (λ (l : List Bool). Decoded s l None h.given ending (length h.front + f.used)) (ap (λ l. h.front ++ l) (sym e) ∙ sym h.split)
    (ends_here rest None ending f.used (subst (λ (n : ℕ). DecodedSoFar s h.front st.begun st.blocks n h.given) f.none st.decoded) (λ i lt. tt) ends)

-- Pieces were pulled from where decoding began to where the code ends.
record PulledAll (s : Parameters) (code : List ℕ) (o : Origin) (first : Stand) (pulls : List Pull) (last : Stand) (ending : Ending) : Type 0 where
  pub samples : List ℤ
  pub used : ℕ
  pub parts : GiveInParts s first pulls samples
  pub decoded : Decoded s (drop o.bits (bits_of code)) None samples ending used
  pub limit : o.bits + used ≤ 2 ^ 52
  pub count : last.samples ≡ o.samples + length samples

-- pulls up to the end of a code give what it decodes to
pulled_all : {s : Parameters} {code : List ℕ} {o : Origin} {first : Stand} (pulls : List Pull) (last : Pull) (after : List ℕ) (ending : Ending)
    → o.bits ≤ length (bits_of code) → IsStand s o first [] [] → ArePulled s code first pulls
    → IsPulled s code (last_stand first pulls) last after → EndsCode last.pause after ending → PulledAll s code o first (pulls ++ last ∷ []) last.stand ending
unfolding at_first
pulled_all {s} {code} {o} {first} pulls last after ending inside begins pulled last_pulled ends =
    let all = pull_all s code o first pulls (at_first s code o first inside begins) pulled in
    let on = pulls_on s code o (last_stand first pulls) last after all.next last_pulled in
    let f = pause_finishes (last_stand first pulls) last.piece after (length last.old) (length on.part) on.left last.pause on.pauses_at ends in
    let same : on.next.given ≡ all.more ++ on.part = on.more ∙ ap (λ l. l ++ on.part) all.all in
    record {
      samples = all.more ++ on.part;
      used = length on.next.front + f.used;
      parts = parts-push s first pulls last all.more on.part all.parts on.count on.writes;
      decoded = subst (λ (l : List ℤ). Decoded s (drop o.bits (bits_of code)) None l ending (length on.next.front + f.used)) same
          (decoded_all on.next on.rest_is f);
      limit = omega (arith, on.limit (not_long last.pause after ending ends), on.next.stands.bits, f.few);
      count = on.next.stands.samples ∙ ap (λ l. o.samples + length l) same;
    }

-- Pieces were pulled until there were n samples, and no block more.
record PulledEnough (s : Parameters) (code : List ℕ) (o : Origin) (first : Stand) (pulls : List Pull) (n : ℕ) (last : Stand) : Type 0 where
  pub samples : List ℤ
  pub used : ℕ
  pub parts : GiveInParts s first pulls samples
  pub decoded : Decoded s (drop o.bits (bits_of code)) (Some n) (take n samples) Reached used
  pub bits : o.bits + used ≡ last.bits
  pub limit : last.bits ≤ 2 ^ 52
  pub count : last.samples ≡ o.samples + length samples
  pub blocks : ℕ
  pub size : length samples ≡ s.block * blocks
  pub here : place s blocks ≡ last.block

-- pulls up to as many samples as are asked for give these
pulled_enough : {s : Parameters} (code : List ℕ) {o : Origin} {first : Stand} (pulls : List Pull) (n : ℕ) → o.bits ≤ length (bits_of code) → IsStand s o first [] [] → ArePulled s code first pulls
    → o.samples + n ≤ (last_stand first pulls).samples → (last_stand first pulls).samples < o.samples + n + s.block → PulledEnough s code o first pulls n (last_stand first pulls)
unfolding at_first
pulled_enough {s} code {o} {first} pulls n inside begins pulled enough few =
    let all = pull_all s code o first pulls (at_first s code o first inside begins) pulled in
    let h = all.next in
    let st = h.stands in
    let count : length h.given ≡ s.block * st.blocks = st.decoded.len in
    let here : (last_stand first pulls).samples ≡ o.samples + length h.given = omega (arith, st.samples) in
    let wanted : (i : ℕ) → i < st.begun → IsWanted s (Some n) i = λ i lt. below s.block i st.blocks n (omega (arith, lt, st.before)) (omega (arith, few, here, count)) in
    let decoded = ends_reached h.rest n st.state.legal st.decoded wanted (omega (arith, enough, here, count)) in
    let first_n : n - s.block * 0 ≡ n = omega arith in
    record {
      samples = all.more;
      used = length h.front + 0;
      parts = all.parts;
      decoded = subst (λ (l : List Bool). Decoded s l (Some n) (take n all.more) Reached (length h.front + 0)) (sym h.split)
          (subst (λ (l : List ℤ). Decoded s (h.front ++ h.rest) (Some n) l Reached (length h.front + 0)) (λ i. take (first_n i) (all.all i)) decoded);
      bits = omega (arith, st.bits);
      limit = st.limit;
      count = st.samples ∙ ap (λ l. o.samples + length l) all.all;
      blocks = st.blocks;
      size = ap length (sym all.all) ∙ count;
      here = st.here;
    }
  where
    below : (j i b n : ℕ) → i < b → j * b < n + j → j * i < n
    below j i b n lt most = let le : j * (i + 1) ≤ j * b = mul-le-mul_left j (omega arith) in let e : j * (i + 1) ≡ j * i + j = omega arith in omega arith

-- ---- from the front of a code, and from where an interval begins

-- from the front of a code on
pub pulls_are_decoding : PullsAreDecoding
pulls_are_decoding s code first pulls last after ending begins pulled last_pulled ends =
    let p = pulled_all pulls last after ending (omega arith) begins pulled last_pulled ends in
    (p.samples, p.used, p.parts, p.decoded)

-- and up to a number of samples
pub pulls_to_a_count_are_decoding : EnoughIsDecoding
pulls_to_a_count_are_decoding s code first pulls n begins pulled enough few =
    let p = pulled_enough code pulls n (omega arith) begins pulled (omega (arith, enough)) (omega (arith, few)) in
    let bits : p.used ≡ (last_stand first pulls).bits = omega (arith, p.bits) in
    (p.samples, p.parts, subst (λ (m : ℕ). Decoded s (bits_of code) (Some n) (take n p.samples) Reached m) bits p.decoded)

-- a code can be opened at its front
pub front_is_place : FrontIsPlace
front_is_place s code =
    let none : 0 ≡ s.block * (s.interval * 0) = omega arith in
    record { count = refl; begins = record { intervals = 0; len = none; decoded = at_end s 0 0 (pos 0) (bits_of code) (Some 0) Reached 0 (omega arith, refl) } }

-- the place is in the code
inside_code : (s : Parameters) (code : List ℕ) (o : Origin) (before : List ℤ) → IsPlace s code o before → o.bits ≤ length (bits_of code)
inside_code s code o before place =
    let h = place.begins.decoded in
    omega (arith, ap length h.parts, length-append h.front h.rest, h.bits_used, h.ends.1)

-- Pieces were pulled from a place of the code to where it ends: what all of it decodes to.
pub record SeekAll (s : Parameters) (code : List ℕ) (before : List ℤ) (first : Stand) (pulls : List Pull) (last : Stand) (ending : Ending) : Type 0 where
  pub samples : List ℤ
  pub used : ℕ
  pub parts : GiveInParts s first pulls samples
  pub decoded : Decoded s (bits_of code) None (before ++ samples) ending used
  pub limit : used ≤ 2 ^ 52
  pub count : last.samples ≡ length (before ++ samples)

-- pulls from the place of an interval on give what follows the samples before it
pub seek_all : {s : Parameters} {code : List ℕ} {o : Origin} {before : List ℤ} {first : Stand} (pulls : List Pull) (last : Pull) (after : List ℕ)
    (ending : Ending) → IsPlace s code o before → IsStand s o first [] []
    → ArePulled s code first pulls → IsPulled s code (last_stand first pulls) last after → EndsCode last.pause after ending → SeekAll s code before first (pulls ++ last ∷ []) last.stand ending
seek_all {s} {code} {o} {before} {first} pulls last after ending place begins pulled last_pulled ends =
    let p = pulled_all pulls last after ending (inside_code s code o before place) begins pulled last_pulled ends in
    record {
      samples = p.samples;
      used = o.bits + p.used;
      parts = p.parts;
      decoded = decoding_begins_afresh s begins.state.legal (bits_of code) before p.samples None ending o.bits p.used place.begins p.decoded;
      limit = p.limit;
      count = omega (arith, p.count, place.count, length-append before p.samples);
    }

-- Pieces pulled from the place of an interval to the end of the code give what all of it decodes to after the samples before this place.
pub pulls_from_an_interval_are_decoding : SeekingIsDecoding
pulls_from_an_interval_are_decoding s code o before first pulls last after ending place begins pulled last_pulled ends =
    let p = seek_all pulls last after ending place begins pulled last_pulled ends in
    (p.samples, p.used, p.parts, p.decoded)

-- Pieces were pulled from there until there were n samples, and no block more.
pub record SeekEnough (s : Parameters) (code : List ℕ) (before : List ℤ) (first : Stand) (pulls : List Pull) (count n : ℕ) (last : Stand) : Type 0 where
  pub samples : List ℤ
  pub parts : GiveInParts s first pulls samples
  pub decoded : Decoded s (bits_of code) (Some count) (before ++ take n samples) Reached last.bits
  pub size : n ≤ length samples
  pub limit : last.bits ≤ 2 ^ 52

-- and up to a number of samples
pub seek_enough : {s : Parameters} {code : List ℕ} {o : Origin} {before : List ℤ} {first : Stand} (pulls : List Pull) (n : ℕ) → IsPlace s code o before
    → IsStand s o first [] [] → ArePulled s code first pulls
    → o.samples + n ≤ (last_stand first pulls).samples → (last_stand first pulls).samples < o.samples + n + s.block → SeekEnough s code before first pulls (o.samples + n) n (last_stand first pulls)
seek_enough {s} {code} {o} {before} {first} pulls n place begins pulled enough few =
    let p = pulled_enough code pulls n (inside_code s code o before place) begins pulled enough few in
    let d = decoding_begins_afresh s begins.state.legal (bits_of code) before (take n p.samples) (Some n) Reached o.bits p.used place.begins p.decoded in
    record {
      samples = p.samples;
      parts = p.parts;
      decoded = subst (λ (m : ℕ). Decoded s (bits_of code) (Some (o.samples + n)) (before ++ take n p.samples) Reached m) p.bits
          (subst (λ (m : ℕ). Decoded s (bits_of code) (Some (m + n)) (before ++ take n p.samples) Reached (o.bits + p.used)) (sym place.count) d);
      size = omega (arith, p.count, enough);
      limit = p.limit;
    }

-- and where pieces pulled from there give n samples, and less than a block more, the first n are those that the code decodes to by the count of all
pub enough_after_is_decoding : EnoughAfterIsDecoding
enough_after_is_decoding s code o before first pulls n place begins pulled enough few =
    let p = seek_enough pulls n place begins pulled enough few in
    (p.samples, p.parts, p.decoded)

-- no pull goes back
pulled_far : (s : Parameters) (code : List ℕ) (o : Origin) (first : Stand) (pulls : List Pull) → o.bits ≤ length (bits_of code) → IsStand s o first [] []
    → ArePulled s code first pulls → o.samples ≤ (last_stand first pulls).samples
pulled_far s code o first pulls inside begins pulled = let all = pull_all s code o first pulls (at_first s code o first inside begins) pulled in omega (arith, all.next.stands.samples)

-- where an interval begins, the stand's counts are its place
pub stands_tell_places : StandsTellPlaces
stands_tell_places s code o before first pulls place begins pulled at_start no_run =
    let last = last_stand first pulls in
    let legal = begins.state.legal in
    let j : 1 ≤ s.block = grind (arith, legal.block) in
    let n = last.samples - o.samples in
    let far : o.samples ≤ last.samples = pulled_far s code o first pulls (inside_code s code o before place) begins pulled in
    let p = pulled_enough code pulls n (inside_code s code o before place) begins pulled (omega arith) (omega arith) in
    let xs = p.samples in
    let count : n ≡ length xs = omega (arith, p.count) in
    let whole : take n xs ≡ xs = ap (λ m. take m xs) count ∙ take-length xs in
    let d = decoding_begins_afresh s legal (bits_of code) before (take n xs) (Some n) Reached o.bits p.used place.begins p.decoded in
    let some : 0 < s.interval = omega (arith, legal.interval_from) in
    let q = p.blocks / s.interval in
    let blocks : p.blocks ≡ s.interval * q = omega (arith, p.here, at_start) in
    let k = place.begins.intervals in
    let intervals : s.interval * (k + q) ≡ s.interval * k + p.blocks = omega (arith, blocks) in
    let all : length before + n ≡ length (before ++ xs) = omega (arith, count, length-append before xs) in (
      xs,
      p.parts,
      record {
        count = omega (arith, p.count, place.count, length-append before xs);
        begins = record {
          intervals = k + q;
          len = sizes s.block (s.interval * k) p.blocks (s.interval * (k + q)) (length before) (length xs) (length (before ++ xs)) place.begins.len p.size intervals (length-append before xs);
          decoded = subst (λ (m : ℕ). Decoded s (bits_of code) (Some (length (before ++ xs))) (before ++ xs) Reached m) p.bits
              (subst (λ (l : List ℤ). Decoded s (bits_of code) (Some (length (before ++ xs))) (before ++ l) Reached (o.bits + p.used)) whole
              (subst (λ (m : ℕ). Decoded s (bits_of code) (Some m) (before ++ take n xs) Reached (o.bits + p.used)) all d));
        };
      },
    )
  where
    sizes : (j a b c x y all : ℕ) → x ≡ j * a → y ≡ j * b → c ≡ a + b → all ≡ x + y → all ≡ j * c
    sizes j a b c x y all e f g h = let k = ap (λ v. j * v) g in omega arith
