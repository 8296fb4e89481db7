-- Pieces of a code that are pulled give what a call writes that decodes all of it.
use Rattle.rice_calls.proofs.Words.{◌≡◌, ◌≢◌, ℕ, ◌+◌, ◌*◌, ◌/◌, ◌<◌, ◌≤◌, ◌==◌, Bool, cond, List, [], ◌∷◌, ◌++◌, length, take, drop, Option, Some, None, refl, inl, inr, sym, ◌∙◌, ap, subst, arith}
use Rattle.rice_calls.proofs.Words.{length-append, take-append-drop, ℤ, mul-div_cancel_left, mul-le-mul_left, cases_lt, length-take-le, take_at, bits_of, bits_of-append, Parameters, IsLegal, width}
use Rattle.rice_calls.proofs.Words.{spellings, zero_is_sample, Decoded, Ending, Reached, Ended, CutOff, Past, Large, decoded_is_one, EndsDecoding, EndsCode, IsPlace, place_at, Origin, IsStand}
use Rattle.rice_calls.proofs.Words.{DecodesMore, Fault, Report, Pause, Stand, FaultOf, decodes_as, never_reached, seek_all, seek_enough, stands_tell_places, decoded_before, length-spellings}
use Rattle.rice_calls.proofs.Words.{spellings-append, RiceDrain, RiceReport, Status, DecodesInto, StandsInFront, ArePulled, DrainsTellPlaces, EndsAll, EnoughIsDecoding, IsPulled, Pull}
use Rattle.rice_calls.proofs.Words.{PullsAreDecoding, WriteInParts, last_drain, place_all, report_of, status_number, pause_status, fault_status, fault_place, pause_place}
use Rattle.rice_calls.proofs.lemmas.{BytesOfPulledPiece.more_samples, ReturnedSamples.decode_suffices}
use Rattle.rice_stream.specs.Laws as stream
use Rattle.rice_stream.specs.declared.outcome.Fault.TheVariants as faults
use Rattle.rice_stream.specs.declared.stand.Pause.TheVariants as pauses
use Rattle.rice_calls.specs.declared.status.Status.TheVariants as statuses

-- ---- the pulls, as those of the engine

-- the pause that has this number
abbrev pause_of : ℕ → Pause
pause_of n = cond (n == 9) pauses.Full (cond (n == 11) pauses.Blank (cond (n == 12) pauses.Cut (cond (n == 7) pauses.RunPastSegment (cond (n == 8) pauses.ResidualTooLarge pauses.TooLong))))

-- the number of a status tells the pause
pause_is : (q : Pause) (n : ℕ) → n ≡ status_number (pause_status q) → q ≡ pause_of n
pause_is pauses.Full n e = ap pause_of (sym e)
pause_is pauses.Blank n e = ap pause_of (sym e)
pause_is pauses.Cut n e = ap pause_of (sym e)
pause_is pauses.RunPastSegment n e = ap pause_of (sym e)
pause_is pauses.ResidualTooLarge n e = ap pause_of (sym e)
pause_is pauses.TooLong n e = ap pause_of (sym e)

abbrev engine : Pull → stream.Pull
engine p = record { piece = p.piece; stand = p.drain.stand; pause = pause_of p.status; old = p.old; new = p.new }

abbrev engines : List Pull → List stream.Pull
engines [] = []
engines (p ∷ ps) = engine p ∷ engines ps

-- a pull of C is one of the engine below
one_pulled : (s : Parameters) (code : List ℕ) (drain : RiceDrain) (p : Pull) (after : List ℕ) → IsPulled s code drain p after → stream.IsPulled s code drain.stand (engine p) after
one_pulled s code drain p after h = (
  h.0,
  λ o front given k.
      (let d = h.1 o front given k in
      subst (λ (q : Pause). DecodesMore s o front given p.piece drain.stand p.old p.new p.drain.stand q) (pause_is d.pause p.status d.status_is) d.decodes),
)

-- and so are several
all_pulled : (s : Parameters) (code : List ℕ) (drain : RiceDrain) (pulls : List Pull) → ArePulled s code drain pulls → stream.ArePulled s code drain.stand (engines pulls)
all_pulled s code drain [] h = tt
all_pulled s code drain (p ∷ ps) h = ((h.0.0, one_pulled s code drain p h.0.0 h.0.1), all_pulled s code p.drain ps h.1)

-- which stand last where C's do
same_last : (drain : RiceDrain) (pulls : List Pull) → stream.last_stand drain.stand (engines pulls) ≡ (last_drain drain pulls).stand
same_last drain [] = refl
same_last drain (p ∷ ps) = same_last p.drain ps

engines-push : (pulls : List Pull) (last : Pull) → engines pulls ++ engine last ∷ [] ≡ engines (pulls ++ last ∷ [])
engines-push [] last = refl
engines-push (p ∷ ps) last = ap (λ l. engine p ∷ l) (engines-push ps last)

-- one pull more is pulled after the others
pulled-push : (s : Parameters) (code : List ℕ) (drain : RiceDrain) (pulls : List Pull) (last : Pull) (after : List ℕ) → ArePulled s code drain pulls
    → IsPulled s code (last_drain drain pulls) last after → ArePulled s code drain (pulls ++ last ∷ [])
pulled-push s code drain [] last after h k = ((after, k), tt)
pulled-push s code drain (p ∷ ps) last after h k = (h.0, pulled-push s code p.drain ps last after h.1 k)

-- what they gave stands in the caller's memory
wrote_in_parts : {s : Parameters} (code : List ℕ) {o : Origin} {front : List Bool} {given : List ℤ} (drain : RiceDrain) (pulls : List Pull) (xs : List ℤ)
    → IsStand s o drain.stand front given → ArePulled s code drain pulls → stream.GiveInParts s drain.stand (engines pulls) xs → WriteInParts pulls (spellings s xs)
wrote_in_parts {s} code drain [] xs h pulled g = ap (spellings s) g
wrote_in_parts {s} code {o} {front} {given} drain (p ∷ ps) xs h pulled g =
    let d = pulled.0.1.1 o front given h in
    let part = g.0 in
    let size = length-spellings s part in
    let count : length d.decodes.samples ≡ length part =
    omega (arith, g.3, more_samples s o front given p.piece drain.stand p.drain.stand p.old p.new d.pause h d.decodes) in (
      spellings s part,
      spellings s g.1,
      ap (spellings s) g.2 ∙ spellings-append s part g.1,
      d.written ∙ ap (λ n. width s * n) count ∙ sym size,
      g.4 ∙ ap (λ n. spellings s part ++ drop n p.old) (sym size),
      wrote_in_parts code {front = front ++ d.decodes.bits} {given = given ++ d.decodes.samples} p.drain ps g.1 d.decodes.stands pulled.1 g.5,
    )

-- ---- how they end

abbrev ending_of : Status → Ending
ending_of statuses.OnlyZeros = Ended
ending_of statuses.MoreCode = CutOff
ending_of statuses.RunPastSegment = Past
ending_of statuses.ResidualTooLarge = Large
ending_of _ = Reached

-- a status that ends a code is a pause that does
ends_code : (paused ended : Status) (after : List ℕ) → EndsAll paused after ended → EndsCode (pause_of (status_number paused)) after (ending_of paused)
ends_code statuses.OnlyZeros ended after h = (h.0, refl)
ends_code statuses.MoreCode ended after h = (h.0, refl)
ends_code statuses.RunPastSegment ended after h = refl
ends_code statuses.ResidualTooLarge ended after h = refl
ends_code _ ended after h = absurd h

-- a code that ends was decoded past the samples asked for
never_reached_so : (paused ended : Status) (after : List ℕ) → EndsAll paused after ended → ending_of paused ≡ Reached → ⊥
never_reached_so statuses.OnlyZeros ended after h e = absurd cc
never_reached_so statuses.MoreCode ended after h e = absurd cc
never_reached_so statuses.RunPastSegment ended after h e = absurd cc
never_reached_so statuses.ResidualTooLarge ended after h e = absurd cc
never_reached_so _ ended after h e = absurd h

-- the last report is of the pause: of all samples, and its place
record PausedLast (s : Parameters) (paused : Status) (xs : List ℤ) (last : RiceReport) : Type 0 where
  samples : last.samples ≡ length xs
  place : last.place ≡ pause_place (pause_of (status_number paused)) (length xs / s.block)

-- what the status and the place of the whole call tell
tells_end : {s : Parameters} (paused ended : Status) (after : List ℕ) {xs : List ℤ} (fault : Option Fault) (last : RiceReport) → 1 ≤ s.block
    → EndsAll paused after ended → FaultOf s xs (ending_of paused) fault → PausedLast s paused xs last
    → (status_number (fault_status fault) ≡ status_number ended) × (fault_place fault ≡ place_all paused last)
tells_end statuses.OnlyZeros ended after fault last j h
    f at_pause = (ap (λ (v : Option Fault). status_number (fault_status v)) f ∙ ap status_number (sym h.1), ap fault_place f ∙ sym at_pause.place)
tells_end statuses.MoreCode ended after fault last j h
    f at_pause = (ap (λ (v : Option Fault). status_number (fault_status v)) f ∙ ap status_number (sym h.1), ap fault_place f ∙ sym at_pause.samples)
tells_end {s} statuses.RunPastSegment ended after fault last j h f at_pause =
    (ap (λ (v : Option Fault). status_number (fault_status v)) f.2 ∙ ap status_number (sym h), ap fault_place f.2 ∙ sym (at_pause.place ∙ ap (λ n. n / s.block) f.1 ∙ mul-div_cancel_left f.0 j))
tells_end {s} statuses.ResidualTooLarge ended after fault last j h f at_pause =
    (ap (λ (v : Option Fault). status_number (fault_status v)) f.2 ∙ ap status_number (sym h), ap fault_place f.2 ∙ sym (at_pause.place ∙ ap (λ n. n / s.block) f.1 ∙ mul-div_cancel_left f.0 j))
tells_end _ ended after fault last j h f at_pause = absurd h

-- a drain stands for some bits and samples after each pull
stands_at : (s : Parameters) (code : List ℕ) (o : Origin) (front : List Bool) (given : List ℤ) (drain : RiceDrain) (pulls : List Pull)
    → IsStand s o drain.stand front given → ArePulled s code drain pulls → (bits : List Bool) × (xs : List ℤ) × IsStand s o (last_drain drain pulls).stand bits xs
stands_at s code o front given drain [] h pulled = (front, given, h)
stands_at s code o front given drain (p ∷ ps) h pulled =
    let d = pulled.0.1.1 o front given h in
    stands_at s code o (front ++ d.decodes.bits) (given ++ d.decodes.samples) p.drain ps d.decodes.stands pulled.1

-- what the report of a pull tells of its drain
record TellsDrain (s : Parameters) (p : Pull) : Type 0 where
  pub samples : p.report.samples ≡ p.drain.stand.samples
  pub place : p.report.place ≡ pause_place (pause_of p.status) (p.drain.stand.samples / s.block)

-- the report of a pull tells where its drain stands
tells_drain : {s : Parameters} (code : List ℕ) {o : Origin} {front : List Bool} {given : List ℤ} (drain : RiceDrain) (p : Pull) (after : List ℕ)
    → IsStand s o drain.stand front given → IsPulled s code drain p after → TellsDrain s p
tells_drain {s} code {o} {front} {given} drain p after h pulled =
    let d = pulled.1 o front given h in
    record {
      samples = ap (λ (r : Report). r.samples) d.counts;
      place = d.place ∙ ap (λ (q : Pause). pause_place q (p.drain.stand.samples / s.block)) (pause_is d.pause p.status d.status_is);
    }

-- with room for all samples the whole call does not fail
never_full : {s : Parameters} {code : List ℕ} {xs : List ℤ} {ending : Ending} {used : ℕ} {old new : List ℕ} {report : RiceReport} {status : ℕ} → IsLegal s
    → Decoded s (bits_of code) None xs ending used → (ending ≡ Reached → ⊥) → (d : DecodesInto s None code old new report status) → width s * length xs ≤ length old → d.fault ≢ Some faults.Write
never_full {s} {code} {xs} {ending} {used} {report} legal whole early d room full =
    let ys = d.decodes.samples in
    let fails = subst (λ (f : Option Fault). EndsDecoding s None f d.call (report_of report) ys d.decodes.ending) full d.decodes.ends in
    let f = fails.0 in
    let short : length d.call.written < width s * length ys = omega
    (arith, some f.stops.missing f.stops.short, ap length f.stops.stops, length-append d.call.written f.stops.missing, length-spellings s ys) in
    let fewer : length xs < length ys = fewer_of (width s) (length xs) (length ys) (omega (arith, short, d.writes.full full, room)) in
    let there = never_reached s (bits_of code) (length ys) xs ending used fewer whole in
    let bits : bits_of d.call.given ++ bits_of d.takes.left ≡ bits_of code = sym (bits_of-append d.call.given d.takes.left) ∙ ap bits_of (sym d.takes.gave) in
    let here = subst (λ (l : List Bool). Decoded s l (Some (length ys)) ys Reached (report_of report).bits) bits
    (decoded_before s (Some (length ys)) (bits_of d.call.given) (bits_of d.takes.left) ys Reached (report_of report).bits tt f.decoded) in
    early (decoded_is_one legal (zero_is_sample s legal.bits_from) there here).1
  where
    some : (l : List ℕ) → l ≢ [] → 0 < length l
    some [] h = absurd (h refl)
    some (x ∷ l) h = omega arith

    fewer_of : (w n m : ℕ) → w * n < w * m → n < m
    fewer_of w n m lt = elim (cases_lt n m) [ inl l ↦ l | inr le ↦ absurd (let p : w * m ≤ w * n = mul-le-mul_left w le in omega arith) ]

-- pulls up to the end of a code give what one call gives
pub pulls_are_decoding : PullsAreDecoding
pulls_are_decoding s code o before setting first opened pulls last after old new report status paused ended place opens pulled last_pulled paused_is ends d room =
    let begins = opens.none in
    let legal = begins.state.legal in
    let j : 1 ≤ s.block = grind (arith, legal.block) in
    let at = same_last first pulls in
    let last_one = one_pulled s code (last_drain first pulls) last after last_pulled in
    let how = subst (λ (n : ℕ). EndsCode (pause_of n) after (ending_of paused)) (sym paused_is) (ends_code paused ended after ends) in
    let p = seek_all (engines pulls) (engine last) after (ending_of paused) place begins (all_pulled s code first pulls pulled)
    (subst (λ (v : Stand). stream.IsPulled s code v (engine last) after) (sym at) last_one) how in
    let xs = before ++ p.samples in
    let bytes = spellings s p.samples in
    let stands = stands_at s code o [] [] first pulls begins pulled in
    let end = tells_drain code (last_drain first pulls) last after stands.2 last_pulled in
    let count : last.report.samples ≡ length xs = end.samples ∙ p.count in
    let write = never_full legal p.decoded (never_reached_so paused ended after ends) d
    (let fits : width s * length xs ≤ length old = (omega (arith, room, ap (λ n. width s * n) count)) in fits) in
    let same = decodes_as legal d.decodes.samples d.decodes.ending
    p.decoded p.limit (inl refl) (record { code_is = d.takes.gave; left_is = d.takes.left_is }) d.decodes.ends (record { read = d.writes.reads; write = write }) in
    let reported = tells_end {s = s} paused ended after d.fault last.report j ends same.fault_is (record {
      samples = count;
      place = end.place ∙ (λ i. pause_place (pause_of (paused_is i)) (p.count i / s.block));
    }) in (
      bytes,
      wrote_in_parts code first (pulls ++ last ∷ []) p.samples begins (pulled-push s code first pulls last after pulled last_pulled)
          (subst (λ (l : List stream.Pull). stream.GiveInParts s first.stand l p.samples) (engines-push pulls last) p.parts),
      subst (λ (l : List ℕ). StandsInFront l old new) (same.written ∙ spellings-append s before p.samples) d.writes.front,
      d.tells.status ∙ reported.0,
      same.samples ∙ sym count,
      d.tells.place ∙ reported.1,
    )

-- and up to a number of samples
pub pulls_to_a_count_are_decoding : EnoughIsDecoding
pulls_to_a_count_are_decoding s code o before setting first opened pulls n old new report status place opens pulled enough few d room =
    let begins = opens.none in
    let legal = begins.state.legal in
    let at = same_last first pulls in
    let samples_at : (stream.last_stand first.stand (engines pulls)).samples ≡ (last_drain first pulls).stand.samples = ap (λ (v : Stand). v.samples) at in
    let p = seek_enough (engines pulls) n place begins (all_pulled s code first pulls pulled) (omega (arith, enough, samples_at)) (omega (arith, few, samples_at)) in
    let part = take n p.samples in
    let xs = before ++ part in
    let bytes = spellings s p.samples in
    let write : d.fault ≢ Some faults.Write = λ full. decode_suffices s (o.samples + n) code old new report status d (omega (arith, room))
    (d.tells.status ∙ ap (λ (v : Option Fault). status_number (fault_status v)) full) in
    let same = decodes_as legal d.decodes.samples d.decodes.ending p.decoded p.limit (inr refl)
    (record { code_is = d.takes.gave; left_is = d.takes.left_is }) d.decodes.ends (record { read = d.writes.reads; write = write }) in
    let count : length part ≡ n = length-take-le n p.samples p.size in
    let size : length (spellings s part) ≡ width s * n = length-spellings s part ∙ ap (λ m. width s * m) count in
    let far = spellings s (drop n p.samples) in
    let both : bytes ≡ spellings s part ++ far = ap (spellings s) (sym (take-append-drop n p.samples)) ∙ spellings-append s part (drop n p.samples) in
    let first_n : spellings s part ≡ take (width s * n) bytes = sym (ap (take (width s * n)) both ∙ take_at (spellings s part) far (width s * n) size) in (
      bytes,
      wrote_in_parts code first pulls p.samples begins pulled p.parts,
      subst (λ (l : List ℕ). StandsInFront l old new) (same.written ∙ spellings-append s before part ∙ ap (λ l. spellings s before ++ l) first_n) d.writes.front,
      d.tells.status ∙ ap (λ (v : Option Fault). status_number (fault_status v)) same.fault_is,
      omega (arith, same.samples, length-append before part, count, place.count),
      same.bits ∙ ap (λ (v : Stand). v.bits) at,
    )

-- where an interval begins, the reports' counts are its place
pub drains_tell_places : DrainsTellPlaces
drains_tell_places s code o before setting first opened pulls place opens pulled at_start no_run =
    let begins = opens.none in
    let at = same_last first pulls in
    let reported = stands_tell_places s code o before first.stand (engines pulls) place begins (all_pulled s code first pulls pulled)
    (ap (λ (v : Stand). v.block) at ∙ at_start) (ap (λ (v : Stand). v.run) at ∙ no_run) in
    (reported.0, wrote_in_parts code first pulls reported.0 begins pulled reported.1, subst (λ (v : Stand). IsPlace s code (place_at v) (before ++ reported.0)) at reported.2)
