-- Decoding piece by piece: what the next block does to where decoding stands, and how a piece ends.
use Rattle.std.proofs.Common.{◌≡◌, ℕ, ◌+◌, ◌-◌, ◌*◌, ◌%◌, ◌≤◌, ◌==◌, ◌&&◌, cond, Bool, true, false, List, [], ◌∷◌, ◌++◌}
use Rattle.std.proofs.Common.{length, refl, ap, arith, sym, ◌∙◌, inl, inr, subst, append_assoc, append-nil, length-append, Option, Some, None, ℤ, pos}
use Rattle.rice_stream.proofs.Words.{IsSome, Ok, Err, Consumes, IsAtEnd, Reader, Refills, bits_of-nil, bits_of-append, length-bits_of, Parameters, place, last_of, CodedDataSet, bits_of_set}
use Rattle.rice_stream.proofs.Words.{BeginsUnsound, EndsWith, Ended, CutOff, padding, SetEnds, SetRefused, StopsBy, with_mark, DecoderState, IsDecoderState, AreCounted, SetCut, CodeFault, Block, Done}
use Rattle.rice_stream.proofs.Words.{last_append, bits_of, DecodedSoFar, Gains, HasSets, Origin, IsStand, GivesNext, GoesOnAt, IsReadFrom, TakesNext, ahead, bytes_reported, state_of, Stand}
use Rattle.rice_stream.proofs.Words.{Advances}
use Rattle.rice_bits.specs.declared.read.fault.BitFault.TheVariants as bit_faults
use Rattle.rice_code.specs.declared.decode.call_results.CodeFault.TheVariants as faults
use Rattle.rice_stream.proofs.lemmas.DecodingEnds.{blank_all, next_here, some_one}
use Rattle.rice_stream.proofs.lemmas.DecodingLemmas.{gains_run, gains_set, moves_of, runs_or_not, took_block}

-- what is read of a piece
pub refills_ahead : (old new : Option (List ℕ)) (buffered buffered_new bits : List Bool) → IsSome old → Refills old new buffered buffered_new bits
    → IsSome new × (buffered ++ bits_of (bytes_reported old) ≡ bits ++ (buffered_new ++ bits_of (bytes_reported new)))
refills_ahead None new buffered buffered_new bits reported d = absurd (let e : false ≡ true = reported in cc)
refills_ahead (Some xs) None buffered buffered_new bits reported d = absurd d.consumed
refills_ahead (Some xs) (Some ys) buffered buffered_new bits reported d = (
  refl,
  ap (λ l. buffered ++ bits_of l) d.consumed ∙ ap (λ l. buffered ++ l) (bits_of-append d.given ys) ∙ sym (append_assoc buffered (bits_of d.given) (bits_of ys))
      ∙ ap (λ l. l ++ bits_of ys) d.split ∙ append_assoc bits buffered_new (bits_of ys),
)

-- nothing is left of a piece
nothing_left : (mid new : Option (List ℕ)) → Consumes mid new [] → IsAtEnd new → bytes_reported mid ≡ []
nothing_left None new c e = refl
nothing_left (Some xs) None c e = absurd c
nothing_left (Some xs) (Some ys) c e = c ∙ e

-- all of a piece was read
pub all_refilled : (old mid new : Option (List ℕ)) (buffered bits : List Bool) → IsSome old → Refills old mid buffered [] bits
    → Consumes mid new [] → IsAtEnd new → buffered ++ bits_of (bytes_reported old) ≡ bits
all_refilled old mid new buffered bits reported d c e =
    (refills_ahead old mid buffered [] bits reported d).1 ∙ ap (λ l. bits ++ bits_of l) (nothing_left mid new c e) ∙ ap (λ l. bits ++ l) bits_of-nil ∙ append-nil bits

-- the padding is that of the same place in a byte
pads_as : (s : Parameters) (o : Origin) (taken : ℕ) {bits : ℕ} (len b n : ℕ) → (s.pad ≡ true → o.bits % 8 ≡ 0) → taken % 8 ≡ bits % 8 → bits ≡ o.bits + len
    → padding s b (taken + n) ≡ padding s b (len + n)
pads_as s o taken len b n begins e f = by_pad s.pad (place s b == 0)
    (λ pad. let g : o.bits % 8 ≡ 0 = begins pad in let same : (taken + n) % 8 ≡ (len + n) % 8 = omega arith in ap (λ v. (8 - v) % 8) same)
  where
    by_pad : (pad at : Bool) {x y : ℕ} → (pad ≡ true → x ≡ y) → cond (pad && at) x 0 ≡ cond (pad && at) y 0
    by_pad true at h = ap (λ v. cond at v 0) (h refl)
    by_pad false at h = refl

module _ {I : Type 0} (s : Parameters) (stand next : Stand) (r new : Reader I) (steps steps_new : ℕ) (xs : List ℤ) where
  -- what a call of the decoder has done that gave a block
  pub record Steps : Type 0 where
    pub state : IsDecoderState s next.block next.previous next.run None
    pub advances : Advances r new steps steps_new (state_of s stand) (state_of s next) xs (Ok Block)
    pub counted : AreCounted steps steps_new r.taken new.taken
    pub few : length xs + next.run * s.block ≤ stand.run * s.block + 456 * (new.taken - r.taken)
    pub reads : IsReadFrom stand r
    pub aligned : stand.run ≡ 0 → r.taken % 8 ≡ stand.bits % 8
    pub samples : next.samples ≡ stand.samples + s.block
    pub bits : next.bits ≡ stand.bits + (new.taken - r.taken)
    pub steps_old : steps ≡ stand.steps
    pub steps_are : next.steps ≡ steps_new + s.block

  gained : (o : Origin) (front : List Bool) (given : List ℤ) → Steps → (h : IsStand s o stand front given) → Gains s r new steps steps_new front h.sets h.blocks next.run given xs
  gained o front given t h =
      let legal = h.state.legal in
      elim (took_block refl t.advances) [
        | inl k ↦ gains_run legal h.here h.previous
            t.reads.going h.before h.has_sets h.decoded (record { reader = k.same; steps_are = k.steps_are }) k.gives.gives
        | inr k ↦
            let none : stand.run ≡ 0 = k.none in
            let end : h.blocks + stand.run ≡ h.blocks = omega arith in
            gains_set legal h.here h.previous (λ b n. pads_as s o r.taken (length front) b n h.begins (t.aligned none) h.bits) h.before
            (subst (λ (n : ℕ). HasSets s h.sets front n) end h.has_sets) (subst (λ (n : ℕ). DecodedSoFar s front h.begun h.blocks n given) none h.decoded) k.gives
      ]

  -- by such steps the next block is given where the code stands
  pub gives_next : (o : Origin) (front : List Bool) (given : List ℤ) → Steps → IsStand s o stand front given → GivesNext s o front given next r new xs
  gives_next o front given t h =
      let g = gained o front given t h in
      let moves = moves_of refl t.advances in
      let refilled = refills_ahead r.left new.left r.buffered new.buffered g.bits t.reads.reported g.refills in
      let size = length-append front g.bits in
      let count = length-append given xs in
      let bits_are : next.bits ≡ stand.bits + length g.bits = omega (arith, t.bits, g.taken) in
      let whole : length (ahead r) ≡ length g.bits + length (ahead new) = ap length refilled.1 ∙ length-append g.bits (ahead new) in
      record {
        bits = g.bits;
        split = refilled.1;
        stands = record {
          state = t.state;
          begins = h.begins;
          early = h.early;
          blocks = h.blocks + 1;
          begun = g.begun;
          before = g.before;
          sets = g.more_sets;
          has_sets = g.has_sets;
          decoded = g.decoded;
          here = next_here s h.blocks stand.block h.state.legal h.here ∙ sym (ap (λ (p : DecoderState). p.block) moves);
          previous = ap (λ (p : DecoderState). p.before) moves ∙ ap (λ z. last_of z xs) h.previous ∙ sym (last_append (pos 0) given xs);
          samples = omega (arith, t.samples, h.samples, count, g.len);
          bits = omega (arith, bits_are, h.bits, size);
          steps = record {
            count = omega (arith, t.steps_are, t.steps_old, g.counted, g.taken, h.steps.count, size, count, g.len);
            most = omega (arith, t.steps_are, t.steps_old, t.counted.most, g.taken, h.steps.most, size, count, g.len);
            by_bits = omega (arith, h.steps.by_bits, t.few, t.counted.forward, g.taken, size, count, g.len);
          };
          limit = omega (arith, t.reads.limit, whole, bits_are);
        };
      }

  -- and a decoder in the state of the next place goes on there
  pub goes_on_at : (o : Origin) (front : List Bool) (given : List ℤ) (q : DecoderState) → q ≡ state_of s next → Steps → IsStand s o stand front given → GoesOnAt s stand next q r new
  goes_on_at o front given q same t h =
      let g = gained o front given t h in
      let refilled = refills_ahead r.left new.left r.buffered new.buffered g.bits t.reads.reported g.refills in
      let bits_are : next.bits ≡ stand.bits + length g.bits = omega (arith, t.bits, g.taken) in
      let whole : length (ahead r) ≡ length g.bits + length (ahead new) = ap length refilled.1 ∙ length-append g.bits (ahead new) in
      record {
        state = same;
        reads = record {
          going = g.going;
          failed = g.failures ∙ t.reads.failed;
          reported = refilled.0;
          taken = omega (arith, t.reads.taken, g.taken, bits_are);
          limit = omega (arith, t.reads.limit, whole, bits_are);
        };
        aligned = λ e. omega (arith, e, g.taken, bits_are);
      }

-- no 1 is left
pub ends_blank : {I : Type 0} (s : Parameters) (b first last : ℕ) (r new : Reader I) → IsSome r.left → SetEnds (with_mark r) new first last s b true
    → EndsWith s None b (ahead r) Ended (length (ahead r))
ends_blank s b first last r new reported ends =
    let bits = ends.cut.bits in
    let stops = ends.cut.stops in
    let all = all_refilled r.left stops.middle new.left r.buffered bits reported stops.refills stops.refuses.0 stops.refuses.1 in
    subst (λ (l : List Bool). EndsWith s None b l Ended (length l)) (sym all) (tt, blank_all bits ends.reported, refl)

-- what is left begins with no coded data set
pub ends_cut : {I : Type 0} (s : Parameters) (b first last : ℕ) (r new : Reader I) → IsSome r.left → SetEnds (with_mark r) new first last s b false
    → EndsWith s None b (ahead r) CutOff (length (ahead r))
ends_cut s b first last r new reported ends =
    let bits = ends.cut.bits in
    let stops = ends.cut.stops in
    let all = all_refilled r.left stops.middle new.left r.buffered bits reported stops.refills stops.refuses.0 stops.refuses.1 in
    subst (λ (l : List Bool). EndsWith s None b l CutOff (length l)) (sym all) (tt, some_one bits ends.reported, ends.cut.none, refl)

-- what is left begins with a coded data set that is refused
pub begins_unsound : {I : Type 0} (s : Parameters) (b first last : ℕ) (r new : Reader I) (P : CodedDataSet → Type 0) → IsSome r.left
    → SetRefused (with_mark r) new first last s b P → (used : ℕ) × BeginsUnsound s b (ahead r) used P
begins_unsound s b first last r new P reported refused =
    let set = bits_of_set s refused.set in
    let refilled = refills_ahead r.left new.left r.buffered new.buffered set reported refused.takes.refills in
    (length set, record { refused = refused.set; more = ahead new; form = refused.form; unsound = refused.unsound; begins = refilled.1; bits = refl })

-- no byte is past the limit
never_long : {I : Type 0} (s : Parameters) (b first last : ℕ) (stand : Stand) (r new : Reader I) → IsReadFrom stand r → SetCut [] (with_mark r) new first last s b bit_faults.TooLong → ⊥
never_long s b first last stand r new reads cut =
    let stops = cut.stops in
    let refilled = refills_ahead r.left stops.middle r.buffered [] cut.bits reads.reported stops.refills in
    let some = one_left stops.middle new.left stops.refuses.0.0 refilled.0 stops.refuses.0.1 in
    omega (arith, reads, ap length refilled.1, length-append {A = Bool}, length-bits_of, some, stops.refuses.2, stops.taken)
  where
    one_left : (mid new : Option (List ℕ)) (byte : ℕ) → IsSome mid → Consumes mid new (byte ∷ []) → 1 ≤ length (bytes_reported mid)
    one_left None new byte reported c = absurd (let e : false ≡ true = reported in cc)
    one_left (Some xs) None byte reported c = absurd c
    one_left (Some xs) (Some ys) byte reported c = omega (arith, ap length c)

-- decoding stops at the block at which it stands
record StopsAtStand {I : Type 0} (s : Parameters) (stand : Stand) (r new : Reader I) (first last : ℕ) (fault : CodeFault) : Type 0 where
  stands : IsReadFrom stand r
  run : stand.run ≡ 0
  stopped : StopsBy (with_mark r) new first last s stand.block (Err fault)

-- the decoder refuses
refuses_next : {I : Type 0} {s : Parameters} (o : Origin) {stand : Stand} {r : Reader I} (new : Reader I) (first last : ℕ) (front : List Bool) (given xs : List ℤ)
    (fault : CodeFault) → StopsAtStand s stand r new first last fault → TakesNext s o front given stand r new xs (Err fault)
refuses_next {s} o {stand} {r} new first last front given xs faults.CodeEnds stops = (stops.run, ends_cut s stand.block first last r new stops.stands.reported stops.stopped)
refuses_next {s} o {stand} {r} new first last front given xs faults.RunPastSegment stops = let u = begins_unsound s stand.block first last r new _ stops.stands.reported
    stops.stopped in (stops.run, u.0, (tt, u.1))
refuses_next {s} o {stand} {r} new first last front given xs faults.ResidualTooLarge stops = let u = begins_unsound s stand.block first last r new _ stops.stands.reported
    stops.stopped in (stops.run, u.0, (tt, u.1))
refuses_next o new first last front given xs faults.Read stops = stops.stopped.stops.refuses.1 ∙ ap (λ n. n + 1) stops.stands.failed
refuses_next {s} o {stand} {r} new first last front given xs faults.TooLong stops = never_long s stand.block first last stand r new stops.stands stops.stopped

-- a refusal leaves the stand where it was
pub stops_next : {I : Type 0} (s : Parameters) (o : Origin) {stand : Stand} {r new : Reader I} {steps steps_new : ℕ} {q : DecoderState} (front : List Bool)
    (given : List ℤ) {xs : List ℤ} {fault : CodeFault} → IsReadFrom stand r
    → Advances r new steps steps_new (state_of s stand) q xs (Err fault) → TakesNext s o front given stand r new xs (Err fault)
stops_next s o {stand} {r} {new} {steps} {steps_new} front given {xs} {fault} reads a =
    elim (runs_or_not (state_of s stand)) [
      | inl lt ↦ absurd (let e = (a.in_run refl lt).0 in cc)
      | inr none ↦ refuses_next o new steps steps_new front given xs fault (record { stands = reads; run = none; stopped = (a.reads refl none).0 })
    ]

-- and so does the end
pub done_next : {I : Type 0} (s : Parameters) (o : Origin) {stand : Stand} {r new : Reader I} {steps steps_new : ℕ} {q : DecoderState} (front : List Bool) (given : List ℤ) {xs : List ℤ}
    → IsReadFrom stand r → Advances r new steps steps_new (state_of s stand) q xs (Ok Done) → TakesNext s o front given stand r new xs (Ok None)
done_next s o {stand} {r} {new} {steps} {steps_new} front given reads a =
    elim (runs_or_not (state_of s stand)) [
      | inl lt ↦ absurd (let e = (a.in_run refl lt).0 in cc)
      | inr none ↦ (none, ends_blank s stand.block steps steps_new r new reads.reported (a.reads refl none).0)
    ]
