-- What a call of the decoder does to a decoding.
use Rattle.rice_stream.proofs.Words.{◌≡◌, ℕ, ◌+◌, ◌<◌, ◌≤◌, ◌==◌, ◌&&◌, cond, Bool, true, List, [], ◌∷◌, ◌++◌, length, replicate, ap, arith, sym, ◌∙◌, ◌⊎◌, suc, inl, inr, subst, append_assoc}
use Rattle.rice_stream.proofs.Words.{append-nil, length-append, Option, Some, None, ℤ, pos, All, IfSome, Ok, Err, Consumes, Consumes-nil, mod-lt, mod-eq_of_lt, cases_lt, bits_to_byte, Reader}
use Rattle.rice_stream.proofs.Words.{bits_of-nil, Parameters, IsLegal, IsSample, place, last_of, zero_block, CodedDataSet, bits_of_set, turns, GivesBlock, GivesSet, GivesFromRun, StopsBy, SetEnds}
use Rattle.rice_stream.proofs.Words.{with_mark, DecoderState, state_after_block, blocks_in, block_after, padding, SetCut, Block, Done, CodeFault, next_place, form_there, run_there, same_blocks_in}
use Rattle.rice_stream.proofs.Words.{same_contents, BitFault, length-replicate, sum_by_push, Room, wanted_of, Advances, DecodedSoFar, Gains, DecodingProgress, HasSets}
use Rattle.rice_stream.proofs.lemmas.{SetsRead.sets-push, DecodedSamples.decoded_with_set, DecodedSamples.decoded_with_run_block}
use Rattle.rice_code.specs.declared.decode.call_results.CodeFault.TheVariants as faults

-- what the decoder says where it gives a block, inside a run and elsewhere
pub record InsideRun {I : Type 0} (old new : Reader I) (steps steps_new : ℕ) (p q : DecoderState) (samples : List ℤ) : Type 0 where
  pub run : 0 < p.run
  pub gives : GivesFromRun p q samples
  pub same : new ≡ old
  pub steps_are : steps_new ≡ steps

pub record OutsideRun {I : Type 0} (old new : Reader I) (steps steps_new : ℕ) (p q : DecoderState) (samples : List ℤ) : Type 0 where
  pub none : p.run ≡ 0
  pub gives : GivesSet (with_mark old) new steps steps_new p.setting p.block p.before samples q.run
  pub moves : q ≡ state_after_block p samples q.run

-- a run goes on, or it doesn't
pub runs_or_not : (p : DecoderState) → (0 < p.run) ⊎ (p.run ≡ 0)
runs_or_not p = elim (cases_lt 0 p.run) [ inl lt ↦ inl lt | inr le ↦ inr (omega arith) ]

-- a block was given
pub took_block : {I : Type 0} {old new : Reader I} {steps steps_new : ℕ} {p q : DecoderState} {samples : List ℤ} → p.stopped ≡ None → Advances old new steps steps_new p q samples (Ok Block)
    → InsideRun old new steps steps_new p q samples ⊎ OutsideRun old new steps steps_new p q samples
took_block {p = p} going a =
    elim (runs_or_not p) [
      | inl lt ↦ let k = a.in_run going lt in inl (record { run = lt; gives = k.1; same = k.2; steps_are = k.3 })
      | inr none ↦ let k = a.reads going none in inr (record { none = none; gives = k.0; moves = k.1 })
    ]

-- a block that was given moves the decoder by one place
pub moves_of : {I : Type 0} {old new : Reader I} {steps steps_new : ℕ} {p q : DecoderState} {samples : List ℤ} → p.stopped ≡ None → Advances old new steps steps_new p q samples (Ok Block)
    → q ≡ state_after_block p samples q.run
moves_of going a = elim (took_block going a) [ inl k ↦ k.gives.moves | inr k ↦ k.moves ]

-- the samples of a block
pub record AreOfBlock (s : Parameters) (samples : List ℤ) : Type 0 where
  pub len : length samples ≡ s.block
  pub legal : All (IsSample s) samples

-- a block that was given has as many samples as each, and they are legal
pub samples_of_block : {I : Type 0} {old new : Reader I} {steps steps_new : ℕ} {p q : DecoderState} {samples : List ℤ} (s : Parameters) → p.setting ≡ s
    → p.stopped ≡ None → Advances old new steps steps_new p q samples (Ok Block) → AreOfBlock s samples
samples_of_block {samples = samples} s setting going a =
    subst (λ (t : Parameters). AreOfBlock t samples) setting
    (elim (took_block going a) [ inl k ↦ record { len = k.gives.gives.len; legal = k.gives.gives.legal } | inr k ↦ record { len = k.gives.set.gives.len; legal = k.gives.set.gives.legal } ])

-- the place that a decoder holds is that of a block
pub same_place : (s : Parameters) (b c : ℕ) → 1 ≤ s.interval → place s b ≡ c → place s c ≡ place s b
same_place s b c h e = let lt : c < s.interval = omega (arith, e, mod-lt b h) in mod-eq_of_lt lt ∙ sym e

-- a block depends on its place in its interval alone
gives_there : {s : Parameters} (b : ℕ) {c run : ℕ} {p : ℤ} {xs : List ℤ} (d : CodedDataSet) → 1 ≤ s.block → place s c ≡ place s b
    → GivesBlock s c p xs run (blocks_in s c d) → GivesBlock s b p xs run (blocks_in s b d)
gives_there {s} b {c} {run} {p} {xs} d j e g = record {
  len = g.len;
  legal = g.legal;
  blocks_are = ap (λ v. v ∷ replicate run (zero_block s None)) (sym (same_contents s c b p xs j e)) ∙ g.blocks_are ∙ same_blocks_in s c b d e;
}

-- and so does a block of a run
run_gives_there : {s : Parameters} (b : ℕ) {c : ℕ} (run : ℕ) {left : ℕ} {p : ℤ} {xs : List ℤ} → 1 ≤ s.block → place s c ≡ place s b
    → GivesBlock s c p xs left (replicate run (zero_block s None)) → GivesBlock s b p xs left (replicate run (zero_block s None))
run_gives_there {s} b {c} run {left} {p} {xs} j e g = record {
  len = g.len;
  legal = g.legal;
  blocks_are = ap (λ v. v ∷ replicate left (zero_block s None)) (sym (same_contents s c b p xs j e)) ∙ g.blocks_are;
}

-- A block of a coded data set. The reader may have taken other numbers of bits, if the padding is the same.
pub gains_set : {I : Type 0} {s : Parameters} {r new : Reader I} {steps steps_new b c begun run : ℕ} {p : ℤ} {front : List Bool} {sets : List CodedDataSet} {given xs : List ℤ}
    → IsLegal s → place s b ≡ c → p ≡ last_of (pos 0) given → ((b n : ℕ) → padding s b (r.taken + n) ≡ padding s b (length front + n)) → begun ≤ b
    → HasSets s sets front b → DecodedSoFar s front begun b 0 given → GivesSet (with_mark r) new steps steps_new s c p xs run → Gains s r new steps steps_new front sets b run given xs
gains_set {I = I} {s} {r} {new} {b} {c} {begun} {run} {p} {front} {sets} {given} {xs} legal here previous taken before has so_far gives =
    let j : 1 ≤ s.block = let k : 2 ≤ s.block = grind (arith, legal.block) in omega arith in
    let e = same_place s b c legal.interval_from here in
    let set = gives.set in
    let d = set.set in
    let t = bits_of_set s d in
    let skips = gives.skips in
    let refills = set.takes.refills in
    let pads : length skips.bits ≡ padding s (block_after s b d) (length front + length t) =
    skips.len ∙ ap (λ n. padding s (block_after s c d) n) set.takes.taken ∙ taken (block_after s c d) (length t)
    ∙ ap (λ v. cond (s.pad && v == 0) (bits_to_byte (length front + length t)) 0) (next_place s c b d e) in
    let block = gives_there b d j e set.gives in
    let form = form_there s c b d e set.form in
    let run_sound = run_there s c b d e set.run_sound in
    let bits = t ++ skips.bits in
    let new_taken : new.taken ≡ r.taken + length bits = ap (λ (v : Reader I). v.taken) skips.same ∙ sums r.taken (length t) _ _ _ set.takes.taken skips.len (length-append t skips.bits) in
    let count : suc (length (replicate run (zero_block s None))) ≡ length (blocks_in s b d) = ap length block.blocks_are in
    let after : b + 1 + run ≡ b + length (blocks_in s b d) = omega (arith, count, length-replicate run (zero_block s None)) in
    record {
      bits = bits;
      refills = record {
        given = refills.given;
        consumed = subst (λ (l : Option (List ℕ)). Consumes r.left l refills.given) (sym (ap (λ (v : Reader I). v.left) skips.same)) refills.consumed;
        needed = λ given. omega (arith, refills.needed given, length-append t skips.bits);
        split = refills.split ∙ ap (λ l. t ++ l) skips.split ∙ sym (append_assoc t skips.bits new.buffered);
      };
      taken = new_taken;
      going = ap (λ (v : Reader I). v.refusal) skips.same ∙ set.takes.going;
      failures = ap (λ (v : Reader I). v.failed) skips.same ∙ set.takes.failures;
      len = block.len;
      begun = b + 1;
      before = omega arith;
      decoded = decoded_with_set skips.bits d legal so_far before (record { form = form; run = run_sound; residuals = set.residuals_sound }) pads
          (subst (λ (q : ℤ). GivesBlock s b q xs run (blocks_in s b d)) previous block);
      more_sets = sets ++ d ∷ [];
      has_sets = sets-push skips.bits d has form run_sound set.residuals_sound pads after;
      counted = omega (arith, set.steps, gives.steps, sum_by_push turns sets d);
    }
  where
    sums : (n t m k all : ℕ) → m ≡ n + t → {len : ℕ} → len ≡ k → all ≡ t + len → m + k ≡ n + all
    sums n t m k all e f g = omega arith

-- nothing is taken
pub record TakesNone {I : Type 0} (r new : Reader I) (steps steps_new : ℕ) : Type 0 where
  pub reader : new ≡ r
  pub steps_are : steps_new ≡ steps

-- a block of a run
pub gains_run : {I : Type 0} {s : Parameters} {r new : Reader I} {steps steps_new b c begun run run_new : ℕ} {p : ℤ} {front : List Bool} {sets : List CodedDataSet} {given xs : List ℤ}
    → IsLegal s → place s b ≡ c → p ≡ last_of (pos 0) given → r.refusal ≡ None → begun ≤ b → HasSets s sets front (b + run) → DecodedSoFar s front begun b run given → TakesNone r new steps steps_new
    → GivesBlock s c p xs run_new (replicate run (zero_block s None)) → Gains s r new steps steps_new front sets b run_new given xs
gains_run {I = I} {s} {r} {b} {c} {begun} {run} {run_new} {p} {front} {sets} {given} {xs} legal here previous going before has so_far none gives =
    let j : 1 ≤ s.block = let k : 2 ≤ s.block = grind (arith, legal.block) in omega arith in
    let block = run_gives_there b run j (same_place s b c legal.interval_from here) gives in
    let all = decoded_with_run_block so_far (subst (λ (q : ℤ). GivesBlock s b q xs run_new (replicate run (zero_block s None))) previous block) in
    let nothing : r.taken ≡ r.taken + 0 = omega arith in
    let count : suc (length (replicate run_new (zero_block s None))) ≡ length (replicate run (zero_block s None)) = ap length block.blocks_are in
    let after : b + run ≡ b + 1 + run_new = omega (arith, count, length-replicate run (zero_block s None), length-replicate run_new (zero_block s None)) in
    record {
      bits = [];
      refills = record {
        given = [];
        consumed = subst (λ (v : Reader I). Consumes r.left v.left []) (sym none.reader) (Consumes-nil r.left);
        needed = λ given. absurd (omega arith);
        split = ap (λ l. r.buffered ++ l) bits_of-nil ∙ append-nil r.buffered ∙ ap (λ (v : Reader I). v.buffered) (sym none.reader);
      };
      taken = ap (λ (v : Reader I). v.taken) none.reader ∙ nothing;
      going = ap (λ (v : Reader I). v.refusal) none.reader ∙ going;
      failures = ap (λ (v : Reader I). v.failed) none.reader;
      len = block.len;
      begun = begun;
      before = omega arith;
      decoded = subst (λ (l : List Bool). DecodedSoFar s l begun (b + 1) run_new (given ++ xs)) (sym (append-nil front)) all;
      more_sets = sets;
      has_sets = subst (λ (l : List Bool). HasSets s sets l (b + 1 + run_new)) (sym (append-nil front)) (subst (λ (n : ℕ). HasSets s sets front n) after has);
      counted = omega (arith, none.steps_are, ap (λ (v : Reader I). v.taken) none.reader);
    }

-- a block that was given goes on with what was decoded so far
pub gains_block : {I : Type 0} {s : Parameters} {asked : Option ℕ} {start : Reader I} {out_old out : Option Room} {p q : DecoderState} {r new : Reader I}
    {steps steps_new written : ℕ} {xs : List ℤ} → IsLegal s → (runs : DecodingProgress s asked start out_old out p r steps written) → Advances r new steps steps_new p q xs (Ok Block)
    → Gains s r new steps steps_new runs.front runs.sets runs.blocks q.run runs.given xs
gains_block {s = s} {p = p} {q = q} {r = r} {new = new} {steps = steps} {steps_new = steps_new} {xs = xs} legal runs a =
    let at = runs.at_block in
    elim (took_block at.going a) [
      | inl k ↦ let block = subst (λ (t : Parameters). GivesBlock t p.block p.before xs q.run (replicate p.run (zero_block t None))) at.setting k.gives.gives in
          gains_run legal at.here at.previous
          runs.going runs.before runs.has_sets runs.decoded (record { reader = k.same; steps_are = k.steps_are }) block
      | inr k ↦ let set = subst (λ (t : Parameters). GivesSet (with_mark r) new steps steps_new t p.block p.before xs q.run) at.setting k.gives in
          let end : runs.blocks + p.run ≡ runs.blocks = omega (arith, k.none) in
          let has = subst (λ (n : ℕ). HasSets s runs.sets runs.front n) end runs.has_sets in
          let so_far = subst (λ (n : ℕ). DecodedSoFar s runs.front runs.begun runs.blocks n runs.given) k.none runs.decoded in
          gains_set legal at.here at.previous (λ b n. ap (λ m. padding s b (m + n)) runs.has_read.count) runs.before has so_far set
    ]

-- of the block only its place matters where the decoder stops
pub cut_there : {I : Type 0} {old new : Reader I} {first last : ℕ} {s : Parameters} {b c : ℕ} {fault : BitFault} → place s c ≡ place s b
    → SetCut [] old new first last s c fault → SetCut [] old new first last s b fault
cut_there {s} {b} {c} e cut = record { bits = cut.bits; stops = cut.stops; none = λ d more f g. cut.none d more (form_there s b c d (sym e) f) g; steps = cut.steps }

-- the end of a code depends on the place in the interval alone
pub ends_there : {I : Type 0} {old new : Reader I} {first last : ℕ} {s : Parameters} {b c : ℕ} {blank : Bool} → place s c ≡ place s b
    → SetEnds old new first last s c blank → SetEnds old new first last s b blank
unfolding cut_there
ends_there {old} {new} {first} {last} {s} {b} {c} e ends = record { cut = cut_there e ends.cut; reported = ends.reported }

-- decoding stops at a block with the same place in its interval
record StopsThere {I : Type 0} (old new : Reader I) (first last : ℕ) (s : Parameters) (b c : ℕ) (fault : CodeFault) : Type 0 where
  place_is : place s c ≡ place s b
  stops : StopsBy old new first last s c (Err fault)

-- and so does a refusal
stops_there : {I : Type 0} (old new : Reader I) (first last : ℕ) (s : Parameters) (b c : ℕ) (fault : CodeFault) → StopsThere old new first last s b c fault → StopsBy old new first last s b (Err fault)
stops_there old new first last s b c faults.CodeEnds elsewhere = ends_there elsewhere.place_is elsewhere.stops
stops_there old new first last s b c faults.RunPastSegment elsewhere =
    record {
      set = elsewhere.stops.set;
      form = form_there s c b elsewhere.stops.set elsewhere.place_is elsewhere.stops.form;
      takes = elsewhere.stops.takes;
      unsound = λ g. elsewhere.stops.unsound (run_there s b c elsewhere.stops.set (sym elsewhere.place_is) g);
      steps = elsewhere.stops.steps;
    }
stops_there old new first last s b c faults.ResidualTooLarge elsewhere = record {
  set = elsewhere.stops.set;
  form = form_there s c b elsewhere.stops.set elsewhere.place_is elsewhere.stops.form;
  takes = elsewhere.stops.takes;
  unsound = elsewhere.stops.unsound;
  steps = elsewhere.stops.steps;
}
stops_there old new first last s b c faults.Read elsewhere = cut_there elsewhere.place_is elsewhere.stops
stops_there old new first last s b c faults.TooLong elsewhere = cut_there elsewhere.place_is elsewhere.stops

-- decoding stops at the block that is named by the place in its interval
record StopsByPlace {I : Type 0} (old new : Reader I) (first last : ℕ) (s t : Parameters) (b c : ℕ) (fault : CodeFault) : Type 0 where
  setting : t ≡ s
  place_is : place s b ≡ c
  stops : StopsBy old new first last t c (Err fault)

-- a refusal at the decoder's place is one at the block of that number
stops_here : {I : Type 0} (old new : Reader I) (first last : ℕ) {s t : Parameters} (b : ℕ) {c : ℕ} (fault : CodeFault) → 1 ≤ s.interval → StopsByPlace old new first last s t b c fault
    → StopsBy old new first last s b (Err fault)
stops_here old new first last {s} {t} b {c} fault some elsewhere =
    stops_there old new first last s b c fault (record {
      place_is = same_place s b c some elsewhere.place_is;
      stops = subst (λ (t : Parameters). StopsBy old new first last t c (Err fault)) elsewhere.setting elsewhere.stops;
    })

-- and an end at the decoder's place is one there
ends_at : {I : Type 0} {old new : Reader I} {first last : ℕ} {s t : Parameters} (b : ℕ) {c : ℕ} {blank : Bool} → 1 ≤ s.interval → t ≡ s → place s b ≡ c
    → SetEnds old new first last t c blank → SetEnds old new first last s b blank
ends_at {old} {new} {first} {last} {s} {t} b {c} {blank} some setting here h =
    ends_there (same_place s b c some here) (subst (λ (t : Parameters). SetEnds old new first last t c blank) setting h)

-- where the decoder stops, it is in no run
pub stops_in_no_run : {I : Type 0} {s : Parameters} {asked : Option ℕ} {start : Reader I} {out_old out : Option Room} {p q : DecoderState} {r new : Reader I}
    {steps steps_new written : ℕ} {xs : List ℤ} {fault : CodeFault} → IsLegal s
    → (runs : DecodingProgress s asked start out_old out p r steps written) → Advances r new steps steps_new p q xs (Err fault)
    → (p.run ≡ 0) × StopsBy (with_mark r) new steps steps_new s runs.blocks (Err fault)
stops_in_no_run {s = s} {p = p} {r = r} {new = new} {steps = steps} {steps_new = steps_new} {fault = fault} legal runs a =
    let at = runs.at_block in
    elim (runs_or_not p) [
      | inl lt ↦ absurd (let e = (a.in_run at.going lt).0 in cc)
      | inr none ↦ (none, stops_here (with_mark r) new steps steps_new runs.blocks fault legal.interval_from (record { setting = at.setting; place_is = at.here; stops = (a.reads at.going none).0 }))
    ]

-- where the decoder finds the end, it is in no run, and what was decoded is all
pub decoding_is_done : {I : Type 0} {s : Parameters} {asked : Option ℕ} {start : Reader I} {out_old out : Option Room} {p q : DecoderState} {r new : Reader I}
    {steps steps_new written : ℕ} {xs : List ℤ} → IsLegal s → (runs : DecodingProgress s asked start out_old out p r steps written) → Advances r new steps steps_new p q xs (Ok Done)
    → (p.run ≡ 0) × SetEnds (with_mark r) new steps steps_new s runs.blocks true
decoding_is_done {s = s} {p = p} {r = r} {new = new} {steps = steps} {steps_new = steps_new} legal runs a =
    let at = runs.at_block in
    elim (runs_or_not p) [
      | inl lt ↦ absurd (let e = (a.in_run at.going lt).0 in cc)
      | inr none ↦ (none, ends_at runs.blocks legal.interval_from at.setting at.here (a.reads at.going none).0)
    ]

-- no more samples than were asked for
pub still_asked : (asked : Option ℕ) (written block : ℕ) → IfSome asked (λ n. written ≤ n) → IfSome asked (λ n. written + wanted_of asked written block ≤ n)
still_asked None written block h = tt
still_asked (Some n) written block h = let le : written ≤ n = h in omega arith
