-- How decoding ends.
use Rattle.std.proofs.Common.{◌≡◌, ◌≢◌, ℕ, zero, suc, ◌+◌, ◌-◌, ◌*◌, ◌/◌, ◌%◌, ◌<◌, ◌≤◌, ◌==◌, ◌⊎◌, cond, min, Bool, true, false, List, []}
use Rattle.std.proofs.Common.{◌∷◌, ◌++◌, length, take, refl, ap, arith, sym, ◌∙◌, subst, append_assoc, append-nil, length-append, Option, Some, None, ℤ, pos, inl, inr}
use Rattle.rice_stream.proofs.Words.{◌^◌, Err, sum_by, All, Contains, IfSome, Consumes, IsAtEnd, most_at_once, Room, Appends, Consumes-nil, Consumes-trans, Appends-nil, Appends-trans, mod-lt, afresh}
use Rattle.rice_stream.proofs.Words.{mod-eq_of_lt, mod_self, mul-div_cancel_left, mul-le-mul_left, cases_lt, nat_tests, take-length, take-append_seam, length-take-le, length-take, Reader, Refills}
use Rattle.rice_stream.proofs.Words.{is_blank, new_reader, most_buffered, BitFault, bits_of-nil, bits_of-append, length-bits_of, Parameters, IsLegal, place, last_of, spellings, Decoded, Ending}
use Rattle.rice_stream.proofs.Words.{EndsWith, Reached, Ended, CutOff, Past, Large, BeginsUnsound, IsWanted, cut_to, last_append, place_step, CodedDataSet, bits_of_set, turns, StopsBy, SetEnds}
use Rattle.rice_stream.proofs.Words.{SetRefused, with_mark, DecoderState, state_after_block, block_place_after, IsForm, SetCut, CodeFault, AreCounted, spellings-append, bits_of, Call, StopsBetween}
use Rattle.rice_stream.proofs.Words.{CountsSteps, DecodesBetween, EndsInTurns, Reports, EndsDecoding, DecodesBytes, RunsOut, at_most, wanted_of, ended_fault, refusal_fault, DecodedSoFar, Gains}
use Rattle.rice_stream.proofs.Words.{DecodingProgress, HasRead, HasSets, HasSteps, DecodesWithin, TakesPart, Report, Fault, Read, Write, TooLong, CodeEnds, Follows, take-nil}
use Rattle.rice_stream.proofs.lemmas.{EncodingLemmas.Follows-all, EncodingLemmas.part_follows, DecodingLemmas.still_asked, SetsRead.sets-none}
use Rattle.rice_bits.specs.declared.read.fault.BitFault.TheVariants as bit_faults
use Rattle.rice_code.specs.declared.decode.call_results.CodeFault.TheVariants as faults
use Rattle.rice_stream.proofs.lemmas.DecodedSamples.{decoded_nothing, ends_here, ends_reached, cut_nothing, cut_more, cut_none}

-- more samples are wanted than are written
pub goes_on : (s : Parameters) (asked : Option ℕ) (blocks written : ℕ) (all : List ℤ) → length all ≡ s.block * blocks → written ≡ length (cut_to s asked 0 all)
    → wanted_of asked written s.block ≢ 0 → IsWanted s asked blocks
goes_on s None blocks written all e w some = tt
goes_on s (Some n) blocks written all e w some = let k = length-take (n - s.block * 0) all in omega arith

-- and then as many are written as there are
pub all_written : (s : Parameters) (asked : Option ℕ) (blocks written : ℕ) (all : List ℤ) → length all ≡ s.block * blocks
    → written ≡ length (cut_to s asked 0 all) → IsWanted s asked blocks → (written ≡ s.block * blocks) × (cut_to s asked 0 all ≡ all)
all_written s asked blocks written all e w goes = let same = cut_none s asked blocks all e goes in (w ∙ ap length same ∙ e, same)

-- the wanted part of the next block
pub wanted_part : (s : Parameters) (asked : Option ℕ) (blocks written : ℕ) (xs : List ℤ) → written ≡ s.block * blocks → length xs ≡ s.block
    → take (wanted_of asked written s.block) xs ≡ cut_to s asked blocks xs
wanted_part s None blocks written xs e n = ap (λ m. take m xs) (sym n) ∙ take-length xs
wanted_part s (Some m) blocks written xs e n = ap (λ k. take (min (m - k) s.block) xs) e ∙ by_min (m - s.block * blocks) s.block xs n
  where
    by_min : (a j : ℕ) (xs : List ℤ) → length xs ≡ j → take (min a j) xs ≡ take a xs
    by_min a j [] e = take-nil (min a j) ∙ sym (take-nil a)
    by_min zero j (x ∷ xs) e = let z : min 0 j ≡ 0 = omega arith in ap (λ m. take m (x ∷ xs)) z
    by_min (suc a) zero (x ∷ xs) e = absurd (omega arith)
    by_min (suc a) (suc j) (x ∷ xs) e = let z : min (suc a) (suc j) ≡ suc (min a j) = omega arith in ap (λ m. take m (x ∷ xs)) z ∙ ap (λ l. x ∷ l) (by_min a j xs (omega arith))

-- the place after a block
pub next_here : (s : Parameters) (b c : ℕ) → IsLegal s → place s b ≡ c → place s (b + 1) ≡ block_place_after s c 1
next_here s b c legal e =
    let lt : c < s.interval = omega (arith, e, mod-lt b legal.interval_from) in
    let same : place s b ≡ place s c = e ∙ sym (mod-eq_of_lt lt) in
    place_step s b c same ∙ by_end (cases_lt (c + 1) s.interval) lt
  where
    by_end : (c + 1 < s.interval) ⊎ (s.interval ≤ c + 1) → c < s.interval → place s (c + 1) ≡ block_place_after s c 1
    by_end (inl inside) lt = let no : (c + 1 == s.interval) ≡ false = grind (arith, nat_tests) in mod-eq_of_lt inside ∙ ap (λ v. cond v 0 (c + 1)) (sym no)
    by_end (inr end) lt = let yes : (c + 1 == s.interval) ≡ true = grind (arith, nat_tests) in let same : c + 1 ≡ s.interval = omega arith in
        ap (λ n. n % s.interval) same ∙ mod_self s.interval ∙ ap (λ v. cond v 0 (c + 1)) (sym yes)

-- of a block no more samples are wanted than it has
pub most_wanted : (asked : Option ℕ) (written block : ℕ) → wanted_of asked written block ≤ block
most_wanted None written block = omega arith
most_wanted (Some n) written block = omega arith

-- with a count of 0 no sample is wanted
nothing_wanted : (written block : ℕ) → wanted_of (Some 0) written block ≡ 0
nothing_wanted written block = omega arith

-- the fault that is reported, in another form
pub reports_as : {I : Type 0} {rep : Report} {f fault known : Option Fault} {left : Option (List ℕ)} {failed : ℕ} {reader : Reader I} {samples steps : ℕ}
    → fault ≡ known → Reports rep f left failed reader samples steps fault → Reports rep f left failed reader samples steps known
reports_as {rep = rep} {f = f} {left = left} {failed = failed} {reader = reader} {samples = samples} {steps = steps} is r = subst
    (λ (k : Option Fault). Reports rep f left failed reader samples steps k) is r

-- a block's samples are wanted
pub block_is_wanted : (asked : Option ℕ) (written : ℕ) {size count block : ℕ} → count ≡ wanted_of asked written size → size ≡ block → count ≢ 0 → wanted_of asked written block ≢ 0
block_is_wanted asked written e f some none = some (e ∙ ap (wanted_of asked written) f ∙ none)

-- more bits were taken
has_read-append : {start left left_new : Option (List ℕ)} {buffered buffered_new front bits : List Bool} {taken taken_new : ℕ}
    → HasRead start left buffered taken front → Refills left left_new buffered buffered_new bits → taken_new ≡ taken + length bits → HasRead start left_new buffered_new taken_new (front ++ bits)
has_read-append {start = start} {left = left} {left_new = left_new} {buffered = buffered} {buffered_new = buffered_new} {front = front} {bits = bits} r d e = record {
  bytes = r.bytes ++ d.given;
  gave = Consumes-trans start left left_new r.bytes d.given r.gave d.consumed;
  bits = bits_of-append r.bytes d.given ∙ ap (λ l. l ++ bits_of d.given) r.bits ∙ append_assoc front buffered (bits_of d.given) ∙ ap (λ l. front ++ l) d.split
      ∙ sym (append_assoc front bits buffered_new);
  count = e ∙ ap (λ n. n + length bits) r.count ∙ sym (length-append front bits);
}

-- how the numbers of a decoding grow with a block
pub record Grows (steps tick old_taken new_taken wanted run run_new size : ℕ) : Type 0 where
  pub counted : AreCounted steps tick old_taken new_taken
  pub few : size + run_new * size ≤ run * size + 456 * (new_taken - old_taken)

-- a block more is written
pub progress_with_block : {I : Type 0} {s : Parameters} {asked : Option ℕ} {start : Reader I} {out_old out out_new : Option Room} {p q : DecoderState}
    {r new : Reader I} {steps steps_new written : ℕ} {xs : List ℤ} {count steps_next : ℕ} → IsLegal s
    → (runs : DecodingProgress s asked start out_old out p r steps written) → count ≡ wanted_of asked written s.block → wanted_of asked written s.block ≢ 0
    → Gains s r new steps steps_new runs.front runs.sets runs.blocks q.run runs.given xs → q ≡ state_after_block p xs q.run
    → Grows steps steps_new r.taken new.taken count p.run q.run s.block → steps_next ≡ steps_new + count → Appends out out_new (spellings s (take count xs))
    → DecodingProgress s asked start out_old out_new q new steps_next (written + count)
progress_with_block {s = s} {asked = asked} {start = start} {out_old = out_old} {out = out} {out_new = out_new} {p = p} {q = q} {r = r} {new = new}
    {steps = steps} {steps_new = steps_new} {written = written} {xs = xs} {count} legal runs is some gained moves grows ticked put =
    let b = runs.blocks in
    let at = runs.at_block in
    let so = runs.has_written in
    let goes = goes_on s asked b written runs.given runs.decoded.len so.count some in
    let so_far = all_written s asked b written runs.given runs.decoded.len so.count goes in
    let part : take count xs ≡ cut_to s asked b xs = ap (λ n. take n xs) is ∙ wanted_part s asked b written xs so_far.0 gained.len in
    let cut = cut_more s asked b runs.given xs runs.decoded.len in
    let most : count ≤ s.block = omega (arith, is, most_wanted asked written s.block) in
    record {
      blocks = b + 1;
      front = runs.front ++ gained.bits;
      given = runs.given ++ xs;
      sets = gained.more_sets;
      begun = gained.begun;
      at_block = record {
        setting = ap (λ p. p.setting) moves ∙ at.setting;
        here = next_here s b p.block legal at.here ∙ ap (λ t. block_place_after t p.block 1) (sym at.setting) ∙ sym (ap (λ p. p.block) moves);
        previous = ap (λ p. p.before) moves ∙ ap (λ z. last_of z xs) at.previous ∙ sym (last_append (pos 0) runs.given xs);
        going = ap (λ p. p.stopped) moves ∙ at.going;
      };
      going = gained.going;
      reads = gained.failures ∙ runs.reads;
      idle = λ none. absurd (some (ap (λ asked. wanted_of asked written s.block) none ∙ nothing_wanted written s.block));
      limit = grows.counted.limit;
      has_read = has_read-append runs.has_read gained.refills gained.taken;
      has_sets = gained.has_sets;
      before = gained.before;
      decoded = gained.decoded;
      has_written = record {
        wanted = λ i lt. one_more_wanted asked b i so.wanted goes lt;
        count = so_many count (omega (arith, most, gained.len)) (ap length (sym part)) cut;
        asked_for = subst (λ (n : ℕ). IfSome asked (λ m. written + n ≤ m)) (sym is) (still_asked asked written s.block so.asked_for);
        put = subst (λ (l : List ℕ). Appends out_old out_new l)
            (ap (λ l. spellings s (cut_to s asked 0 runs.given) ++ spellings s l) part
            ∙ sym (spellings-append s (cut_to s asked 0 runs.given) (cut_to s asked b xs)) ∙ ap (spellings s) (sym cut))
            (Appends-trans out_old out out_new (spellings s (cut_to s asked 0 runs.given)) (spellings s (take count xs)) so.put put);
      };
      has_steps = record {
        count = omega (arith, runs.has_steps.count, gained.counted, ticked);
        most = omega (arith, runs.has_steps.most, grows.counted.most, ticked);
        by_bits = omega (arith, runs.has_steps.by_bits, grows.few, grows.counted.forward, most);
      };
    }
  where
    one_more_wanted : (asked : Option ℕ) (b i : ℕ) → ((i : ℕ) → i < b → IsWanted s asked i) → IsWanted s asked b → i < b + 1 → IsWanted s asked i
    one_more_wanted None b i h k lt = tt
    one_more_wanted (Some n) b i h k lt = let le : s.block * i ≤ s.block * b = mul-le-mul_left s.block (omega arith) in let k' : s.block * b < n = k in omega arith

    so_many : (w : ℕ) → w ≤ length xs → length (cut_to s asked runs.blocks xs) ≡ length (take w xs)
        → cut_to s asked 0 (runs.given ++ xs) ≡ cut_to s asked 0 runs.given ++ cut_to s asked runs.blocks xs → written + w ≡ length (cut_to s asked 0 (runs.given ++ xs))
    so_many w le part cut = omega (arith, runs.has_written.count, ap length cut, length-append (cut_to s asked 0 runs.given) (cut_to s asked runs.blocks xs), part, length-take-le w xs le)

-- What is known of a call where it ends, whatever its fault: what the intake gave, the samples, the numbers and the steps.
record Exits (s : Parameters) (asked : Option ℕ) (start left : Option (List ℕ)) (out_old out : Option Room) (rep : Report) (bytes written : List ℕ) (ending : Ending) : Type 0 where
  pub gave : Consumes start left bytes
  pub took : Appends out_old out written
  pub ahead : length bytes ≤ rep.bits / 8 + most_at_once
  pub steps : CountsSteps s (bits_of bytes) rep ending

-- the call ends so
call_ends_so : {s : Parameters} {asked : Option ℕ} {start left : Option (List ℕ)} {out_old out : Option Room} {rep : Report} {f : Option Fault}
    {bytes written : List ℕ} (left_new : Option (List ℕ)) (ys : List ℤ) (ending : Ending) (fault : Option Fault)
    → Exits s asked start left out_old out rep bytes written ending → left_new ≡ left → f ≡ fault → (fault ≢ Some TooLong → length bytes ≤ 2 ^ 49)
    → EndsDecoding s asked fault (record { given = bytes; left = left; written = written }) rep ys ending → DecodesBetween s asked start left_new out_old out rep f
call_ends_so {s = s} {asked = asked} {start = start} {left = left} {out_old = out_old} {out = out} {rep = rep} {f = f} {bytes = bytes} {written = written}
    left_new ys ending fault e there is limit ends =
    subst (λ (l : Option (List ℕ)). DecodesBetween s asked start l out_old out rep f) (sym there)
    (subst (λ (f : Option Fault). DecodesBetween s asked start left out_old out rep f) (sym is) (
      record { given = bytes; left = left; written = written },
      record { gave = e.gave; left = refl; took = e.took },
      record { samples = ys; ending = ending; ends = ends; ahead = e.ahead; limit = limit; steps = e.steps },
    ))

-- what is given ahead of the bits that were taken is limited
given_is_limited : {start left : Option (List ℕ)} {buffered front : List Bool} {taken : ℕ} → (read : HasRead start left buffered taken front)
    → length buffered ≤ most_buffered → taken + length buffered ≤ 2 ^ 52 → (length read.bytes ≤ taken / 8 + most_at_once) × (length read.bytes ≤ 2 ^ 49)
given_is_limited {buffered = buffered} {front = front} read few limit =
    let a = length-bits_of read.bytes in
    let b = ap length read.bits in
    let c = length-append front buffered in
    (omega (arith, read.count), omega (arith, read.count))

-- the coded data sets so far are wanted
begun_wanted : {I : Type 0} {s : Parameters} {asked : Option ℕ} {start : Reader I} {out_old out : Option Room} {p : DecoderState} {r : Reader I}
    {steps written : ℕ} → (runs : DecodingProgress s asked start out_old out p r steps written) → (i : ℕ) → i < runs.begun → IsWanted s asked i
begun_wanted runs i lt = runs.has_written.wanted i (omega (arith, lt, runs.before))

-- no run goes on
at_set : {I : Type 0} {s : Parameters} {asked : Option ℕ} {start : Reader I} {out_old out : Option Room} {p : DecoderState} {r : Reader I} {steps written : ℕ}
    → (runs : DecodingProgress s asked start out_old out p r steps written) → p.run ≡ 0 → DecodedSoFar s runs.front runs.begun runs.blocks 0 runs.given
at_set {s = s} runs none = subst (λ (n : ℕ). DecodedSoFar s runs.front runs.begun runs.blocks n runs.given) none runs.decoded

-- the steps where decoding ends with bits that are no sound coded data set
counts_steps : {s : Parameters} {rep : Report} {sets : List CodedDataSet} {front : List Bool} {blocks : ℕ} (buffered : List Bool) (bytes : List ℕ) (last : List Bool) {ending : Ending} (in_last : ℕ)
    → HasSets s sets front blocks → bits_of bytes ≡ (front ++ last) ++ buffered → EndsInTurns s blocks last ending in_last → rep.bits ≡ length (front ++ last)
    → rep.steps ≡ rep.bits + rep.samples + sum_by turns sets + in_last → CountsSteps s (bits_of bytes) rep ending
counts_steps {s = s} {sets = sets} {front = front} buffered bytes last {ending} in_last has bits ends count steps = record {
  sets = sets;
  front = front;
  last = last;
  rest = buffered;
  parts = bits;
  lie = has.lie;
  sound = has.sound;
  turns_in_last = in_last;
  ends = subst (λ (n : ℕ). EndsInTurns s n last ending in_last) (sym has.end) ends;
  bits_taken = count;
  steps = steps;
}

-- and those where it ends with a whole one
whole_steps : {s : Parameters} {rep : Report} {sets : List CodedDataSet} {front : List Bool} {blocks : ℕ} (buffered : List Bool) (bytes : List ℕ)
    → HasSets s sets front blocks → bits_of bytes ≡ front ++ buffered → rep.bits ≡ length front → rep.steps ≡ rep.bits + rep.samples + sum_by turns sets → CountsSteps s (bits_of bytes) rep Reached
whole_steps {front = front} buffered bytes has bits count steps =
    let whole = append-nil front in
    counts_steps buffered bytes [] 0 has (bits ∙ ap (λ l. l ++ buffered) (sym whole)) (refl, refl) (count ∙ ap length (sym whole)) (omega (arith, steps))

-- the samples that were asked for are reached
pub reached_ends : {I : Type 0} {s : Parameters} {asked : Option ℕ} {start : Reader I} {out_old out : Option Room} {p : DecoderState} {r : Reader I}
    {steps written : ℕ} {rep : Report} {f : Option Fault} {left : Option (List ℕ)} {failed : ℕ} → IsLegal s
    → (runs : DecodingProgress s asked start out_old out p r steps written) → wanted_of asked written s.block ≡ 0
    → Reports rep f left failed r written steps None → DecodesBetween s asked start.left left out_old out rep f
reached_ends {s = s} {asked = None} legal runs none tells = absurd (let j : 2 ≤ s.block = grind (arith, legal.block) in omega arith)
reached_ends {s = s} {asked = Some n} {p = p} {r = r} {rep = rep} {left = left} legal runs none tells =
    let j : 2 ≤ s.block = grind (arith, legal.block) in
    let so = runs.has_written in
    let read = runs.has_read in
    let ys = cut_to s (Some n) 0 runs.given in
    let k = length-take (n - s.block * 0) runs.given in
    let enough : n ≤ s.block * runs.blocks = omega (arith, none, so.count, k, runs.decoded.len) in
    let decoded = ends_reached r.buffered n legal runs.decoded (begun_wanted runs) enough in
    let used : length runs.front + 0 ≡ r.taken = omega (arith, read.count) in
    let all : Decoded s (bits_of read.bytes) (Some n) ys Reached (length runs.front + 0) = subst (λ (l : List Bool). Decoded s l (Some n) ys Reached (length runs.front + 0)) (sym read.bits) decoded in
    let few = given_is_limited read tells.ahead tells.limit in
    call_ends_so left ys Reached None record {
      gave = read.gave;
      took = so.put;
      ahead = omega (arith, few.0, tells.bits_are);
      steps = whole_steps r.buffered read.bytes runs.has_sets read.bits (tells.bits_are ∙ read.count) (omega (arith, runs.has_steps.count, tells.steps_are, tells.bits_are, tells.samples_are));
    } tells.left_is tells.fault_is (λ _. few.1)
    ((length runs.front + 0, all, record { written = refl; samples = tells.samples_are ∙ so.count; bits = tells.bits_are ∙ sym used }), inl refl)

-- bits that pass the test for zeros are all zeros
pub blank_all : (bits : List Bool) → is_blank bits ≡ true → All (λ bit. bit ≡ false) bits
blank_all [] e k d lt = absurd (omega arith)
blank_all (true ∷ bits) e k d lt = absurd (let f : false ≡ true = e in cc)
blank_all (false ∷ bits) e zero d lt = refl
blank_all (false ∷ bits) e (suc k) d lt = blank_all bits e k d (omega arith)

-- and among bits that do not pass it there is a one
pub some_one : (bits : List Bool) → is_blank bits ≡ false → Contains bits true
some_one [] e = absurd (let f : true ≡ false = e in cc)
some_one (true ∷ bits) e = (0, omega arith, refl)
some_one (false ∷ bits) e = let r = some_one bits e in (suc r.0, omega (arith, r.1), r.2)

-- how decoding ends where all bits are taken and no data set begins with them
ending_of : Bool → Ending
ending_of true = Ended
ending_of false = CutOff

run_out : (b : Bool) → RunsOut (ending_of b)
unfolding ending_of
run_out true = inl refl
run_out false = inr refl

-- where no coded data set begins what is left, decoding ends: of zeros as it should, else inside a coded data set
ends_out : (s : Parameters) (asked : Option ℕ) (b : ℕ) (bits : List Bool) (blank : Bool) → IsWanted s asked b → is_blank bits ≡ blank
    → ((d : CodedDataSet) (more : List Bool) → IsForm s b d → bits ≡ bits_of_set s d ++ more → ⊥) → EndsWith s asked b bits (ending_of blank) (length bits)
unfolding ending_of
ends_out s asked b bits true goes e none = (goes, blank_all bits e, refl)
ends_out s asked b bits false goes e none = (goes, some_one bits e, none, refl)

-- The turns where all bits are taken and no data set begins with them: at most one for each bit, and none where no bit is a 1.
turns_out : (s : Parameters) (b : ℕ) (bits : List Bool) (blank : Bool) (count : ℕ) → is_blank bits ≡ blank
    → ((d : CodedDataSet) (more : List Bool) → IsForm s b d → bits ≡ bits_of_set s d ++ more → ⊥) → count ≤ length bits → (is_blank bits ≡ true → count ≡ 0)
    → EndsInTurns s b bits (ending_of blank) count
unfolding ending_of
turns_out s b bits true count e none most blank = ((tt, blank_all bits e, refl), blank e)
turns_out s b bits false count e none most blank = ((tt, some_one bits e, none, refl), most)

-- the fault where all bits are taken and the intake has ended
abbrev pub fault_at_end : Option ℕ → Bool → ℕ → Option Fault
fault_at_end asked true written = ended_fault asked written
fault_at_end asked false written = Some (CodeEnds written)

-- All that was given is taken, and no coded data set begins with the last of it.
record RunsDry {I : Type 0} (s : Parameters) (asked : Option ℕ) (start : Reader I) (middle : Option (List ℕ)) (new : Reader I) (rep : Report) (ys : List ℤ) (written : ℕ) (blank : Bool) : Type 0 where
  pub front : List Bool
  pub read : HasRead start.left middle [] new.taken front
  pub few : length read.bytes ≤ rep.bits / 8
  pub limit : length read.bytes ≤ 2 ^ 49
  pub used : ℕ
  pub decoded : Decoded s (bits_of read.bytes) asked ys (ending_of blank) used
  pub bits : rep.bits ≡ used
  pub samples : rep.samples ≡ length ys
  pub count : written ≡ length ys
  pub sets : (more : List ℕ) → CountsSteps s (bits_of (read.bytes ++ more)) rep (ending_of blank)

-- the intake ended, and decoding ends with it
runs_dry : {I : Type 0} {s : Parameters} {asked : Option ℕ} {start : Reader I} {out_old out : Option Room} {p : DecoderState} {r new : Reader I}
    {steps steps_new written : ℕ} {rep : Report} {f fault : Option Fault} {left : Option (List ℕ)} {failed : ℕ} {why : BitFault} (blank : Bool)
    → (runs : DecodingProgress s asked start out_old out p r steps written) → wanted_of asked written s.block ≢ 0 → p.run ≡ 0
    → (cut : SetCut [] (with_mark r) new steps steps_new s runs.blocks why) → is_blank cut.bits ≡ blank
    → AreCounted steps steps_new r.taken new.taken → Reports rep f left failed new written steps_new fault → RunsDry s asked start cut.stops.middle new rep (cut_to s asked 0 runs.given) written blank
runs_dry {s = s} {asked = asked} {p = p} {r = r} {new = new} {steps = steps} {steps_new = steps_new} {written = written} {rep = rep} blank runs some none cut known counted tells =
    let bits = cut.bits in
    let front = runs.front ++ bits in
    let so = runs.has_written in
    let read = has_read-append runs.has_read cut.stops.refills cut.stops.taken in
    let ys = cut_to s asked 0 runs.given in
    let goes = goes_on s asked runs.blocks written runs.given runs.decoded.len so.count some in
    let out_of = ends_here bits asked (ending_of blank) (length bits) (at_set runs none) (begun_wanted runs)
    (ends_out s asked runs.blocks bits blank goes known cut.none) in
    let whole : bits_of read.bytes ≡ front = read.bits ∙ append-nil front in
    let used : length runs.front + length bits ≡ new.taken = sym (read.count ∙ length-append runs.front bits) in
    let size = length-bits_of read.bytes in
    let here : runs.blocks + p.run ≡ runs.blocks = omega (arith, none) in
    let has = subst (λ (n : ℕ). HasSets s runs.sets runs.front n) here runs.has_sets in
    let in_last = steps_new - steps - length bits in
    record {
      front = front;
      read = read;
      few = omega (arith, ap length whole, read.count, tells.bits_are);
      limit = omega (arith, ap length whole, read.count, counted.limit);
      used = length runs.front + length bits;
      decoded = subst (λ (l : List Bool). Decoded s l asked ys (ending_of blank) (length runs.front + length bits)) (sym whole) out_of;
      bits = tells.bits_are ∙ sym used;
      samples = tells.samples_are ∙ so.count;
      count = so.count;
      sets = λ more. counts_steps (bits_of more) (read.bytes ++ more) bits in_last has (bits_of-append read.bytes more ∙ ap (λ l. l ++ bits_of more) whole)
          (turns_out s runs.blocks bits blank in_last known cut.none (omega (arith, counted.most, cut.stops.taken)) (λ zeros. omega (arith, cut.steps zeros, cut.stops.taken)))
          (tells.bits_are ∙ read.count) (omega (arith, counted.least, cut.stops.taken, runs.has_steps.count, tells.bits_are, tells.samples_are, tells.steps_are));
    }

-- no 1 is left, or no data set begins with what is left, where the intake has ended
pub ended_ends : {I : Type 0} {s : Parameters} {asked : Option ℕ} {start : Reader I} {out_old out : Option Room} {p : DecoderState} {r new : Reader I}
    {steps steps_new written : ℕ} {rep : Report} {f : Option Fault} {left : Option (List ℕ)} {failed : ℕ} (blank : Bool)
    → (runs : DecodingProgress s asked start out_old out p r steps written) → wanted_of asked written s.block ≢ 0 → p.run ≡ 0 → SetEnds (with_mark r) new steps steps_new s runs.blocks blank
    → AreCounted steps steps_new r.taken new.taken → Reports rep f left failed new written steps_new (fault_at_end asked blank written) → DecodesBetween s asked start.left left out_old out rep f
unfolding ending_of
ended_ends {s = s} {asked = asked} {start = start} {new = new} {written = written} {rep = rep} {left = left} blank runs some none ends counted tells =
    let stops = ends.cut.stops in
    let dry = runs_dry blank runs some none ends.cut ends.reported counted tells in
    let read = dry.read in
    let ys = cut_to s asked 0 runs.given in
    let gave = subst (λ (l : List ℕ). Consumes start.left new.left l) (append-nil read.bytes) (Consumes-trans start.left stops.middle new.left read.bytes [] read.gave stops.refuses.0) in
    call_ends_so left ys (ending_of blank) (fault_at_end asked blank written) record {
      gave = gave;
      took = runs.has_written.put;
      ahead = omega (arith, dry.few);
      steps = subst (λ (l : List ℕ). CountsSteps s (bits_of l) rep (ending_of blank)) (append-nil read.bytes) (dry.sets []);
    } tells.left_is tells.fault_is (λ _. dry.limit)
    (by_fault blank asked (dry.used, dry.decoded, record { written = refl; samples = dry.samples; bits = dry.bits }) stops.refuses.1 dry.count)
  where
    by_fault : {c : Call} {ys : List ℤ} (blank : Bool) (asked : Option ℕ) → DecodesBytes s asked c rep c.given ys (ending_of blank) → IsAtEnd c.left
        → written ≡ length ys → EndsDecoding s asked (fault_at_end asked blank written) c rep ys (ending_of blank)
    by_fault true None d end n = (d, inr (refl, refl, end))
    by_fault true (Some m) d end n = (d, inr (refl, refl), end, n)
    by_fault false asked d end n = (d, inl refl, end, n)

-- the intake failed
read_ends : {I : Type 0} {s : Parameters} {asked : Option ℕ} {start : Reader I} {out_old out : Option Room} {p : DecoderState} {r new : Reader I}
    {steps steps_new written : ℕ} {rep : Report} {f : Option Fault} {left : Option (List ℕ)} {failed : ℕ}
    → (runs : DecodingProgress s asked start out_old out p r steps written) → wanted_of asked written s.block ≢ 0 → p.run ≡ 0
    → SetCut [] (with_mark r) new steps steps_new s runs.blocks bit_faults.Read
    → AreCounted steps steps_new r.taken new.taken → Reports rep f left failed new written steps_new (Some Read) → DecodesBetween s asked start.left left out_old out rep f
read_ends {s = s} {asked = asked} {start = start} {new = new} {rep = rep} {left = left} runs some none cut counted tells =
    let blank = is_blank cut.bits in
    let dry = runs_dry blank runs some none cut refl counted tells in
    let read = dry.read in
    let gave = subst (λ (l : List ℕ). Consumes start.left new.left l) (append-nil read.bytes) (Consumes-trans start.left cut.stops.middle new.left read.bytes [] read.gave cut.stops.refuses.0) in
    call_ends_so left (cut_to s asked 0 runs.given) (ending_of blank) (Some Read) record {
      gave = gave;
      took = runs.has_written.put;
      ahead = omega (arith, dry.few);
      steps = subst (λ (l : List ℕ). CountsSteps s (bits_of l) rep (ending_of blank)) (append-nil read.bytes) (dry.sets []);
    } tells.left_is tells.fault_is (λ _. dry.limit)
    ((dry.used, dry.decoded, record { written = refl; samples = dry.samples; bits = dry.bits }), run_out blank)

-- the byte past the limit was given
long_ends : {I : Type 0} {s : Parameters} {asked : Option ℕ} {start : Reader I} {out_old out : Option Room} {p : DecoderState} {r new : Reader I}
    {steps steps_new written : ℕ} {rep : Report} {f : Option Fault} {left : Option (List ℕ)} {failed : ℕ}
    → (runs : DecodingProgress s asked start out_old out p r steps written) → wanted_of asked written s.block ≢ 0 → p.run ≡ 0
    → SetCut [] (with_mark r) new steps steps_new s runs.blocks bit_faults.TooLong
    → AreCounted steps steps_new r.taken new.taken → Reports rep f left failed new written steps_new (Some TooLong) → DecodesBetween s asked start.left left out_old out rep f
long_ends {s = s} {asked = asked} {start = start} {new = new} {rep = rep} {left = left} runs some none cut counted tells =
    let blank = is_blank cut.bits in
    let dry = runs_dry blank runs some none cut refl counted tells in
    let read = dry.read in
    let refuses = cut.stops.refuses in
    let byte = refuses.0.0 in
    let full : length read.bytes ≡ 562949953421312 = omega (arith, length-bits_of read.bytes, ap length (read.bits ∙ append-nil dry.front), read.count, refuses.2) in
    call_ends_so left (cut_to s asked 0 runs.given) (ending_of blank) (Some TooLong) record {
      gave = Consumes-trans start.left cut.stops.middle new.left read.bytes (byte ∷ []) read.gave refuses.0.1;
      took = runs.has_written.put;
      ahead = omega (arith, dry.few, length-append read.bytes (byte ∷ []));
      steps = dry.sets (byte ∷ []);
    } tells.left_is tells.fault_is (λ other. absurd (other refl))
    ((read.bytes, record { last = byte; split = refl; full = full }, (dry.used, dry.decoded, record { written = refl; samples = dry.samples; bits = dry.bits })), run_out blank)

-- a block is asked for, and no run stands
record AtWantedBlock (s : Parameters) (asked : Option ℕ) (p : DecoderState) (written : ℕ) : Type 0 where
  legal : IsLegal s
  wanted : wanted_of asked written s.block ≢ 0
  run : p.run ≡ 0

-- steps that are counted, and reported
record CountedReport {I : Type 0} (r new : Reader I) (steps steps_new written : ℕ) (rep : Report) (f : Option Fault) (left : Option (List ℕ)) (failed : ℕ) (fault : Option Fault) : Type 0 where
  counted : AreCounted steps steps_new r.taken new.taken
  reports : Reports rep f left failed new written steps_new fault

-- a coded data set was refused
refused_ends : {I : Type 0} {s : Parameters} {asked : Option ℕ} {start : Reader I} {out_old out : Option Room} {p : DecoderState} {r new : Reader I}
    {steps steps_new written : ℕ} {rep : Report} {f : Option Fault} {left : Option (List ℕ)} {failed : ℕ} {P : CodedDataSet → Type 0} (ending : Ending) {fault : Option Fault}
    → fault ≢ Some TooLong → AtWantedBlock s asked p written → (runs : DecodingProgress s asked start out_old out p r steps written) → SetRefused (with_mark r) new steps steps_new s runs.blocks P
    → ((asked : Option ℕ) (rest : List Bool) (used : ℕ) → IsWanted s asked runs.blocks → BeginsUnsound s runs.blocks rest used P → EndsWith s asked runs.blocks rest ending used)
    → ((last : List Bool) (count : ℕ) (unsound : BeginsUnsound s runs.blocks last (length last) P) → count ≡ turns unsound.refused → EndsInTurns s runs.blocks last ending count)
    → CountedReport r new steps steps_new written rep f left failed fault → ((c : Call) (ys : List ℤ) → DecodesBytes s asked c rep c.given ys ending → length ys ≡ s.block * (written / s.block)
    → EndsDecoding s asked fault c rep ys ending) → DecodesBetween s asked start.left left out_old out rep f
refused_ends {s = s} {asked = asked} {start = start} {p = p} {r = r} {new = new} {steps = steps} {steps_new = steps_new} {written = written} {rep = rep}
    {left = left} {P} ending {fault} other at_block runs refused by_rule by_turns reported ends =
    let b = runs.blocks in
    let so = runs.has_written in
    let j : 1 ≤ s.block = let k : 2 ≤ s.block = grind (arith, at_block.legal.block) in omega arith in
    let set = bits_of_set s refused.set in
    let rest = set ++ new.buffered in
    let read = has_read-append runs.has_read refused.takes.refills refused.takes.taken in
    let whole : bits_of read.bytes ≡ runs.front ++ rest = read.bits ∙ append_assoc runs.front set new.buffered in
    let goes = goes_on s asked b written runs.given runs.decoded.len so.count at_block.wanted in
    let so_far = all_written s asked b written runs.given runs.decoded.len so.count goes in
    let ys = cut_to s asked 0 runs.given in
    let refuses : BeginsUnsound s b rest (length set) P = record { refused = refused.set; more = new.buffered; form = refused.form; unsound = refused.unsound; begins = refl; bits = refl } in
    let alone : BeginsUnsound s b set (length set) P = record { refused = refused.set; more = []; form = refused.form; unsound = refused.unsound; begins = sym (append-nil set); bits = refl } in
    let here = ends_here rest asked ending (length set) (at_set runs at_block.run) (begun_wanted runs) (by_rule asked rest (length set) goes refuses) in
    let used : length runs.front + length set ≡ rep.bits = sym (reported.reports.bits_are ∙ read.count ∙ length-append runs.front set) in
    let number : written / s.block ≡ b = ap (λ n. n / s.block) so_far.0 ∙ mul-div_cancel_left b j in
    let few = given_is_limited read reported.reports.ahead reported.reports.limit in
    let end : b + p.run ≡ b = omega (arith, at_block.run) in
    let has = subst (λ (n : ℕ). HasSets s runs.sets runs.front n) end runs.has_sets in
    let decodes = subst (λ (l : List Bool). Decoded s l asked ys ending (length runs.front + length set)) (sym whole) here in
    call_ends_so left ys ending fault record {
      gave = read.gave;
      took = so.put;
      ahead = omega (arith, few.0, reported.reports.bits_are);
      steps = counts_steps new.buffered read.bytes set (turns refused.set) has read.bits (by_turns set (turns refused.set) alone refl) (reported.reports.bits_are ∙ read.count)
          (omega (arith, refused.steps, runs.has_steps.count, reported.reports.bits_are, reported.reports.samples_are, reported.reports.steps_are));
    } reported.reports.left_is reported.reports.fault_is (λ _. few.1)
    (ends _ ys (length runs.front + length set, decodes, record { written = refl; samples = reported.reports.samples_are ∙ so.count; bits = sym used })
    (sym so.count ∙ so_far.0 ∙ ap (λ n. s.block * n) (sym number)))

-- the first of some elements, as many as the first of them are
take_same : (n : ℕ) (xs : List ℤ) → take (length (take n xs)) xs ≡ take n xs
take_same zero xs = refl
take_same (suc n) [] = refl
take_same (suc n) (x ∷ xs) = ap (λ l. x ∷ l) (take_same n xs)

-- the outlet failed in a block
pub write_ends : {I : Type 0} {s : Parameters} {asked : Option ℕ} {start : Reader I} {out_old out out_new : Option Room} {p : DecoderState} {r new : Reader I}
    {steps steps_new written : ℕ} {xs : List ℤ} {rep : Report} {f : Option Fault} {left : Option (List ℕ)} {failed : ℕ} (count : ℕ) (q : DecoderState) → IsLegal s
    → (runs : DecodingProgress s asked start out_old out p r steps written) → count ≡ wanted_of asked written s.block → wanted_of asked written s.block ≢ 0
    → Gains s r new steps steps_new runs.front runs.sets runs.blocks q.run runs.given xs → TakesPart out out_new (spellings s (take count xs))
    → Reports rep f left failed new written steps_new (Some Write) → DecodesBetween s asked start.left left out_old out_new rep f
write_ends {s = s} {asked = asked} {out_old = out_old} {out = out} {out_new = out_new} {r = r} {new = new} {written = written} {xs = xs} {rep = rep}
    {left = left} count q legal runs is some gives part tells =
    let b = runs.blocks in
    let so = runs.has_written in
    let goes = goes_on s asked b written runs.given runs.decoded.len so.count some in
    let so_far = all_written s asked b written runs.given runs.decoded.len so.count goes in
    let front = runs.front ++ gives.bits in
    let read = has_read-append runs.has_read gives.refills gives.taken in
    let taken : rep.bits ≡ length front = tells.bits_are ∙ read.count in
    let most : count ≤ s.block = omega (arith, is, most_wanted asked written s.block) in
    let piece : take count xs ≡ cut_to s asked b xs = ap (λ n. take n xs) is ∙ wanted_part s asked b written xs so_far.0 gives.len in
    let ys = cut_to s asked 0 (runs.given ++ xs) in
    let cut : ys ≡ cut_to s asked 0 runs.given ++ cut_to s asked b xs = cut_more s asked b runs.given xs runs.decoded.len in
    let size : length ys ≡ written + count = counted count (omega (arith, most, gives.len)) (ap length (sym piece)) cut in
    let wanted : (i : ℕ) → i < gives.begun → IsWanted s (Some (length ys)) i = λ i lt. below s.block i b (length ys) written count size so_far.0
    (λ none. some (sym is ∙ none)) (omega (arith, lt, gives.before)) in
    let bound : length ys ≤ s.block * (b + 1) = up_to s.block b (length ys) written count size so_far.0 most in
    let here = ends_reached new.buffered (length ys) legal gives.decoded wanted bound in
    let exact : cut_to s (Some (length ys)) 0 (runs.given ++ xs) ≡ ys = exactly asked in
    let used : length front + 0 ≡ rep.bits = omega (arith, taken) in
    let decoded : Decoded s (bits_of read.bytes) (Some (length ys)) ys Reached rep.bits = subst
    (λ (n : ℕ). Decoded s (bits_of read.bytes) (Some (length ys)) ys Reached n) used
    (subst (λ (l : List ℤ). Decoded s (bits_of read.bytes) (Some (length ys)) l Reached (length front + 0)) exact
    (subst (λ (l : List Bool). Decoded s l (Some (length ys)) (cut_to s (Some (length ys)) 0 (runs.given ++ xs)) Reached (length front + 0)) (sym read.bits) here)) in
    let all_of : spellings s ys ≡ spellings s (cut_to s asked 0 runs.given) ++ spellings s (take count xs) = ap (spellings s) cut
    ∙ spellings-append s (cut_to s asked 0 runs.given) (cut_to s asked b xs) ∙ ap (λ l. spellings s (cut_to s asked 0 runs.given) ++ spellings s l) (sym piece) in
    let before_part : Follows (afresh out_old) out (spellings s (cut_to s asked 0 runs.given)) = record { more = spellings s (cut_to s asked 0 runs.given); split = refl; took = so.put } in
    let between = part_follows (afresh out_old) out out_new (spellings s (cut_to s asked 0 runs.given)) (spellings s (take count xs)) (spellings s ys) before_part part all_of in
    let n : rep.samples ≡ length (cut_to s asked 0 runs.given) = tells.samples_are ∙ so.count in
    let before : take rep.samples ys ≡ cut_to s asked 0 runs.given = (λ i. take (n i) (cut i)) ∙ take-append_seam (cut_to s asked 0 runs.given) (cut_to s asked b xs) in
    let few = given_is_limited read tells.ahead tells.limit in
    call_ends_so left ys Reached (Some Write) record {
      gave = read.gave;
      took = Follows-all out_old out_new _ between.took;
      ahead = omega (arith, few.0, tells.bits_are);
      steps = whole_steps new.buffered read.bytes gives.has_sets read.bits taken (omega (arith, runs.has_steps.count, gives.counted, tells.steps_are, tells.bits_are, tells.samples_are));
    } tells.left_is tells.fault_is (λ _. few.1) (
      record {
        block = b;
        samples = tells.samples_are ∙ so_far.0;
        count = size ∙ (ap (λ n. written + n) is ∙ as_many asked written s.block some) ∙ ap (λ m. at_most asked (m + s.block)) (sym tells.samples_are);
        decoded = decoded;
        stops = subst (λ (l : List ℤ). StopsBetween (spellings s l) (spellings s ys) between.written) (sym before) between.stops;
      },
      refl,
    )
  where
    counted : (w : ℕ) → w ≤ length xs → length (cut_to s asked runs.blocks xs) ≡ length (take w xs)
        → cut_to s asked 0 (runs.given ++ xs) ≡ cut_to s asked 0 runs.given ++ cut_to s asked runs.blocks xs → length (cut_to s asked 0 (runs.given ++ xs)) ≡ written + w
    counted w le part cut = omega (arith, runs.has_written.count, ap length cut, length-append (cut_to s asked 0 runs.given) (cut_to s asked runs.blocks xs), part, length-take-le w xs le)

    below : (m i b n k w : ℕ) → n ≡ k + w → k ≡ m * b → w ≢ 0 → i < b + 1 → m * i < n
    below m i b n k w e h some lt = let le : m * i ≤ m * b = mul-le-mul_left m (omega arith) in omega arith

    up_to : (m b n k w : ℕ) → n ≡ k + w → k ≡ m * b → w ≤ m → n ≤ m * (b + 1)
    up_to m b n k w e h le = omega arith

    as_many : (asked : Option ℕ) (written block : ℕ) → wanted_of asked written block ≢ 0 → written + wanted_of asked written block ≡ at_most asked (written + block)
    as_many None written block some = refl
    as_many (Some n) written block some = omega arith

    exactly : (asked : Option ℕ) → cut_to s (Some (length (cut_to s asked 0 (runs.given ++ xs)))) 0 (runs.given ++ xs) ≡ cut_to s asked 0 (runs.given ++ xs)
    exactly None = let n : length (runs.given ++ xs) - s.block * 0 ≡ length (runs.given ++ xs) = omega arith in ap (λ m. take m (runs.given ++ xs)) n ∙ take-length (runs.given ++ xs)
    exactly (Some m) = let zs = runs.given ++ xs in
        let n : length (take (m - s.block * 0) zs) - s.block * 0 ≡ length (take (m - s.block * 0) zs) = omega arith in ap (λ m. take m zs) n ∙ take_same (m - s.block * 0) zs

-- the decoder refuses
pub refusal_ends : {I : Type 0} {s : Parameters} {asked : Option ℕ} {start : Reader I} {out_old out : Option Room} {p : DecoderState} {r new : Reader I}
    {steps steps_new written : ℕ} {rep : Report} {f : Option Fault} {left : Option (List ℕ)} {failed : ℕ} (fault : CodeFault) → IsLegal s
    → (runs : DecodingProgress s asked start out_old out p r steps written) → wanted_of asked written s.block ≢ 0 → (p.run ≡ 0) × StopsBy (with_mark r) new steps steps_new s runs.blocks (Err fault)
    → AreCounted steps steps_new r.taken new.taken → Reports rep f left failed new written steps_new (Some (refusal_fault fault written s.block))
    → DecodesBetween s asked start.left left out_old out rep f
refusal_ends faults.CodeEnds legal runs some stops counted tells = ended_ends false runs some stops.0 stops.1 counted tells
refusal_ends {s = s} faults.RunPastSegment legal runs some stops counted tells =
    refused_ends Past (λ e. cc) (record { legal = legal; wanted = some; run = stops.0 }) runs stops.1 (λ asked rest used goes h. (goes, h)) (λ last count h e. (h, e))
    (record { counted = counted; reports = tells }) (λ c ys d n. (d, refl, n))
refusal_ends {s = s} faults.ResidualTooLarge legal runs some stops counted tells =
    refused_ends Large (λ e. cc) (record { legal = legal; wanted = some; run = stops.0 }) runs stops.1 (λ asked rest used goes h. (goes, h)) (λ last count h e. (h, e))
    (record { counted = counted; reports = tells }) (λ c ys d n. (d, refl, n))
refusal_ends faults.Read legal runs some stops counted tells = read_ends runs some stops.0 stops.1 counted tells
refusal_ends faults.TooLong legal runs some stops counted tells = long_ends runs some stops.0 stops.1 counted tells

-- nothing is decoded yet
pub progress_at_start : {I : Type 0} {s : Parameters} {intake : I} {left : Option (List ℕ)} {failed : ℕ} {p : DecoderState} {r : Reader I} {steps : ℕ}
    (asked : Option ℕ) (out : Option Room) → IsLegal s
    → p ≡ record { setting = s; block = 0; before = pos 0; run = 0; stopped = None } → r ≡ new_reader intake left failed → steps ≡ 0
    → DecodingProgress s asked (new_reader intake left failed) out out p r steps 0
progress_at_start {I = I} {s = s} {intake = intake} {left = left} {failed = failed} {p = p} {steps = steps} asked out legal ep er es =
    let run = ap (λ p. p.run) ep in
    let start = new_reader intake left failed in
    subst (λ (r : Reader I). DecodingProgress s asked start out out p r steps 0) (sym er) record {
      blocks = 0;
      front = [];
      given = [];
      sets = [];
      begun = 0;
      at_block = record {
        setting = ap (λ p. p.setting) ep;
        here = mod-eq_of_lt legal.interval_from ∙ sym (ap (λ p. p.block) ep);
        previous = ap (λ p. p.before) ep;
        going = ap (λ p. p.stopped) ep;
      };
      going = refl;
      reads = refl;
      idle = λ none. refl;
      limit = omega arith;
      has_read = record { bytes = []; gave = Consumes-nil left; bits = bits_of-nil; count = refl };
      has_sets = subst (λ (n : ℕ). HasSets s [] [] (0 + n)) (sym run) (sets-none s);
      before = omega arith;
      decoded = subst (λ (n : ℕ). DecodedSoFar s [] 0 0 n []) (sym run) (decoded_nothing s);
      has_written = record {
        wanted = λ i lt. absurd (omega arith);
        count = sym (ap length (cut_nothing s asked 0));
        asked_for = from_none asked;
        put = subst (λ (l : List ℤ). Appends out out (spellings s l)) (sym (cut_nothing s asked 0)) (Appends-nil out);
      };
      has_steps = record { count = omega (arith, es); most = omega (arith, es); by_bits = omega (arith, ap (λ n. n * s.block) run) };
    }
  where
    from_none : (asked : Option ℕ) → IfSome asked (λ n. 0 ≤ n)
    from_none None = tt
    from_none (Some n) = omega arith

-- the bounds of what is reported, after samples of a run too
pub reports_within : {I : Type 0} {asked : Option ℕ} {new : Reader I} {steps steps_new taken written in_run turns all last : ℕ} {rep : Report}
    {f fault : Option Fault} {left : Option (List ℕ)} {failed : ℕ} (more : ℕ) → more ≤ in_run → HasSteps steps taken written in_run turns
    → AreCounted steps steps_new taken new.taken → IfSome asked (λ n. all ≤ n) → all ≡ written + more → last ≡ steps_new + more → Reports rep f left failed new all last fault → DecodesWithin asked rep
reports_within {asked = asked} more few has counted asked_for all_is last_is tells =
    let samples = tells.samples_are in
    let bits = tells.bits_are in
    let steps = tells.steps_are in
    record {
      asked_for = subst (λ (n : ℕ). IfSome asked (λ m. n ≤ m)) (sym samples) asked_for;
      by_bits = omega (arith, few, has.by_bits, counted.forward, samples, bits, all_is);
      at_least = omega (arith, has.count, counted.least, samples, bits, steps, all_is, last_is);
      at_most = omega (arith, has.most, counted.most, samples, bits, steps, all_is, last_is);
    }

-- and after whole blocks
pub ends_within : {I : Type 0} {s : Parameters} {asked : Option ℕ} {start : Reader I} {out_old out : Option Room} {p : DecoderState} {r new : Reader I} {steps steps_new written : ℕ}
    {rep : Report} {f fault : Option Fault} {left : Option (List ℕ)} {failed : ℕ} → DecodingProgress s asked start out_old out p r steps written
    → AreCounted steps steps_new r.taken new.taken → Reports rep f left failed new written steps_new fault → DecodesWithin asked rep
ends_within runs counted tells = reports_within 0 (omega arith) runs.has_steps counted runs.has_written.asked_for (omega arith) (omega arith) tells

-- where nothing more was read
pub nothing_read : {I : Type 0} {s : Parameters} {asked : Option ℕ} {start : Reader I} {out_old out : Option Room} {p : DecoderState} {r : Reader I} {steps written : ℕ}
    → DecodingProgress s asked start out_old out p r steps written → AreCounted steps steps r.taken r.taken
nothing_read runs = record { forward = omega arith; limit = runs.limit; least = omega arith; most = omega arith }
