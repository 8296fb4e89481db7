-- What a decoder gives.
use Rattle.std.proofs.Common.{◌≡◌, ℕ, zero, suc, ◌+◌, ◌-◌, ◌*◌, ◌/◌, ◌^◌, ◌<◌, ◌≤◌, ◌==◌, Bool, true, false, List, []}
use Rattle.std.proofs.Common.{◌∷◌, ◌++◌, length, replicate, refl, sym, ◌∙◌, ap, subst, arith, Option, None, ℤ, inl, inr, length-append}
use Rattle.rice_code.proofs.Words.{◌≢◌, All, nat_lt, if◌then◌else◌, ◌&&◌, Some, Result, Ok, Err, cases_lt, nat_tests, mod-eq_of_lt, mul-le-mul_left, length-replicate, All-replicate, length-word}
use Rattle.rice_code.proofs.Words.{length-fundamental_sequence, Reader, Takes, is_blank, Parameters, IsSample, IsLegal, id_len, blocks_left, begins_segment, is_reference, place, some_left}
use Rattle.rice_code.proofs.Words.{one_less_left, last_of_segment, reference_begins, next_place, BitFault, last_of, word, fundamental_sequence, BlockData, block_data, zero_block, CodedDataSet}
use Rattle.rice_code.proofs.Words.{NoCompression, SecondExtension, Split, ZeroBlocks, RemainderOfSegment, bits_of_set, turns, run_number, run_tail, run_with_zeros, no_compression_tail, BlockSummary}
use Rattle.rice_code.proofs.Words.{second_extension_tail, split_tail, reference_bits, IsForm, IsReference, RunIsSound, ResidualsAreSound, blocks_in, zero_blocks, SetRead, SetCut, Residuals, Zeros}
use Rattle.rice_code.proofs.Words.{block_after, padding, block_with, Answers, RepeatsBlocks, Skips, TakesSet, GivesSet, GivesFromRun, SetEnds, StopsBy, answer_to, with_mark, DecoderState}
use Rattle.rice_code.proofs.Words.{IsDecoderState, place_after, Step, Block, Done, CodeFault, common_steps}
use Rattle.rice_code.proofs.lemmas.{code.RepeatedSamples.last_replicate, code.RepeatedSamples.repeated_block, code.FormsReadInOneWay.long_id}
use Rattle.rice_bits.specs.declared.read.fault.BitFault.TheVariants as bit_faults

-- a run says no residuals
run_residuals : (s : Parameters) (reference : Option ℕ) (zeros : ℕ) → ResidualsAreSound s (run_with_zeros reference zeros)
run_residuals s reference zeros = by_four (zeros == 4)
  where
    by_four : (c : Bool) → ResidualsAreSound s (if c then RemainderOfSegment reference else ZeroBlocks reference (if nat_lt zeros 4 then zeros + 1 else zeros))
    by_four true = tt
    by_four false = tt

-- a sound run was taken, and the samples of its first block are given
pub run_given : {I : Type 0} {old new : Reader I} {first last : ℕ} {s : Parameters} {b : ℕ} {p : ℤ} (r : Option ℕ) (zeros z : ℕ) {samples : List ℤ} {items : List ℕ}
    → SetRead [] old new first last s b (Zeros r zeros) items → RunIsSound s b (run_with_zeros r zeros) → blocks_in s b (run_with_zeros r zeros) ≡ zero_blocks s r z
    → length samples ≡ s.block → All (IsSample s) samples → block_data s b p samples ≡ zero_block s r → TakesSet old new first last s b p samples (z - 1)
run_given {old} {new} {first} {last} {s} {b} r zeros z read run blocks len legal says = record {
  set = run_with_zeros r zeros;
  form = subst (λ x. IsForm s b x) read.tells read.form;
  run_sound = run;
  residuals_sound = run_residuals s r zeros;
  takes = subst (λ x. Takes old new (bits_of_set s x)) read.tells (subst (Takes old new) (sym read.begins) read.takes);
  gives = grind (arith, common_steps, zero_block);
  steps = subst (λ x. last + old.taken ≡ first + new.taken + turns x) read.tells read.steps;
}

-- a sound block was taken, and its samples are given
pub block_given : {I : Type 0} {old new : Reader I} {first last : ℕ} {s : Parameters} {b : ℕ} (p : ℤ) (head : BlockSummary) (samples : List ℤ) {items : List ℕ}
    → SetRead [] old new first last s b (Residuals head) items → head.sound ≡ true
    → length samples ≡ s.block → All (IsSample s) samples → block_data s b p samples ≡ block_with head.reference items
    → TakesSet old new first last s b p samples 0
block_given {old} {new} p head samples {items} read sound len legal says = let taken = subst (Takes old new) (sym read.begins) read.takes in grind (arith, common_steps)

-- no block of a run but its first has a reference
pub no_reference : (s : Parameters) (b : ℕ) → begins_segment s b ≡ false → IsReference s b None
no_reference s b e = grind (arith, common_steps, reference_begins)

-- the place of the next block is inside the interval too
pub next_within : (s : Parameters) (b : ℕ) → b < s.interval → place_after s b 1 < s.interval
next_within s b h = grind (arith, nat_tests)

not_first : (q : ℕ) → q ≡ 0 → (q == 64 * (q / 64)) ≡ false → ⊥
not_first q e f = absurd (grind (arith, nat_tests))

-- the run goes on inside its segment
pub run_goes_on : (s : Parameters) (b run : ℕ) → IsLegal s → b < s.interval → 0 < run → run + 1 ≤ blocks_left s b
    → (begins_segment s (place_after s b 1) ≡ false) × (run ≤ blocks_left s (place_after s b 1))
run_goes_on s b run legal h pos le = by_begin (begins_segment s (b + 1)) refl
  where
    by_begin : (t : Bool) → begins_segment s (b + 1) ≡ t → (begins_segment s (place_after s b 1) ≡ false) × (run ≤ blocks_left s (place_after s b 1))
    by_begin true e = let one = last_of_segment s b legal.interval_from e in absurd (omega arith)
    by_begin false e =
        let less = one_less_left s b legal.interval_from e in
        let at : place s b ≡ b = mod-eq_of_lt h in
        let inside : b + 1 < s.interval = grind (arith, common_steps, next_place, not_first) in
        let same : place_after s b 1 ≡ b + 1 = grind (arith, nat_tests) in
        (ap (λ n. begins_segment s n) same ∙ e, rw same (omega arith))

-- After a block a decoder's state is sound again, if its last sample is legal, the segment has room for the run that is left, and no block stopped it.
pub place_moves : {s : Parameters} {b next : ℕ} (run : ℕ) (last : ℤ) (stopped : Option (Result Step CodeFault)) → IsLegal s → b < s.interval
    → next ≡ place_after s b 1 → IsSample s last → (0 < run → run + 1 ≤ blocks_left s b) → stopped ≢ Some (Ok Block) → IsDecoderState s next last run stopped
place_moves {s} {b} run last stopped legal h e sample more no_block = record {
  legal = legal;
  within = subst (λ n. n < s.interval) (sym e) (next_within s b h);
  sample = sample;
  run_begun = λ pos. ap (λ n. begins_segment s n) e ∙ (run_goes_on s b run legal h pos (more pos)).0;
  run_fits = λ pos. subst (λ n. run ≤ blocks_left s n) (sym e) (run_goes_on s b run legal h pos (more pos)).1;
  no_block = no_block;
}

-- the samples of a block of zeros
pub record ZeroBlock (s : Parameters) (b : ℕ) (p : ℤ) (samples : List ℤ) : Type 0 where
  pub len : length samples ≡ s.block
  pub legal : All (IsSample s) samples
  pub block_is : block_data s b p samples ≡ zero_block s None

-- a block of zeros is given from a run: the place moves on, and one block fewer is to come
pub goes_on : (s : Parameters) (b : ℕ) {next run : ℕ} (p : ℤ) {last : ℤ} (stopped : Option (Result Step CodeFault)) {samples : List ℤ} → 0 < run → next ≡ place_after s b 1
    → last ≡ last_of p samples → ZeroBlock s b p samples
    → GivesFromRun (record { setting = s; block = b; before = p; run = run; stopped = stopped }) (record { setting = s; block = next; before = last; run = run - 1; stopped = stopped }) samples
goes_on s b {run} p stopped pos e f zeros = grind (arith, common_steps, zero_block)

-- a block of a run repeats the sample before it
pub repeats_on : {s : Parameters} {b : ℕ} (next : ℕ) {run : ℕ} {p : ℤ} {stopped : Option (Result Step CodeFault)} → IsDecoderState s b p run stopped → 0 < run
    → s.preprocess ≡ true → next ≡ place_after s b 1 → GivesFromRun (record { setting = s; block = b; before = p; run = run; stopped = stopped })
    (record { setting = s; block = next; before = p; run = run - 1; stopped = stopped }) (replicate s.block p)
repeats_on {s} {b} next {run} {p} {stopped} state pos ways e = grind (arith, common_steps, goes_on, last_replicate, length-replicate, All-replicate, repeated_block, no_reference)

-- a run goes no further than its interval
pub inside_interval : (s : Parameters) (b count run : ℕ) (p : ℤ) (stopped : Option (Result Step CodeFault)) → IsDecoderState s b p run stopped → count ≤ run → b + count ≤ s.interval
inside_interval s b zero run p stopped state few = omega (arith, state.within)
inside_interval s b (suc n) run p stopped state few = grind (arith, common_steps, mod-eq_of_lt)

place_on : (s : Parameters) (b n : ℕ) → b < s.interval → b + suc n ≤ s.interval → place_after s b (suc n) ≡ place_after s (place_after s b 1) n
place_on s b n h k = grind (arith, common_steps, cases_lt, nat_tests)

-- a decoder after some blocks of a run
pub record PassedBlocks (count : ℕ) (s : Parameters) (b next run : ℕ) (p : ℤ) (stopped : Option (Result Step CodeFault)) : Type 0 where
  pub state : IsDecoderState s next p (run - count) stopped
  pub passes : RepeatsBlocks count (record { setting = s; block = b; before = p; run = run; stopped = stopped })
      (record { setting = s; block = next; before = p; run = run - count; stopped = stopped })

-- blocks of a run repeat the sample before them
pub passes_blocks : (count : ℕ) {s : Parameters} {b next run : ℕ} {p : ℤ} {stopped : Option (Result Step CodeFault)} → IsDecoderState s b p run stopped
    → count ≤ run → s.preprocess ≡ true → next ≡ place_after s b count → PassedBlocks count s b next run p stopped
passes_blocks zero {s} {b} {next} {run} {p} {stopped} state few ways e = grind (arith, common_steps, nat_tests)
passes_blocks (suc n) {s} {b} {next} {run} {p} {stopped} state few ways e =
    let some : 0 < run = omega (arith, few) in
    let middle = place_after s b 1 in
    let there = place_moves (run - 1) p stopped state.legal state.within refl state.sample (λ h. omega (arith, state.run_fits some)) state.no_block in
    let first = repeats_on middle state some ways refl in
    let on : next ≡ place_after s middle n = e ∙ place_on s b n state.within (inside_interval s b (suc n) run p stopped state few) in
    let rest = passes_blocks n there (omega (arith, few)) ways on in
    grind (arith, common_steps)

block_limit : (s : Parameters) → IsLegal s → s.block ≤ 64
block_limit s legal = grind (arith, legal.block)

-- samples are bounded by bits where blocks are
few_samples : (blocks size bits : ℕ) → size ≤ 64 → 64 * blocks ≤ 456 * bits → blocks * size ≤ 456 * bits
few_samples blocks size bits h k = let m : blocks * size ≤ blocks * 64 = mul-le-mul_left blocks h in omega arith

length-identified : (s : Parameters) (id : ℕ) (rest : List Bool) → length (word (id_len s) id ++ rest) ≡ id_len s + length rest
length-identified s id rest = length-append (word (id_len s) id) rest ∙ ap (λ n. n + length rest) (length-word (id_len s) id)

run_bits : (s : Parameters) (r : Option ℕ) (zero_block : ℕ) → 5 + zero_block ≤ length (word (id_len s) 0 ++ false ∷ run_tail s r zero_block)
run_bits s r m = omega (arith, long_id s, length-identified s 0 (false ∷ run_tail s r m), length-append (reference_bits s r) (fundamental_sequence m), length-fundamental_sequence m)

few_blocks : (s : Parameters) (b : ℕ) (d : CodedDataSet) → IsLegal s → IsForm s b d → RunIsSound s b d → 64 * length (blocks_in s b d) ≤ 456 * length (bits_of_set s d)
few_blocks s b (NoCompression c) legal form run = omega (arith, long_id s, length-identified s (2 ^ id_len s - 1) (no_compression_tail s c))
few_blocks s b (SecondExtension c) legal form run = omega (arith, long_id s, length-identified s 0 (true ∷ second_extension_tail s c))
few_blocks s b (Split k c) legal form run = omega (arith, long_id s, length-identified s (k + 1) (split_tail s k c))
few_blocks s b (ZeroBlocks r z) legal form run = grind (arith, common_steps, zero_block, length-replicate, nat_tests, run_bits)
few_blocks s b (RemainderOfSegment r) legal form run =
    let n : length (replicate (blocks_left s b - 1) (zero_block s None)) ≡ blocks_left s b - 1 = length-replicate (blocks_left s b - 1) (zero_block s None) in
    let left = some_left s b legal.interval_from in
    omega (arith, run_bits s r 4, n, left.0, left.1)

-- the samples that are given and pending are bounded by the bits
pub samples_by_bits : {I : Type 0} {old new : Reader I} {first last : ℕ} {s : Parameters} {b : ℕ} {p : ℤ} {samples : List ℤ} {run : ℕ}
    → IsLegal s → TakesSet old new first last s b p samples run → length samples + run * s.block ≤ 456 * (new.taken - old.taken)
samples_by_bits {old} {new} {s} {b} {run} legal given =
    let n : suc (length (replicate run (zero_block s None))) ≡ length (blocks_in s b given.set) = ap length given.gives.blocks_are in
    grind (arith, common_steps, zero_block, length-replicate, common_steps, few_samples, block_limit, few_blocks)

cut_at_end : {I : Type 0} (old new : Reader I) (first last : ℕ) (s : Parameters) (b : ℕ) (blank : Bool) → old.blank ≡ true
    → SetCut [] old new first last s b (bit_faults.End blank) → SetEnds old new first last s b blank
cut_at_end old new first last s b blank h cut = record {
  cut = cut;
  reported = ap (λ t. t && is_blank cut.bits) (sym h) ∙ (sym cut.stops.blank ∙ sym cut.stops.refuses.3);
}

-- where the reader refuses, the decoder stops so
pub stops_by : {I : Type 0} (old new : Reader I) (first last : ℕ) (s : Parameters) (b : ℕ) (fault : BitFault) → old.blank ≡ true
    → SetCut [] old new first last s b fault → StopsBy old new first last s b (answer_to fault)
stops_by old new first last s b (bit_faults.End true) h cut = cut_at_end old new first last s b true h cut
stops_by old new first last s b (bit_faults.End false) h cut = cut_at_end old new first last s b false h cut
stops_by old new first last s b bit_faults.Read h cut = cut
stops_by old new first last s b bit_faults.TooLong h cut = cut

-- a coded data set was taken, and its padding skipped
set_given : {I : Type 0} {old middle new : Reader I} {first steps : ℕ} (last : ℕ) {s : Parameters} {b : ℕ} {p : ℤ} {samples : List ℤ} {run : ℕ}
    → TakesSet old middle first steps s b p samples run → Skips middle new (padding s (b + 1 + run) middle.taken) → last + middle.taken ≡ steps + new.taken
    → GivesSet old new first last s b p samples run
set_given {middle} {new} {steps} last {s} {b} {run} set skips counted =
    let n : suc (length (replicate run (zero_block s None))) ≡ length (blocks_in s b set.set) = ap length set.gives.blocks_are in
    let m : length (replicate run (zero_block s None)) ≡ run = length-replicate run (zero_block s None) in
    let after : b + 1 + run ≡ block_after s b set.set = omega arith in
    record {
      middle = middle;
      middle_steps = steps;
      set = set;
      skips = subst (λ next. Skips middle new (padding s next middle.taken)) after skips;
      steps = counted;
    }

-- a decoder that took a coded data set and skipped its padding goes on after its first block
pub answers_block : {I : Type 0} (start : Reader I) {middle new : Reader I} {first steps : ℕ} (last : ℕ) (p : DecoderState) {q : DecoderState} {samples : List ℤ} {run : ℕ} {before : ℤ}
    → TakesSet (with_mark start) middle first steps p.setting p.block p.before samples run
    → Skips middle new (padding p.setting (p.block + 1 + run) middle.taken) → last + middle.taken ≡ steps + new.taken
    → before ≡ last_of p.before samples → q ≡ record p { block = place_after p.setting p.block 1; before = before; run = run }
    → Answers (with_mark start) new first last p q samples (Ok Block)
answers_block start {middle} {new} {first} {steps} last p {q} {samples} {run} {before} set skips counted sample moves =
    let buffered : q.run ≡ run = ap (λ x. x.run) moves in
    let given = set_given last set skips counted in (
      subst (λ n. GivesSet (with_mark start) new first last p.setting p.block p.before samples n) (sym buffered) given,
      moves ∙ (λ i. record { setting = p.setting; block = place_after p.setting p.block 1; before = sample i; run = sym buffered i; stopped = p.stopped }),
    )

-- a decoder that stops answers so
pub answers_stop : {I : Type 0} (old new : Reader I) (first last : ℕ) (p : DecoderState) {q : DecoderState} {samples : List ℤ} (a : Result Step CodeFault)
    → StopsBy old new first last p.setting p.block a → q ≡ record p { stopped = Some a } → samples ≡ [] → Answers old new first last p q samples a
answers_stop old new first last p (Ok Block) stops moves none = absurd stops
answers_stop old new first last p (Ok Done) stops moves none = (stops, moves, none)
answers_stop old new first last p (Err f) stops moves none = (stops, moves, none)
