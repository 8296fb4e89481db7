-- Blocks that are written by passes, one after another.
use Rattle.std.proofs.Common.{◌≡◌, ◌≢◌, ℕ, zero, suc, ◌+◌, ◌-◌, ◌*◌, ◌%◌, ◌<◌, ◌≤◌, ◌∙◌, Bool, List, [], ◌++◌, length, drop, take, ap, subst, sym, append-nil, arith}
use Rattle.std.proofs.Common.{drop_of_length-le, drop-drop, length-append, length-drop, length-take, take_all, Option, Some, None, ℤ, refl}
use Rattle.rice_stream.proofs.Words.{IfSome, Ok, Appends, Appends-nil, Appends-trans, Room, Reader, Parameters, IsLegal, width, spellings, length-spellings, spellings-append}
use Rattle.rice_stream.proofs.Words.{DecoderState, IsDecoderState, Block, Advances, AnswersBytes, DecodesBetween, DecodesWithin, Reports, wanted_of, DecodingProgress, Report, Fault, Write}
use Rattle.rice_stream.proofs.Words.{mul-le-mul_left, nil_from_length}
use Rattle.rice_bits.specs.OutletRoom.{Fills}
use Rattle.rice_stream.proofs.Words.{Origin, IsStand, GivesMore, IsReadFrom, stand_at, state_of, Stand}
use Rattle.rice_code.specs.ReadSets.{AreCounted}
use Rattle.rice_fast.specs.BlocksAhead.{GivesBytes}
use Rattle.rice_stream.specs.DecodingState.{AtWork, FailsInBlocks, IsReady, WritesBlock, WritesBlocks, WritesEach, at_work}
use Rattle.rice_stream.proofs.lemmas.PulledPieceSoFar.{PulledSoFar, more_so_far}
use Rattle.rice_stream.specs.Pulling.{HasComeTo, WritesBlocksAt, ahead}
use Rattle.rice_stream.proofs.lemmas.{BytesOfBlocks.block_fails, BytesOfBlocks.block_shrinks, BytesOfBlocks.block_written, DecodingEnds.ends_within}
use Rattle.rice_stream.proofs.lemmas.DecodingLemmas.{gains_block, moves_of, samples_of_block}
use Rattle.rice_stream.proofs.lemmas.{PulledRuns.gives_one, PulledRuns.nothing_more, PulledRuns.one_and_more, PullingLemmas.Steps, RunsWritten.all_wanted}

-- a block that a pass gives is an answer outside a run
pub answers_given : {I : Type 0} {old new : Reader I} {steps steps_new : ℕ} {p q : DecoderState} {bytes : List ℕ} → p.run ≡ 0 → GivesBytes old new steps steps_new p q bytes → q.setting ≡ p.setting
    → AreCounted steps steps_new old.taken new.taken → AnswersBytes old new steps steps_new p q bytes (Ok Block)
answers_given none gives setting counted = record {
  samples = gives.samples;
  advances = record { in_run = λ _ lt. absurd (omega (arith, none, lt)); reads = λ _ _. gives.answers };
  spelled = λ _. gives.spelled;
  setting = setting;
  counted = counted;
  by_bits = omega (arith, gives.by_bits);
}

-- after it the decoder can go on
pub still_ready : {I : Type 0} {s : Parameters} {old new : Reader I} {steps steps_new steps_next : ℕ} {p q : DecoderState} {bytes : List ℕ} → IsReady s old steps p
    → AnswersBytes old new steps steps_new p q bytes (Ok Block) → p.run ≡ 0 → q.stopped ≡ None → new.refusal ≡ None → steps_next ≡ steps_new + s.block → IsReady s new steps_next q
still_ready {s = s} {p = p} ready answers none stopped going ticked =
    let len = (samples_of_block s ready.setting ready.stopped answers.advances).len in
    let nothing : p.run * p.setting.block ≡ 0 * p.setting.block = ap (λ n. n * p.setting.block) none in
    record {
      setting = answers.setting ∙ ready.setting;
      stopped = stopped;
      going = going;
      limit = answers.counted.limit;
      room = omega (arith, ready.room, len, answers.by_bits, nothing, answers.counted.most, answers.counted.forward, answers.counted.limit, ticked);
    }

-- one block more
pub one_more : {I : Type 0} {s : Parameters} {most written next : ℕ} {a b c : AtWork I} → WritesBlocks s most a b written → written + s.block ≤ most → WritesBlock s b c → next ≡ written + s.block
    → WritesBlocks s most a c next
one_more {s = s} {b = b} w few block is = record { blocks = suc w.blocks; count_is = omega (arith, w.count_is, is); within = omega (arith, few, is); each = (b, w.each, block) }

-- fewer are asked for too
if_fewer : (asked : Option ℕ) {m n : ℕ} → m ≤ n → IfSome asked (λ k. n ≤ k) → IfSome asked (λ k. m ≤ k)
if_fewer None few h = tt
if_fewer (Some k) {m} {n} few h = let le : n ≤ k = h in omega (arith, le, few)

-- One of them goes on with what was decoded so far.
one_written : {I : Type 0} {s : Parameters} {asked : Option ℕ} {start : Reader I} {out_old : Option Room} {a b : AtWork I} {written : ℕ} → IsLegal s
    → DecodingProgress s asked start out_old a.taken a.decoder a.reader a.steps written → WritesBlock s a b → IfSome asked (λ k. written + s.block ≤ k)
    → DecodingProgress s asked start out_old b.taken b.decoder b.reader b.steps (written + s.block)
one_written {s = s} {asked = asked} {written = written} legal runs w wanted =
    let all : wanted_of asked written s.block ≡ s.block = all_wanted asked written s.block 0 (if_fewer asked (omega arith) wanted) in
    let some : 2 ≤ s.block = grind (arith, legal.block) in
    block_written legal runs w.answers s.block (sym all) (λ none. omega (arith, none, some)) refl w.put w.ticked

-- So do several.
pub each_written : {I : Type 0} (n : ℕ) {s : Parameters} {asked : Option ℕ} {start : Reader I} {out_old : Option Room} {a b : AtWork I} {written : ℕ} → IsLegal s
    → DecodingProgress s asked start out_old a.taken a.decoder a.reader a.steps written → WritesEach n s a b → IfSome asked (λ k. written + s.block * n ≤ k)
    → DecodingProgress s asked start out_old b.taken b.decoder b.reader b.steps (written + s.block * n)
each_written zero {s} {asked} {start} {out_old} {a} {b} {written} legal runs same wanted =
    let e : written ≡ written + s.block * 0 = omega arith in
    subst (λ (c : AtWork _). DecodingProgress s asked start out_old c.taken c.decoder c.reader c.steps (written + s.block * 0)) (sym same)
    (subst (λ (n : ℕ). DecodingProgress s asked start out_old a.taken a.decoder a.reader a.steps n) e runs)
each_written (suc n) {s} {asked} {start} {out_old} {a} {b} {written} legal runs (m, before, last) wanted =
    let e : written + s.block * n + s.block ≡ written + s.block * suc n = omega arith in
    let there = each_written n {b = m} legal runs before (if_fewer asked (omega arith) wanted) in
    subst (λ (n : ℕ). DecodingProgress s asked start out_old b.taken b.decoder b.reader b.steps n) e (one_written legal there last (if_fewer asked (omega (arith, e)) wanted))

-- With each, fewer samples of a run and bits are to come.
each_shrinks : {I : Type 0} (n : ℕ) {s : Parameters} {asked : Option ℕ} {start : Reader I} {out_old : Option Room} {a : AtWork I} (b : AtWork I) {written : ℕ} → IsLegal s
    → DecodingProgress s asked start out_old a.taken a.decoder a.reader a.steps written → WritesEach n s a b → IfSome asked (λ k. written + s.block * n ≤ k)
    → 456 * (4503599627370496 - b.reader.taken) + b.decoder.run * b.decoder.setting.block + n ≤ 456 * (4503599627370496 - a.reader.taken) + a.decoder.run * a.decoder.setting.block
each_shrinks zero {a = a} b legal runs same wanted = subst
    (λ (c : AtWork _). 456 * (4503599627370496 - c.reader.taken) + c.decoder.run * c.decoder.setting.block + 0 ≤ 456 * (4503599627370496 - a.reader.taken) + a.decoder.run * a.decoder.setting.block)
    (sym same) (omega arith)
each_shrinks (suc n) {s} {asked} b {written} legal runs (m, before, last) wanted =
    let few = if_fewer asked (let e : s.block * suc n ≡ s.block * n + s.block = omega arith in omega (arith, e)) wanted in
    omega (arith, each_shrinks n m legal runs before few, block_shrinks legal (each_written n {b = m} legal runs before few) last.answers)

-- more samples than these are asked for
asked_for_more : {I : Type 0} {s : Parameters} (asked : Option ℕ) {start : Reader I} {out_old out : Option Room} {p : DecoderState} {r : Reader I} {steps written most count : ℕ}
    → DecodingProgress s asked start out_old out p r steps written → IfSome asked (λ n. most ≡ n - written) → count ≤ most → IfSome asked (λ n. written + count ≤ n)
asked_for_more None runs is few = tt
asked_for_more (Some n) {written = written} {most} runs is few = let e : most ≡ n - written = is in let le : written ≤ n = runs.has_written.asked_for in omega (arith, e, le, few)

-- Blocks that were passed.
module _ {I : Type 0} {s : Parameters} {asked : Option ℕ} {start : Reader I} {out_old : Option Room} {a b : AtWork I} {written most count : ℕ} (legal : IsLegal s)
    (runs : DecodingProgress s asked start out_old a.taken a.decoder a.reader a.steps written) (is : IfSome asked (λ n. most ≡ n - written)) (w : WritesBlocks s most a b count) where
  wanted : IfSome asked (λ n. written + s.block * w.blocks ≤ n)
  wanted = if_fewer asked (omega (arith, w.count_is)) (asked_for_more asked runs is w.within)

  -- They go on with what was decoded so far,
  pub blocks_passed : DecodingProgress s asked start out_old b.taken b.decoder b.reader b.steps (written + count)
  blocks_passed = subst (λ (n : ℕ). DecodingProgress s asked start out_old b.taken b.decoder b.reader b.steps (written + n)) (sym w.count_is) (each_written w.blocks {b = b} legal runs w.each wanted)

  -- and less is to come after them.
  pub blocks_shrink : 456 * (4503599627370496 - b.reader.taken) + b.decoder.run * b.decoder.setting.block + w.blocks
      ≤ 456 * (4503599627370496 - a.reader.taken) + a.decoder.run * a.decoder.setting.block
  blocks_shrink = each_shrinks w.blocks b legal runs w.each wanted

-- blocks were passed where fewer samples are wanted after them
pub some_passed : (asked : Option ℕ) (written samples size n : ℕ) → samples ≡ size * n → wanted_of asked written size ≢ 0 → wanted_of asked (written + samples) size ≡ 0 → 1 ≤ n
some_passed asked written samples size zero e some none = absurd (some (ap (λ k. wanted_of asked k size) (let f : written ≡ written + samples = omega (arith, e) in f) ∙ none))
some_passed asked written samples size (suc n) e some none = omega arith

-- The outlet fails in the block after some.
module _ {I : Type 0} {s : Parameters} {asked : Option ℕ} {start : Reader I} {out_old : Option Room} {a b : AtWork I} {written most count all : ℕ} (legal : IsLegal s)
    (runs : DecodingProgress s asked start out_old a.taken a.decoder a.reader a.steps written) (is : IfSome asked (λ n. most ≡ n - written)) (w : FailsInBlocks s most a b count)
    (all_is : all ≡ written + count) {rep : Report} {f : Option Fault} {left : Option (List ℕ)} {failed : ℕ} (tells : Reports rep f left failed b.reader all b.steps (Some Write)) where
  there : DecodingProgress s asked start out_old w.middle.taken w.middle.decoder w.middle.reader w.middle.steps all
  there = subst (λ (n : ℕ). DecodingProgress s asked start out_old w.middle.taken w.middle.decoder w.middle.reader w.middle.steps n) (sym all_is) (blocks_passed legal runs is w.before)

  -- So decoding ends,
  pub passed_fails : DecodesBetween s asked start.left left out_old b.taken rep f
  passed_fails =
      let more : IfSome asked (λ k. all + s.block * suc 0 ≤ k) = if_fewer asked (omega (arith, all_is)) (asked_for_more asked runs is w.wanted) in
      let some : 2 ≤ s.block = grind (arith, legal.block) in
      block_fails legal there w.answers s.block (sym (all_wanted asked all s.block 0 more)) (λ none. omega (arith, none, some)) refl w.part tells

  -- which is no failure of the intake,
  pub passed_reads : b.reader.failed ≡ start.failed
  passed_reads = (gains_block legal there w.answers.advances).failures ∙ there.reads

  -- and is within the bounds.
  pub passed_within : DecodesWithin asked rep
  passed_within = ends_within there w.answers.counted tells

-- ---- where decoding stands

-- Blocks were written, with these samples, and decoding stands after them.
pub record Stands {I : Type 0} (s : Parameters) (stand : Stand) (a b : AtWork I) (n : ℕ) : Type 0 where
  pub samples : List ℤ
  pub len : length samples ≡ s.block * n
  pub put : Appends a.taken b.taken (spellings s samples)
  pub forward : a.reader.taken ≤ b.reader.taken
  pub more : GivesMore s stand (stand_at (stand.samples + s.block * n) (stand.bits + (b.reader.taken - a.reader.taken)) b.steps b.decoder) b.decoder a.reader b.reader samples
  pub aligned : b.decoder.run ≡ 0 → b.reader.taken % 8 ≡ (stand.bits + (b.reader.taken - a.reader.taken)) % 8

-- What is known before them.
pub record StandsBefore {I : Type 0} (s : Parameters) (stand : Stand) (a : AtWork I) : Type 0 where
  pub reads : IsReadFrom stand a.reader
  pub state : a.decoder ≡ state_of s stand
  pub steps : a.steps ≡ stand.steps
  pub aligned : stand.run ≡ 0 → a.reader.taken % 8 ≡ stand.bits % 8

-- It is known where a decoder has come to a stand.
pub stands_before : {I : Type 0} {s : Parameters} {stand : Stand} {p : DecoderState} {r : Reader I} {steps : ℕ} (taken : Option Room) → HasComeTo s stand p r → steps ≡ stand.steps
    → StandsBefore s stand (at_work r steps p taken)
stands_before taken come counted = record { reads = come.reads; state = come.state; steps = counted; aligned = come.aligned }

-- Each goes on from there.
pub each_stands : {I : Type 0} (n : ℕ) {s : Parameters} {stand : Stand} {a b : AtWork I} {o : Origin} {front : List Bool} {given : List ℤ} → IsStand s o stand front given
    → StandsBefore s stand a → WritesEach n s a b → Stands s stand a b n
each_stands zero {s} {stand} {a} {b} h known same =
    let here : Stands s stand a a 0 =
    let samples : stand.samples + s.block * 0 ≡ stand.samples = omega arith in
    let bits : stand.bits + (a.reader.taken - a.reader.taken) ≡ stand.bits = omega arith in
    record {
      samples = [];
      len = omega arith;
      put = Appends-nil a.taken;
      forward = omega arith;
      more = nothing_more (λ i. record {
        samples = samples i;
        bits = bits i;
        steps = known.steps i;
        previous = (known.state i).before;
        block = (known.state i).block;
        run = (known.state i).run;
      }) refl known.state known.reads;
      aligned = λ none. known.aligned (ap (λ (d : DecoderState). d.run) (sym known.state) ∙ none) ∙ ap (λ n. n % 8) (sym bits);
    } in
    subst (λ (c : AtWork _). Stands s stand a c 0) (sym same) here
each_stands (suc n) {s} {stand} {a} {b} {o} {front} {given} h known (m, before, w) =
    let first = each_stands n {b = m} h known before in
    let here = stand_at (stand.samples + s.block * n) (stand.bits + (m.reader.taken - a.reader.taken)) m.steps m.decoder in
    let next = stand_at (stand.samples + s.block * suc n) (stand.bits + (b.reader.taken - a.reader.taken)) b.steps b.decoder in
    let on = first.more.goes_on in
    let stands = (first.more.gives o front given h).stands in
    let going : m.decoder.stopped ≡ None = ap (λ (d : DecoderState). d.stopped) on.state in
    let setting_old : m.decoder.setting ≡ s = ap (λ (d : DecoderState). d.setting) on.state in
    let block = samples_of_block s setting_old going w.answers.advances in
    let xs = w.answers.samples in
    let setting : b.decoder.setting ≡ s = w.answers.setting ∙ setting_old in
    let stopped : b.decoder.stopped ≡ None = ap (λ (d : DecoderState). d.stopped) (moves_of going w.answers.advances) ∙ going in
    let same : b.decoder ≡ state_of s next = (λ i. record { setting = setting i; block = b.decoder.block; before = b.decoder.before; run = b.decoder.run; stopped = stopped i }) in
    let from_here = subst (λ (d : DecoderState). Advances m.reader b.reader m.steps w.steps d b.decoder xs (Ok Block)) on.state w.answers.advances in
    let old_run : m.decoder.run * m.decoder.setting.block ≡ m.decoder.run * s.block = ap (λ t. m.decoder.run * t.block) setting_old in
    let new_run : b.decoder.run * b.decoder.setting.block ≡ b.decoder.run * s.block = ap (λ t. b.decoder.run * t.block) setting in
    let forward : a.reader.taken ≤ b.reader.taken = omega (arith, first.forward, w.answers.counted.forward) in
    let t : Steps s here next m.reader b.reader m.steps w.steps xs = record {
      state = subst (λ (d : DecoderState). IsDecoderState d.setting d.block d.before d.run d.stopped) same w.state;
      advances = subst (λ (d : DecoderState). Advances m.reader b.reader m.steps w.steps (state_of s here) d xs (Ok Block)) same from_here;
      counted = w.answers.counted;
      few = omega (arith, w.answers.by_bits, old_run, new_run);
      reads = on.reads;
      aligned = first.aligned;
      samples = omega arith;
      bits = omega (arith, first.forward, w.answers.counted.forward);
      steps_old = refl;
      steps_are = w.ticked;
    } in
    let second = gives_one o (front ++ (first.more.gives o front given h).bits) (given ++ first.samples) stands same t in
    let bytes : take (width s * s.block) w.bytes ≡ spellings s xs =
    ap (λ n. take (width s * n) w.bytes) (sym block.len) ∙ subst (λ (t : Parameters). take (width t * length xs) w.bytes ≡ spellings t xs) setting_old (w.answers.spelled refl) in
    record {
      samples = first.samples ++ xs;
      len = omega (arith, length-append first.samples xs, first.len, block.len);
      put = subst (Appends a.taken b.taken) (sym (spellings-append s first.samples xs))
          (Appends-trans a.taken m.taken b.taken (spellings s first.samples) (spellings s xs) first.put (subst (Appends m.taken b.taken) bytes w.put));
      forward = forward;
      more = one_and_more first.more second;
      aligned = λ none. second.goes_on.aligned (first.aligned w.no_run);
    }

-- The stand after them by the numbers that a call has.
pub passed_to : {I : Type 0} {s : Parameters} {stand : Stand} {a b : AtWork I} {n : ℕ} (stands : Stands s stand a b n) {next : Stand} {count before : ℕ} → count ≡ s.block * n → before ≡ a.reader.taken
    → next ≡ stand_at (stand.samples + count) (stand.bits + (b.reader.taken - before)) b.steps b.decoder
    → GivesMore s stand next b.decoder a.reader b.reader stands.samples × (next.run ≡ 0 → b.reader.taken % 8 ≡ next.bits % 8)
passed_to {s = s} {stand} {a} {b} {n} stands {next} many from is =
    let there : next ≡ stand_at (stand.samples + s.block * n) (stand.bits + (b.reader.taken - a.reader.taken)) b.steps b.decoder =
    is ∙ (λ i. stand_at (stand.samples + many i) (stand.bits + (b.reader.taken - from i)) b.steps b.decoder) in (
      subst (λ (t : Stand). GivesMore s stand t b.decoder a.reader b.reader stands.samples) (sym there) stands.more,
      λ none. stands.aligned (ap (λ (t : Stand). t.run) (sym there) ∙ none) ∙ ap (λ (t : Stand). t.bits % 8) (sym there),
    )

-- where decoding stands, it can go on
pub stand_is_ready : {I : Type 0} {s : Parameters} {o : Origin} {stand : Stand} {front : List Bool} {given : List ℤ} {p : DecoderState} {r : Reader I} {steps : ℕ} → IsStand s o stand front given
    → p ≡ state_of s stand → IsReadFrom stand r → steps ≡ stand.steps → IsReady s r steps p
stand_is_ready h state reads counted = record {
  setting = ap (λ (d : DecoderState). d.setting) state;
  stopped = ap (λ (d : DecoderState). d.stopped) state;
  going = reads.going;
  limit = omega (arith, reads.taken, h.limit);
  room = omega (arith, counted, h.steps.most, h.steps.by_bits, h.bits, h.limit);
}

-- A slice that has room for so many samples does not fail before them.
pub never_fails : {I : Type 0} {s : Parameters} {stand : Stand} {a b : AtWork I} {most count : ℕ} {o : Origin} {front : List Bool} {given : List ℤ} {old new : Room} → IsStand s o stand front given
    → StandsBefore s stand a → FailsInBlocks s most a b count → a.taken ≡ Some old → b.taken ≡ Some new → width s * most ≤ length old.rest → new.rest ≡ [] → ⊥
never_fails {s = s} {stand} {a} {b} {most} {count} {o} {front} {given} {old} {new} h known f before after fits full =
    let stands = each_stands f.before.blocks {b = f.middle} h known f.before.each in
    let part = f.part in
    let whole : Appends a.taken b.taken (spellings s stands.samples ++ part.front) = Appends-trans a.taken f.middle.taken b.taken (spellings s stands.samples) part.front stands.put part.took in
    let fills : Fills old new (spellings s stands.samples ++ part.front) = subst (λ (t : Option Room). Appends t (Some new) (spellings s stands.samples ++ part.front)) before
    (subst (λ (t : Option Room). Appends a.taken t (spellings s stands.samples ++ part.front)) after whole) in
    let size : length (spellings s stands.samples) ≡ width s * count = length-spellings s stands.samples ∙ ap (λ n. width s * n) (stands.len ∙ sym f.before.count_is) in
    let few : length part.front < width s * s.block = let all = ap length part.split in
    let some : length part.missing ≢ 0 = λ none. part.short (nil_from_length part.missing none) in
    omega (arith, all, some, length-append part.front part.missing, length-take (width s * s.block) f.bytes) in
    let room : width s * (count + s.block) ≤ width s * most = mul-le-mul_left (width s) f.wanted in
    let text = spellings s stands.samples in
    omega (arith, ap length (sym fills.rest ∙ full), length-drop (length (text ++ part.front)) old.rest, length-append text part.front, size, few, room, fits)

-- Blocks that were written to what is left of a slice are written after those before them.
pub passed_so_far : {I : Type 0} {s : Parameters} {o : Origin} {front : List Bool} {given : List ℤ} {piece : List ℕ} {old here next : Stand}
    {q : DecoderState} {out_old out room : List ℕ} {r new : Reader I} {at len : ℕ}
    → PulledSoFar s o front given piece old out_old out here (ahead r) at → WritesBlocksAt s here next q r new len 0 (take (length out - at) (drop at out)) room → at ≤ length out
    → PulledSoFar s o front given piece old out_old (take at out ++ (room ++ drop (length out - at) (drop at out))) next (ahead new) (at + len)
passed_so_far {s = s} {o} {front} {given} {out = out} {at = at} {len} so w within =
    let text = spellings s w.samples in
    let none : drop (length out - at) (drop at out) ≡ [] = drop_of_length-le (drop at out) (omega (arith, length-drop at out)) in
    let all : take (length out - at) (drop at out) ≡ drop at out = take_all (length out - at) (drop at out) (omega (arith, length-drop at out)) in
    let rest : drop (0 + len) (drop at out) ≡ drop (at + len) out = drop-drop (0 + len) at out ∙ ap (λ n. drop n out) (let e : at + (0 + len) ≡ at + len = omega arith in e) in
    more_so_far so (w.more.gives o (front ++ so.bits) (given ++ so.samples) so.stands) w.len_is
    (ap (λ l. take at out ++ l) ((λ i. w.wrote i ++ none i) ∙ append-nil (text ++ drop (0 + len) (take (length out - at) (drop at out))) ∙ ap (λ l. text ++ drop (0 + len) l) all
    ∙ ap (λ l. text ++ l) rest))

-- the slice has as many bytes then
pub same_room : (at : ℕ) (out room : List ℕ) → at ≤ length out → length room ≡ length (take (length out - at) (drop at out))
    → length (take at out ++ (room ++ drop (length out - at) (drop at out))) ≡ length out
same_room at out room within len =
    omega (
      arith,
      within,
      len,
      length-append (take at out) (room ++ drop (length out - at) (drop at out)),
      length-append room (drop (length out - at) (drop at out)),
      length-take at out,
      length-take (length out - at) (drop at out),
      length-drop at out,
      length-drop (length out - at) (drop at out),
    )
