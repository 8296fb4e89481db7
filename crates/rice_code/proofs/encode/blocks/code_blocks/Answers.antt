use Rattle.std.proofs.Common.{◌≡◌, ◌+◌, ◌-◌, ◌*◌, ◌≤◌, ◌++◌, ◌∙◌, min, true, false, length, drop, take, arith, ap, sym, subst, inl, inr}
use Rattle.rice_code.proofs.Words.{sum_by, slice_range, take_all, k_max, BlockData, is_zero_block, cost, bits_of_set, bits_of_sets, data_sets, shortest, best_split, held_blocks, reference_at}
use Rattle.rice_code.proofs.Words.{pending_run, pending_bits, HasRoomFor, block_with, IsSoundData, least_looks, most_looks, common_steps}
use Rattle.rice_code.proofs.lemmas.{meaning.CoveredBlocks.bool_cases, encode.PendingRuns.held_at, encode.PendingRuns.held_len}
use Rattle.rice_code.proofs.lemmas.encode.SegmentBlocksInTurn.{to_come, held, held_range, held_sound, sound_of, next_zero, next_other, at_end, sum_next, most_of_all, looks_zero}
use Rattle.rice_code.proofs.lemmas.encode.SegmentBlocksInTurn.{looks_other, room_other, room_within, meter_fits, meter_ends, length_both, looks_more, other_same, least_more, most_more}
use Rattle.rice_code.proofs.encode.blocks.code_blocks.Goals as goal

pub code_next-run-requires-clause-sound : goal.code_next-run-requires-clause-sound
code_next-run-requires-clause-sound c =
    let s = c.args.setting.now in
    let ds = c.args.segment.now in
    let i = c.loop-i.i in
    let size = ap (λ m. slice_range ds (i * m) (i * m + m)) c.block-size.ensures.value in
    let block = c.block.ensures.value ∙ (size ∙ held_range s ds i) in
    let e : c.new-block.result ≡ held s c.args.reference ds i = c.new-block.ensures ∙ (λ j. block_with (c.reference_of.ensures j) (block j)) in
    subst (IsSoundData s) (sym e) (sound_of s (c.args.start + i) _ (held_sound s c.args.start c.args.reference c.args.count ds i c.loop-i-test.true c.requires.sound))

pub code_next-run-requires-clause-look : goal.code_next-run-requires-clause-look
code_next-run-requires-clause-look c =
    let s = c.args.setting.now in
    let cs = held_blocks s c.args.reference c.args.count c.args.segment.now in
    let all = bits_of_sets s (data_sets s c.args.start false cs) in
    let i = c.loop-i.i in
    let room = room_within c.loop-i.sink (to_come s c.args.start c.args.reference c.args.count c.args.segment.now i c.loop-i.run) c.args.sink.now all c.loop-i.invariant.same in
    let fits = meter_fits {t = length all} {put = 0} (s.block * (k_max s + 5))
    (record {
      grown = c.loop-i.invariant.steps_to;
      by_blocks = most_of_all s i cs;
      put_is = omega (arith, room);
      fits = omega (arith, c.requires.room.steps);
    }) c.loop-i-test.true in
    let more = looks_more s.block (k_max s) in
    omega (arith, fits, more)

pub code_next-run-requires-clause-room : goal.code_next-run-requires-clause-room
code_next-run-requires-clause-room c =
    let s = c.args.setting.now in
    let ds = c.args.segment.now in
    let i = c.loop-i.i in
    let cs = held_blocks s c.args.reference c.args.count ds in
    let all = bits_of_sets s (data_sets s c.args.start false cs) in
    let size = ap (λ m. slice_range ds (i * m) (i * m + m)) c.block-size.ensures.value in
    let block = c.block.ensures.value ∙ (size ∙ held_range s ds i) in
    let e : c.new-block.result ≡ held s c.args.reference ds i = c.new-block.ensures ∙ (λ j. block_with (c.reference_of.ensures j) (block j)) in
    let legal = c.block-size.ensures.legal in
    let one : 1 ≤ s.block = grind (arith, legal.block) in
    let P : BlockData → Type 0 = λ b. is_zero_block b ≡ false
    → HasRoomFor (length (pending_bits s false (reference_at c.args.reference (c.loop-i.i - c.loop-i.run)) c.loop-i.run) + cost s (shortest s b))
    (length (pending_bits s false (reference_at c.args.reference (c.loop-i.i - c.loop-i.run)) c.loop-i.run) + cost s (shortest s b) + s.block
    * (k_max s + 5)) (length c.loop-i.sink) c.loop-i.meter in
    subst P (sym e) (λ z.
    let put = length (bits_of_sets s (pending_run false (reference_at c.args.reference (i - c.loop-i.run)) c.loop-i.run)) + cost s (shortest s (held s c.args.reference ds i)) in
    let g = room_other c.args.reference ds c.loop-i.sink c.args.sink.now all (record { interval = legal.interval_from; block = one })
    (record { inside = c.requires.few; run_before = c.loop-i.invariant.inside; below = c.loop-i-test.true }) (record { sound = c.requires.sound; no_zeros = z }) c.loop-i.invariant.same in
    let fits = meter_fits {t = length all} {put = put} (s.block * (k_max s + 5))
    (record {
      grown = c.loop-i.invariant.steps_to;
      by_blocks = most_of_all s i cs;
      put_is = omega (arith, g);
      fits = omega (arith, c.requires.room.steps);
    }) c.loop-i-test.true in
    record { room = omega (arith, g, c.requires.room.room); steps = omega (arith, fits) })

pub loop-i-preserved : goal.loop-i-preserved
loop-i-preserved c =
    let s = c.args.setting.now in
    let start = c.args.start in
    let r = c.args.reference in
    let n = c.args.count in
    let ds = c.args.segment.now in
    let i = c.loop-i.i in
    let run = c.loop-i.run in
    let cs = held_blocks s r n ds in
    let all = bits_of_sets s (data_sets s start false cs) in
    let size = ap (λ m. slice_range ds (i * m) (i * m + m)) c.block-size.ensures.value in
    let block = c.block.ensures.value ∙ (size ∙ held_range s ds i) in
    let raw = c.new-block.result in
    let e : raw ≡ held s r ds i = c.new-block.ensures ∙ (λ j. block_with (c.reference_of.ensures j) (block j)) in
    let legal = c.block-size.ensures.legal in
    let one : 1 ≤ s.block = grind (arith, legal.block) in
    let inv = c.loop-i.invariant in
    let next = held_at s r n i ds c.loop-i-test.true in
    let low = sum_next (least_looks s) i cs (held s r ds i) (drop (i + 1) cs) next in
    let high = sum_next (most_looks s) i cs (held s r ds i) (drop (i + 1) cs) next in
    let after = c.code_next-run.ensures in
    elim (bool_cases (is_zero_block raw)) [
      | inl z ↦
          let zh = sym (ap is_zero_block e) ∙ z in
          let looks = looks_zero s (held s r ds i) zh in
          let joins = after.joins z in
          let len = ap length joins.bits in
          record {
            inside = omega (arith, joins.run_is);
            same = (λ j. joins.bits j ++ to_come s start r n ds (i + 1) (joins.run_is j))
                ∙ (ap (λ v. c.loop-i.sink ++ v) (sym (next_zero s start r ds inv.inside c.loop-i-test.true c.requires.sound zh)) ∙ inv.same);
            steps_from = omega (arith, low, looks.0, len, joins.steps, inv.steps_from);
            steps_to = omega (arith, high, looks.1, len, joins.steps, inv.steps_to);
          }
      | inr z ↦ grind (arith, common_steps, looks_other, next_other, other_same, least_more, most_more)
    ]

-- the invariant at the end
pub put_pending_run-requires-clause-room : goal.put_pending_run-requires-clause-room
put_pending_run-requires-clause-room c =
    let s = c.args.setting.now in
    let n = c.args.count in
    let ds = c.args.segment.now in
    let cs = held_blocks s c.args.reference n ds in
    let all = bits_of_sets s (data_sets s c.args.start false cs) in
    let i : c.loop-i.i ≡ n = omega arith in
    let run = c.loop-i.run in
    let same = sym (ap (λ i. c.loop-i.sink ++ to_come s c.args.start c.args.reference n ds i run) i) ∙ c.loop-i.invariant.same in
    let ends = ap (λ v. c.loop-i.sink ++ v) (at_end s c.args.start c.args.reference n ds run c.block-size.ensures.legal.interval_from c.requires.few (omega arith)) in
    let put = length (bits_of_sets s (pending_run true (reference_at c.args.reference (n - run)) run)) in
    let room = room_within c.loop-i.sink (bits_of_sets s (pending_run true (reference_at c.args.reference (n - run)) run)) c.args.sink.now all (sym ends ∙ same) in
    let w = ap (λ f. length (bits_of_sets s (pending_run true f run))) c.reference_of-first.ensures in
    let fits = meter_ends {t = length all} {put = put} {n = n} (s.block * (k_max s + 5))
    (record {
      grown = c.loop-i.invariant.steps_to;
      by_blocks = most_of_all s c.loop-i.i cs;
      put_is = omega (arith, room);
      fits = omega (arith, c.requires.room.steps);
    }) (omega arith) in
    record { room = omega (arith, room, w, c.requires.room.room); steps = omega (arith, fits, w) }

pub returns : goal.returns
returns c = grind (arith, common_steps, at_end, held_len, take_all, length_both)
