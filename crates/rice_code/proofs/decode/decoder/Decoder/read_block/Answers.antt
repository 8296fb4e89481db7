use Rattle.std.proofs.Common.{arith, rules, ◌≡◌, ◌-◌, ap, subst, true, w64}
use Rattle.rice_code.proofs.Words.{common_steps, to_z-of_z, TakesSet, StopsBy, answer_to, with_mark}
use mir.Val.{SFits}
use Rattle.rice_code.proofs.lemmas.decode.DecoderLemmas.{answers_block, answers_stop, block_given, run_given, samples_by_bits, stops_by}
use Rattle.rice_code.proofs.decode.decoder.Decoder.read_block.Goals as goal

pub returns-in-Some-clause-reads : goal.returns-in-Some-clause-reads
returns-in-Some-clause-reads g c =
    let st = c.self.inside in
    let b : SFits w64 st.before = search rules in
    let xs = c.restore_if_sound.new.samples.items in
    let marks = c.mark.ensures.going c.requires.going in
    let read = rw c.in-Ok-Residuals.field-0-is at c.in-Ok-Residuals.ensures.ok in
    let some = rw (to_z-of_z w64 st.before b) at c.in-Some.ensures.some in
    let block = some.1 in
    let set = block_given st.before c.in-Ok-Residuals.head xs read some.0 block.len block.legal block.contents_are in
    let f : SFits w64 c.in-Some.last = search rules in
    let moves = rw (← c.self.view_is, to_z-of_z w64 c.in-Some.last f) at c.go_to_next_block.ensures.moves in
    rw (← c.self.view_is, c.go_to_next_block.ensures.block)
    (answers_block c.args.reader.now c.go_to_next_block.new.meter
    (record { setting = st.setting; block = st.block; before = st.before; run = st.run; stopped = st.stopped })
    (subst (λ r. TakesSet r c.read_set.new.reader c.args.meter.now c.read_set.new.meter st.setting st.block st.before xs 0) marks set)
    (rw (← c.self.view_is) at c.go_to_next_block.ensures.skips) c.go_to_next_block.ensures.steps
    block.last_is (λ j. record { setting = (moves j).setting; block = (moves j).block; before = (moves j).before; run = (moves j).run; stopped = (moves j).stopped }))

pub returns-in-Some-clause-waiting : goal.returns-in-Some-clause-waiting
returns-in-Some-clause-waiting g c =
    let st = c.self.inside in
    let b : SFits w64 st.before = search rules in
    let read = rw c.in-Ok-Residuals.field-0-is at c.in-Ok-Residuals.ensures.ok in
    let some = rw (to_z-of_z w64 st.before b) at c.in-Some.ensures.some in
    let block = some.1 in
    let set = block_given st.before c.in-Ok-Residuals.head c.restore_if_sound.new.samples.items read some.0 block.len block.legal block.contents_are in
    let same : c.mark.new.self.taken ≡ c.args.reader.now.taken = ap (λ r. r.taken) (c.mark.ensures.going c.requires.going) in
    let bound = samples_by_bits c.self.invariant.legal set in
    let buffered : c.go_to_next_block.new.self.run ≡ 0 = ap (λ r. r.run) c.go_to_next_block.ensures.moves in
    rw buffered (omega (arith, bound, same, c.go_to_next_block.ensures.few))

pub returns-in-Some-run_blocks-clause-reads : goal.returns-in-Some-run_blocks-clause-reads
returns-in-Some-run_blocks-clause-reads g c =
    let st = c.self.inside in
    let last = c.restore_zero_block-last in
    let b : SFits w64 st.before = search rules in
    let xs = last.new.samples.items in
    let marks = c.mark.ensures.going c.requires.going in
    let run = c.in-Some-run_blocks.ensures in
    let contents = rw (to_z-of_z w64 st.before b) at last.ensures.contents in
    let is_last = rw (to_z-of_z w64 st.before b) at last.ensures.last in
    let set = run_given c.in-Ok-Zeros.reference c.in-Ok-Zeros.zeros c.in-Some-run_blocks.count
    (rw c.in-Ok-Zeros.field-0-is at c.in-Ok-Zeros.ensures.ok) (run.sound c.in-Ok-Zeros.reference) (run.blocks c.in-Ok-Zeros.reference)
    last.ensures.len last.ensures.legal contents in
    let f : SFits w64 last.result = search rules in
    let moves = rw (← c.self.view_is, to_z-of_z w64 last.result f) at c.go_to_next_block-in-Some-run_blocks.ensures.moves in
    rw (← c.self.view_is, c.go_to_next_block-in-Some-run_blocks.ensures.block)
    (answers_block c.args.reader.now c.go_to_next_block-in-Some-run_blocks.new.meter
    (record { setting = st.setting; block = st.block; before = st.before; run = st.run; stopped = st.stopped })
    (subst (λ r. TakesSet r c.read_set.new.reader c.args.meter.now c.read_set.new.meter st.setting st.block st.before xs (c.in-Some-run_blocks.count - 1)) marks set)
    (rw (← c.self.view_is) at c.go_to_next_block-in-Some-run_blocks.ensures.skips) c.go_to_next_block-in-Some-run_blocks.ensures.steps
    is_last (λ j. record { setting = (moves j).setting; block = (moves j).block; before = (moves j).before; run = (moves j).run; stopped = (moves j).stopped }))

pub returns-in-Some-run_blocks-clause-waiting : goal.returns-in-Some-run_blocks-clause-waiting
returns-in-Some-run_blocks-clause-waiting g c =
    let st = c.self.inside in
    let last = c.restore_zero_block-last in
    let b : SFits w64 st.before = search rules in
    let run = c.in-Some-run_blocks.ensures in
    let contents = rw (to_z-of_z w64 st.before b) at last.ensures.contents in
    let set = run_given c.in-Ok-Zeros.reference c.in-Ok-Zeros.zeros c.in-Some-run_blocks.count
    (rw c.in-Ok-Zeros.field-0-is at c.in-Ok-Zeros.ensures.ok) (run.sound c.in-Ok-Zeros.reference) (run.blocks c.in-Ok-Zeros.reference)
    last.ensures.len last.ensures.legal contents in
    let same : c.mark.new.self.taken ≡ c.args.reader.now.taken = ap (λ r. r.taken) (c.mark.ensures.going c.requires.going) in
    let bound = samples_by_bits c.self.invariant.legal set in
    let moves = rw (← c.self.view_is) at c.go_to_next_block-in-Some-run_blocks.ensures.moves in
    let buffered : c.go_to_next_block-in-Some-run_blocks.new.self.run ≡ c.in-Some-run_blocks.count - 1 = ap (λ r. r.run) moves in
    let size : c.go_to_next_block-in-Some-run_blocks.new.self.setting.block ≡ st.setting.block = ap (λ r. r.setting.block) moves in
    rw (buffered, size) (omega (arith, bound, same, c.go_to_next_block-in-Some-run_blocks.ensures.few))

pub returns-in-Err-clause-reads : goal.returns-in-Err-clause-reads
returns-in-Err-clause-reads g c = grind (arith, common_steps, stops_by, answers_stop)
