use Rattle.rice_fast.proofs.Words.{◌+◌, ◌∙◌, ap, arith, length, subst, sym, ℕ, Option, ◌++◌, true, HasRoomFor, pending_bits, mod-lt}
use Rattle.rice_fast.proofs.lemmas.encode.EndedSegments.{end_codes, end_has_room}
use Rattle.rice_fast.proofs.lemmas.encode.StandingCoders.{blocks_few, few_blocks, run_inside}
use Rattle.rice_fast.proofs.encode.coder.BlockCoder.put_end.Goals as goal

pub overflow_sub-self : goal.overflow_sub-self
overflow_sub-self c = run_inside c.requires.stands.2.stands.holds

pub put_pending_run-requires-clause-room : goal.put_pending_run-requires-clause-room
put_pending_run-requires-clause-room c =
    let s = c.args.self.now.setting in
    let P : Option ℕ → Type 0 = λ r. HasRoomFor (length (pending_bits s true r c.args.self.now.run)) (length (pending_bits s true r c.args.self.now.run)) (length c.args.sink.now) c.args.meter.now in
    subst P (sym c.reference_of-first.ensures) (end_has_room c.requires.stands.2 c.requires.stands.3)

pub overflow_add-self : goal.overflow_add-self
overflow_add-self c =
    let holds = c.requires.stands.2.stands.holds in
    omega (arith, blocks_few holds, few_blocks holds, holds.opens.place, mod-lt c.args.self.now.start holds.opens.legal.interval_from, holds.opens.legal.interval_to)

pub returns : goal.returns
returns c m xs h room =
    let s = c.args.self.now.setting in
    let w = ap (λ r. pending_bits s true r c.args.self.now.run) c.reference_of-first.ensures in
    let ahead = h.stands.holds.ahead in
    end_codes h c.requires.between (c.put_pending_run.ensures.bits ∙ ap (λ v. c.args.sink.now ++ v) w)
    (c.put_pending_run.ensures.steps ∙ ap (λ v. c.args.meter.now + length v) w) c.pad_interval.ensures
    (omega (arith, c.len-2.ensures.value, c.len.ensures.value, c.put_pending_run.ensures.len, ahead.len))
