use Rattle.rice_calls.proofs.Words.{◌++◌, List, ℕ, Some, sym, ◌∙◌, subst, ap, length, take-append-drop, Room, begun, slice_left, slice_state, Happens, Decodes, DecodesWithin, Report}
use Rattle.rice_calls.proofs.lemmas.WrittenMemory.{writes_front}
use Rattle.rice_calls.proofs.coding.decode_into.Goals as goal

pub returns : goal.returns
returns g c =
    let run = c.decode_slice_to_slice in
    let out = run.new.outlet in
    let s = c.args.setting.now in
    let call = run.ensures.call in
    let tie = c.samples-1.given.1.1 (sym (run.ensures.borrow ∙ ap (λ (r : Room). r.borrow) c.new-outlet.ensures.state)) in
    let happens = subst (λ (l : List ℕ). Happens (Some l) (Some (slice_left run.result.1)) (Some (begun c.new-arg-1.given c.args.samples.now)) (Some (slice_state out)) call.0) c.new-intake.ensures
    (subst (λ (r : Room). Happens (Some (slice_left c.new-intake.result)) (Some (slice_left run.result.1)) (Some r) (Some (slice_state out)) call.0) c.new-outlet.ensures.state call.1) in
    record {
      call = call.0;
      fault = run.result.0.fault;
      takes = record { left = slice_left run.result.1; gave = happens.gave; left_is = sym happens.left };
      decodes = subst (λ (r : Report). Decodes s c.args.asked call.0 r run.result.0.fault) (sym c.tell.ensures.report) call.2;
      within = subst (λ (r : Report). DecodesWithin c.args.asked r) (sym c.tell.ensures.report) run.ensures.within;
      writes = writes_front c.args.samples.now c.new-arg-1.given out.failures run.result.0.fault happens.took
          (tie ∙ sym (take-append-drop out.at out.room.now)) c.samples-1.given.1.0 run.ensures.failures c.taken-written.ensures.full;
      tells = record {
        status = c.tell.ensures.status;
        written = c.tell.ensures.written ∙ c.taken-written.ensures.count ∙ ap length call.1.took.bytes ∙ ap (λ (r : Room). length (r.bytes ++ call.0.written)) c.new-outlet.ensures.state;
        place = c.tell.ensures.place;
      };
    }
