use Rattle.rice_calls.proofs.Words.{◌++◌, List, ℕ, Some, sym, ◌∙◌, subst, ap, length, take-append-drop, Room, begun, slice_left, slice_state, Happens, Encodes, EncodesWithin, Report}
use Rattle.rice_calls.proofs.lemmas.WrittenMemory.{writes_front}
use Rattle.rice_calls.proofs.coding.encode_past_limit.Goals as goal

pub returns : goal.returns
returns g c =
    let run = c.encode_slice_to_slice-outcome in
    let out = run.new.outlet in
    let s = c.args.setting.now in
    let call = run.ensures.call in
    let tie = c.code-1.given.1.1 (sym (run.ensures.borrow ∙ ap (λ (r : Room). r.borrow) c.new-outlet.ensures.state)) in
    let happens = subst (λ (l : List ℕ). Happens (Some l) (Some (slice_left run.new.intake)) (Some (begun c.new-arg-1.given c.args.code.now)) (Some (slice_state out)) call.0) c.new-intake.ensures
    (subst (λ (r : Room). Happens (Some (slice_left c.new-intake.result)) (Some (slice_left run.new.intake)) (Some r) (Some (slice_state out)) call.0) c.new-outlet.ensures.state call.1) in
    record {
      call = call.0;
      fault = run.result.fault;
      takes = record { left = slice_left run.new.intake; gave = happens.gave; left_is = sym happens.left };
      encodes = subst (λ (r : Report). Encodes s call.0 r run.result.fault) (sym c.tell.ensures.report) call.2;
      within = subst (λ (r : Report). EncodesWithin s r) (sym c.tell.ensures.report) run.ensures.within;
      writes = writes_front c.args.code.now c.new-arg-1.given out.failures run.result.fault happens.took
          (tie ∙ sym (take-append-drop out.at out.room.now)) c.code-1.given.1.0 run.ensures.failures c.taken-written.ensures.full;
      tells = record {
        status = c.tell.ensures.status;
        written = c.tell.ensures.written ∙ c.taken-written.ensures.count ∙ ap length call.1.took.bytes ∙ ap (λ (r : Room). length (r.bytes ++ call.0.written)) c.new-outlet.ensures.state;
        place = c.tell.ensures.place;
      };
    }
