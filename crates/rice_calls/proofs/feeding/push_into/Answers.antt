use Rattle.rice_calls.proofs.Words.{◌∙◌, Some, None, Option, Result, Ok, Err, sym, subst, ap, refl, take-append-drop, Room, begun, slice_state, EncodesMore, Fault, Seam, status_number, fault_status}
use Rattle.rice_calls.proofs.Words.{fault_place}
use Rattle.rice_calls.proofs.lemmas.{FedOutlets.more_fills, FedOutlets.more_fails, WrittenMemory.all_in_front}
use Rattle.rice_calls.proofs.feeding.push_into.Goals as goal

pub returns-in-Ok : goal.returns-in-Ok
returns-in-Ok g c xs h =
    let s = c.args.setting.now in
    let out = c.push_slice_to_slice.new.outlet in
    let name = c.new-arg-1.given in
    let start = begun name c.args.code.now in
    let r : Result Seam Fault = Ok c.in-Ok.seam in
    let tie = c.code-1.given.1.1 (sym (c.in-Ok.ensures.borrow ∙ ap (λ (r : Room). r.borrow) c.new-outlet.ensures.state)) in
    let did : EncodesMore s xs c.args.samples.now (Some start) (Some (slice_state out)) r =
    subst (λ (a : Room). EncodesMore s xs c.args.samples.now (Some a) (Some (slice_state out)) r) c.new-outlet.ensures.state (c.in-Ok.ensures.did xs h) in
    let fault = c.outcome_at.ensures.fault in
    record {
      outcome = r;
      name = name;
      room = slice_state out;
      encodes = did;
      feeds = refl;
      counts = c.tell.ensures.report ∙ c.outcome_at.ensures.report;
      writes = all_in_front c.args.code.now name out.failures None (more_fills s xs c.args.samples.now start (slice_state out) r did)
          (tie ∙ sym (take-append-drop out.at out.room.now)) c.code-1.given.1.0
          (more_fails s xs c.args.samples.now start (slice_state out) r out.failures did c.in-Ok.ensures.failures) c.taken-written.ensures.full;
      tells = record {
        status = c.tell.ensures.status ∙ ap (λ (f : Option Fault). status_number (fault_status f)) fault;
        written = c.tell.ensures.written ∙ c.taken-written.ensures.count;
        place = c.tell.ensures.place ∙ ap fault_place fault;
      };
    }

pub returns-in-Err : goal.returns-in-Err
returns-in-Err g c xs h =
    let s = c.args.setting.now in
    let out = c.push_slice_to_slice.new.outlet in
    let name = c.new-arg-1.given in
    let start = begun name c.args.code.now in
    let r : Result Seam Fault = Err c.in-Err.fault in
    let tie = c.code-in-Err-1.given.1.1 (sym (c.in-Err.ensures.borrow ∙ ap (λ (r : Room). r.borrow) c.new-outlet.ensures.state)) in
    let did : EncodesMore s xs c.args.samples.now (Some start) (Some (slice_state out)) r =
    subst (λ (a : Room). EncodesMore s xs c.args.samples.now (Some a) (Some (slice_state out)) r) c.new-outlet.ensures.state (c.in-Err.ensures.did xs h) in
    let fault = c.outcome_at-in-Err.ensures.fault in
    record {
      outcome = r;
      name = name;
      room = slice_state out;
      encodes = did;
      feeds = refl;
      counts = c.tell-in-Err.ensures.report ∙ c.outcome_at-in-Err.ensures.report;
      writes = all_in_front c.args.code.now name out.failures (Some c.in-Err.fault) (more_fills s xs c.args.samples.now start (slice_state out) r did)
          (tie ∙ sym (take-append-drop out.at out.room.now)) c.code-in-Err-1.given.1.0
          (more_fails s xs c.args.samples.now start (slice_state out) r out.failures did c.in-Err.ensures.failures) c.taken-written-in-Err.ensures.full;
      tells = record {
        status = c.tell-in-Err.ensures.status ∙ ap (λ (f : Option Fault). status_number (fault_status f)) fault;
        written = c.tell-in-Err.ensures.written ∙ c.taken-written-in-Err.ensures.count;
        place = c.tell-in-Err.ensures.place ∙ ap fault_place fault;
      };
    }
