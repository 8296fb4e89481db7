use Rattle.rice_calls.proofs.Words.{◌∙◌, Some, sym, subst, ap, take-append-drop, Room, begun, slice_state, EncodesWithin, EncodesRest, Report}
use Rattle.rice_calls.proofs.lemmas.{FedOutlets.rest_fills, WrittenMemory.all_in_front}
use Rattle.rice_calls.proofs.feeding.finish_into.Goals as goal

pub returns : goal.returns
returns g c xs h =
    let s = c.args.setting.now in
    let run = c.finish_slice_to_slice-outcome in
    let out = run.new.outlet in
    let name = c.new-arg-1.given in
    let start = begun name c.args.code.now in
    let tie = c.code-1.given.1.1 (sym (run.ensures.borrow ∙ ap (λ (r : Room). r.borrow) c.new-outlet.ensures.state)) in
    let did : EncodesRest s xs c.args.samples.now (Some start) (Some (slice_state out)) run.result.report run.result.fault =
    subst (λ (a : Room). EncodesRest s xs c.args.samples.now (Some a) (Some (slice_state out)) run.result.report run.result.fault) c.new-outlet.ensures.state (run.ensures.did xs h) in
    record {
      fault = run.result.fault;
      name = name;
      room = slice_state out;
      encodes = subst (λ (r : Report). EncodesRest s xs c.args.samples.now (Some start) (Some (slice_state out)) r run.result.fault) (sym c.tell.ensures.report) did;
      within = subst (λ (r : Report). EncodesWithin s r) (sym c.tell.ensures.report) run.ensures.within;
      writes = all_in_front c.args.code.now name out.failures run.result.fault
          (rest_fills s xs c.args.samples.now start (slice_state out) run.result.report run.result.fault did)
          (tie ∙ sym (take-append-drop out.at out.room.now)) c.code-1.given.1.0 run.ensures.failures c.taken-written.ensures.full;
      tells = record { status = c.tell.ensures.status; written = c.tell.ensures.written ∙ c.taken-written.ensures.count; place = c.tell.ensures.place };
    }
