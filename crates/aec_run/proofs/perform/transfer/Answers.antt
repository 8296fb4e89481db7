use Rattle.std.proofs.Common.{◌≡◌, None, refl}
use Rattle.std.specs.Prelude.{is_ok}
use Rattle.aec_command.specs.Plan.{plan_view}
use Rattle.aec_run.specs.Outside.{begun, new_mode, place_of, source_id}
use Rattle.aec_run.proofs.OutsideLemmas.{arrived, holds_after, engine_of, arrives_of, runs_of}
use Rattle.aec_run.proofs.perform.transfer.Goals as goal

pub tell_end-requires : goal.tell_end-requires
tell_end-requires g c κs = (
  (refl, tt),
  λ x e. holds_after (λ o. o.said ≡ None) _ _ c.finish-kept.ensures.silent (λ o reported.
      let done = engine_of (plan_view c.args.plan.now) c.run.result.0 c.run.ensures.encodes c.run.ensures.decodes in
      let got = arrives_of (c.requires.empty o reported) done.0.written done.1.took o c.finish-kept.result (λ room e. c.finish-kept.ensures.finishes o room reported e) in
      (arrived (is_ok c.finish-kept.result) o got.0, got.2, c.requires.unsaid o reported)) x e,
)

-- the source was read, what was written has arrived, and why not all was done is reported
pub returns : goal.returns
returns g c = λ o given reported source gives keeps creatable.
    let place = place_of c.args.plan.now.dest.now (new_mode (source_id o c.args.plan.now.source.now)) in
    let done = engine_of (plan_view c.args.plan.now) c.run.result.0 c.run.ensures.encodes c.run.ensures.decodes in
    runs_of (record { source = source; sound = c.requires.sound; gives = gives })
    (record { keeps_source = keeps; creatable = creatable; unwritten = c.requires.unwritten; empty = c.requires.empty (begun o place) reported })
    (record { did = done; failures = c.run.ensures.failures }) (record {
      finishes = λ room e. c.finish-kept.ensures.finishes (begun o place) room reported e;
      says = λ x e. rw c.is_ok.ensures.value at (c.tell_end.ensures.says x e);
      status_is = rw c.is_ok.ensures.value at c.tell_end.ensures.status;
    }) refl
