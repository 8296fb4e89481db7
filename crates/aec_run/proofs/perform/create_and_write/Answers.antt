use Rattle.std.proofs.Common.{◌≡◌, ◌∙◌, false, None, ap, refl, inr, subst, sym}
use Rattle.std.specs.Prelude.{IsTrue}
use Rattle.aec_command.specs.Plan.{plan_view}
use Rattle.aec_run.specs.Outside.{HasTakenNothing, begun, closing, new_mode, refusing, place_of, source_id, AreOneFile}
use Rattle.aec_run.specs.Performs.{EmptiesSource, Runs}
use Rattle.aec_run.proofs.OutsideLemmas.{begun_with, holds_after}
use Rattle.aec_run.proofs.perform.create_and_write.Goals as goal

pub transfer-done-requires : goal.transfer-done-requires
transfer-done-requires g c κs = (
  (refl, tt),
  (
    c.requires.sound,
    (
      c.in-Ok.ensures.sound,
      (
        (λ x e. holds_after (λ o. HasTakenNothing (g.S.Dest.Outlet.taken c.in-Ok.dest)) _ _ c.create.ensures.silent (λ o reported.
            let made = c.in-Ok.ensures.creates o reported in
            (begun o (place_of c.args.plan.now.dest.now c.mode_for.result), made.0, made.2)) x e),
        (λ x e. holds_after (λ o. o.said ≡ None) _ _ c.create.ensures.silent (λ o reported.
            let made = c.in-Ok.ensures.creates o reported in
            (begun o (place_of c.args.plan.now.dest.now c.mode_for.result), made.0, (c.requires.fresh o reported).said)) x e),
      ),
    ),
  ),
)

pub returns-in-Ok : goal.returns-in-Ok
returns-in-Ok g c = λ o reported.
    let made = c.in-Ok.ensures.creates o reported in
    let all = c.requires.bytes o reported in
    let keeps : EmptiesSource o (plan_view c.args.plan.now) → ⊥ = λ e.
    let one : AreOneFile c.args.id (o.ids c.args.plan.now.dest.now) = rw (c.requires.id o reported) e.1 in
    let yes : IsTrue c.empties_source.result = (c.empties_source.ensures o reported).1 (e.0, one) in
    let no : c.empties_source.result ≡ false = c.if-empties_source.false in
    let bad : ⊥ = cc in
    bad in
    let mode : c.mode_for.result ≡ new_mode (source_id o c.args.plan.now.source.now) = c.mode_for.ensures ∙ ap new_mode (c.requires.id o reported) in
    let ran = c.transfer-done.ensures o all.0 (begun_with _ o c.args.plan.now.dest.now c.mode_for.result (new_mode (source_id o c.args.plan.now.source.now)) made.0 mode) all.1 all.2 keeps made.1 in
    let status = sym c.write_closing_line.ensures.status in (
      closing c.args.verbose c.args.plan.now.decode c.transfer-done.result.samples ran.0,
      c.write_closing_line.ensures.closes ran.0 ran.1,
      inr (
          inr (
            ran.0,
            c.transfer-done.result.samples,
            subst (λ n. Runs g.S.Source.Intake.left g.S.Source.Intake.failed g.S.Dest.Outlet.taken g.S.Dest.Outlet.failed (plan_view c.args.plan.now)
                o ran.0 n c.transfer-done.result.samples) status ran.2,
            refl,
          )
          ),
    )

pub fail-requires-in-Err-NoMemory : goal.fail-requires-in-Err-NoMemory
fail-requires-in-Err-NoMemory g c κs = (
  (refl, tt),
  λ x e. holds_after (λ o. o.said ≡ None) _ _ c.create.ensures.silent
      (λ o reported. (refusing o, (rw c.in-Err-NoMemory.field-0-is at (c.in-Err-NoMemory.ensures.creates o reported)), (c.requires.fresh o reported).said)) x e,
)

pub fail-requires-in-Err-Refused : goal.fail-requires-in-Err-Refused
fail-requires-in-Err-Refused g c κs = (
  (refl, tt),
  λ x e. holds_after (λ o. o.said ≡ None) _ _ c.create.ensures.silent
      (λ o reported. let made = rw c.in-Err-Refused.field-0-is at (c.in-Err-Refused.ensures.creates o reported) in (o, made.0, (c.requires.fresh o reported).said)) x e,
)
