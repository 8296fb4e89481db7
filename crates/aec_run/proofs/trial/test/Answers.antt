use Rattle.std.proofs.Common.{Some, None, ◌≡◌, ◌∙◌, true, false, Ok, Err, refl, ap, inl, inr}
use Rattle.aec_command.specs.TestPlan.{test_view}
use Rattle.aec_run.specs.Outside.{saying}
use Rattle.aec_run.specs.Performs.{faulty, tested}
use Rattle.aec_run.proofs.OutsideLemmas.{holds_after}
use Rattle.aec_run.proofs.TrialLemmas.{judged_of, tests_of}
use Rattle.aec_run.proofs.trial.test.Goals as goal

pub tell_finding-requires : goal.tell_finding-requires
tell_finding-requires g c κs = (
  (refl, tt),
  (
    (λ x e. holds_after (λ o. o.said ≡ None) _ _ c.judge.ensures.silent (λ o reported.
        let all = c.requires.bytes o reported in
        let judged = judged_of g.S.Source.Intake.left g.S.Source.Intake.failed g.S.Dest.Outlet.taken g.S.Dest.Outlet.failed (test_view c.args.plan.now) o all.0 _ _ _ _
        (c.judge.ensures.judges o all.0 reported all.1) (c.requires.fresh o reported) in
        (judged.0, judged.1, judged.2)) x e),
    (λ x e. holds_after (λ o. o.found ≡ None) _ _ c.judge.ensures.silent (λ o reported.
        let all = c.requires.bytes o reported in
        let judged = judged_of g.S.Source.Intake.left g.S.Source.Intake.failed g.S.Dest.Outlet.taken g.S.Dest.Outlet.failed (test_view c.args.plan.now) o all.0 _ _ _ _
        (c.judge.ensures.judges o all.0 reported all.1) (c.requires.fresh o reported) in
        (judged.0, judged.1, judged.3)) x e),
  ),
)

pub fail-requires : goal.fail-requires
fail-requires g c κs = (
  (refl, tt),
  λ x e. holds_after (λ o. o.said ≡ None) _ _ c.judge.ensures.silent (λ o reported.
      let all = c.requires.bytes o reported in
      let judged = judged_of g.S.Source.Intake.left g.S.Source.Intake.failed g.S.Dest.Outlet.taken g.S.Dest.Outlet.failed (test_view c.args.plan.now) o all.0 _ _ _ _
      (c.judge.ensures.judges o all.0 reported all.1) (c.requires.fresh o reported) in
      (judged.0, judged.1, judged.2)) x e,
)

pub returns-in-Ok : goal.returns-in-Ok
returns-in-Ok g c = λ o reported.
    let all = c.requires.bytes o reported in
    let judges = c.judge.ensures.judges o all.0 reported all.1 in
    let judged = judged_of g.S.Source.Intake.left g.S.Source.Intake.failed g.S.Dest.Outlet.taken g.S.Dest.Outlet.failed (test_view c.args.plan.now) o all.0 _ _ _ _
    judges (c.requires.fresh o reported) in
    let judges = rw (c.in-Ok.is, judged.1) at judges in
    elim (c.tell_finding.ensures judged.0 judged.1) [
      | inl done_so ↦ (
        tested c.args.plan.now.setting c.decode.result.0.report (Ok c.in-Ok.more) true judged.0,
        done_so.0,
        tests_of judged.0 (Ok c.in-Ok.more) true (record { source = all.1; sound = c.requires.sound; gives = all.2 })
            c.decode.ensures.call c.decode.ensures.failures judges refl done_so.1 refl,
      )
      | inr failed ↦ (
        tested c.args.plan.now.setting c.decode.result.0.report (Ok c.in-Ok.more) false judged.0,
        failed.0,
        tests_of judged.0 (Ok c.in-Ok.more) false (record { source = all.1; sound = c.requires.sound; gives = all.2 })
            c.decode.ensures.call c.decode.ensures.failures judges refl failed.1 refl,
      )
    ]

pub returns-in-Err : goal.returns-in-Err
returns-in-Err g c = λ o reported.
    let all = c.requires.bytes o reported in
    let judges = c.judge.ensures.judges o all.0 reported all.1 in
    let judged = judged_of g.S.Source.Intake.left g.S.Source.Intake.failed g.S.Dest.Outlet.taken g.S.Dest.Outlet.failed (test_view c.args.plan.now) o all.0 _ _ _ _
    judges (c.requires.fresh o reported) in
    let judges = rw (c.in-Err.is, judged.1) at judges in (
      saying judged.0 (faulty c.args.plan.now.setting c.decode.result.0.report c.in-Err.fault),
      c.fail.ensures.says judged.0 judged.1 ∙ ap (λ s. Some (saying judged.0 s)) c.at_place.ensures,
      tests_of judged.0 (Err c.in-Err.fault) true (record { source = all.1; sound = c.requires.sound; gives = all.2 })
          c.decode.ensures.call c.decode.ensures.failures judges refl c.fail.ensures.status refl,
    )
