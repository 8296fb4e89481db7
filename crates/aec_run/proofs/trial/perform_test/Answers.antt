use Rattle.std.proofs.lemmas.Grind.{common_steps}
use Rattle.std.proofs.Common.{arith, true, inr, refl, subst, sym}
use Rattle.aec_command.specs.TestPlan.{test_view}
use Rattle.aec_run.specs.Outside.{closing}
use Rattle.aec_run.specs.Performs.{Tests}
use Rattle.aec_run.proofs.trial.perform_test.Goals as goal

-- the source was tested, and the closing line written
pub returns-in-Ok : goal.returns-in-Ok
returns-in-Ok g c = λ o reported.
    let p = test_view c.args.plan.now in
    let done = c.test-done.result in
    let ran = c.test-done.ensures o reported in
    let tests = subst (λ n. Tests g.S.Source.Intake.left g.S.Source.Intake.failed g.S.Dest.Outlet.taken g.S.Dest.Outlet.failed p o ran.0 n done.samples)
    (sym c.write_closing_line.ensures.status) ran.2 in
    (closing c.args.verbose true done.samples ran.0, c.write_closing_line.ensures.closes ran.0 ran.1, inr (ran.0, done.samples, tests, refl))

pub returns-in-Err : goal.returns-in-Err
returns-in-Err g c = grind (arith, common_steps)
