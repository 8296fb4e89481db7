use Rattle.std.proofs.Common.{rules, ◌≡◌, ◌∙◌, ℕ, Bool, true, false, List, Option, Result, codes, refl, subst, sym}
use Rattle.clap.specs.Words.{found_of}
use Rattle.clap.specs.declared.parser.matches.Found.{Found}
use Rattle.rice_bits.specs.OutletRoom.{Room}
use Rattle.aec_command.specs.declared.plan.PlanFault.{PlanFault}
use Rattle.aec_command.specs.declared.test_plan.TestFault.{TestFault}
use Rattle.aec_command.specs.Plan.{PlanView, is_flagged, plan_in}
use Rattle.aec_command.specs.TestPlan.{TestView, test_plan_in, tests}
use Rattle.aec_run.specs.Outside.{Outside, Refused, TestRefused, saying}
use Rattle.aec_run.specs.WholeCommand.{Follows, FollowsIfTest, FollowsPlan, FollowsTest}
use Rattle.aec_run.proofs.start_up.follow.Goals as goal

module _ {Source Dest : Type 0} (left : Source → Option (List ℕ)) (reads : Source → ℕ) (taken : Dest → Option Room) (writes : Dest → ℕ) where
  -- the plan of a test was followed, which the matches ask for
  follows_test : (f : Found) {test verbose : Bool} {answer : Result TestView TestFault} (o after : Outside) (status : ℕ) → test ≡ tests f → test ≡ true
      → verbose ≡ is_flagged f (codes "verbose") → answer ≡ test_plan_in f → FollowsTest left reads taken writes verbose answer o after status
      → Follows left reads taken writes f o after status
  follows_test f {answer} o after status asked is line plan did =
      let of_line = subst (λ v. FollowsTest left reads taken writes v answer o after status) line did in
      let of_plan = subst (λ a. FollowsTest left reads taken writes (is_flagged f (codes "verbose")) a o after status) plan of_line in
      subst (λ b. FollowsIfTest left reads taken writes b f o after status) (sym is ∙ asked) of_plan

  -- the plan was followed, and the matches ask for no test
  follows_plan : (f : Found) {test verbose : Bool} {answer : Result PlanView PlanFault} (o after : Outside) (status : ℕ) → test ≡ tests f → test ≡ false
      → verbose ≡ is_flagged f (codes "verbose") → answer ≡ plan_in f → FollowsPlan left reads taken writes verbose answer o after status
      → Follows left reads taken writes f o after status
  follows_plan f {answer} o after status asked is line plan did =
      let of_line = subst (λ v. FollowsPlan left reads taken writes v answer o after status) line did in
      let of_plan = subst (λ a. FollowsPlan left reads taken writes (is_flagged f (codes "verbose")) a o after status) plan of_line in
      subst (λ b. FollowsIfTest left reads taken writes b f o after status) (sym is ∙ asked) of_plan

pub returns-in-Ok : goal.returns-in-Ok
returns-in-Ok g c = λ o reported.
    let did = c.perform_test.ensures o reported in (
      did.0,
      did.1,
      follows_test g.S.Source.Intake.left g.S.Source.Intake.failed g.S.Dest.Outlet.taken g.S.Dest.Outlet.failed (found_of c.args.matches.now) _ _ _
          c.is_test.ensures c.if-is_test.true c.is_verbose-verbose.ensures c.in-Ok.ensures (search rules),
    )

pub returns-in-Err : goal.returns-in-Err
returns-in-Err g c = λ o reported. (
  saying o (TestRefused c.in-Err.fault),
  c.refuse_plan.ensures.says o reported,
  follows_test g.S.Source.Intake.left g.S.Source.Intake.failed g.S.Dest.Outlet.taken g.S.Dest.Outlet.failed (found_of c.args.matches.now) _ _ _
      c.is_test.ensures c.if-is_test.true c.is_verbose-verbose.ensures c.in-Err.ensures (record { outside = refl; status_is = c.refuse_plan.ensures.status }),
)

pub returns-in-Ok-plan_of : goal.returns-in-Ok-plan_of
returns-in-Ok-plan_of g c = λ o reported.
    let did = c.perform.ensures o reported in (
      did.0,
      did.1,
      follows_plan g.S.Source.Intake.left g.S.Source.Intake.failed g.S.Dest.Outlet.taken g.S.Dest.Outlet.failed (found_of c.args.matches.now) _ _ _
          c.is_test.ensures c.if-is_test.false c.is_verbose-verbose.ensures c.in-Ok-plan_of.ensures (search rules),
    )

pub returns-in-Err-plan_of : goal.returns-in-Err-plan_of
returns-in-Err-plan_of g c = λ o reported. (
  saying o (Refused c.in-Err-plan_of.fault),
  c.refuse_plan-in-Err-plan_of.ensures.says o reported,
  follows_plan g.S.Source.Intake.left g.S.Source.Intake.failed g.S.Dest.Outlet.taken g.S.Dest.Outlet.failed (found_of c.args.matches.now) _ _ _
      c.is_test.ensures c.if-is_test.false c.is_verbose-verbose.ensures c.in-Err-plan_of.ensures
      (record { outside = refl; status_is = c.refuse_plan-in-Err-plan_of.ensures.status }),
)
