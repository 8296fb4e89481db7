use Rattle.std.proofs.Common.{arith, ◌/◌, ◌%◌, subst}
use Rattle.aec_run.specs.OneAfter.{LooksAfter}
use Rattle.aec_run.proofs.OneAfterLemmas.{looks_all}
use Rattle.aec_run.proofs.one_after.look_after.Goals as goal

pub returns-in-Ok : goal.returns-in-Ok
returns-in-Ok g c =
    let looks = subst (λ n. LooksAfter g.I.Intake.failed n (g.I.Intake.left c.skip_bytes.new.intake) (c.args.bits % 8) c.has_one.result) c.in-Ok.ensures.failures c.has_one.ensures in
    looks_all g.I.Intake.failed (g.I.Intake.failed c.args.intake) (c.args.bits / 8) (c.args.bits % 8) c.args.bits c.has_one.result (omega arith) c.in-Ok.ensures.rest looks
