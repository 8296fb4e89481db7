use Rattle.std.proofs.Common.{subst}
use Rattle.rice_bits.specs.Bits.{word}
use Rattle.rice_bits.specs.Reader.{Takes}
use Rattle.aec_run.proofs.OneAfterLemmas.{found_one, no_one}
use Rattle.aec_run.proofs.one_after.has_one.Goals as goal

pub returns-in-Ok-take_fs : goal.returns-in-Ok-take_fs
returns-in-Ok-take_fs g c =
    let takes = subst (λ r. Takes r c.take.new.self (word c.args.few c.in-Ok.field-0)) c.new-reader.ensures c.in-Ok.ensures.ok.1 in
    found_one c.args.intake (g.I.Intake.left c.args.intake) (g.I.Intake.failed c.args.intake) c.args.few c.in-Ok.field-0 c.in-Ok-take_fs.field-0 c.take.new.self
    c.take_fs.new.self takes c.in-Ok-take_fs.ensures.ok

pub returns-in-Err-take_fs : goal.returns-in-Err-take_fs
returns-in-Err-take_fs g c =
    let takes = subst (λ r. Takes r c.take.new.self (word c.args.few c.in-Ok.field-0)) c.new-reader.ensures c.in-Ok.ensures.ok.1 in
    let stops = c.in-Err-take_fs.ensures.err takes.going in
    no_one c.args.intake (g.I.Intake.left c.args.intake) (g.I.Intake.failed c.args.intake) c.args.few g.I.Intake.failed c.in-Ok.field-0 stops.0 c.take.new.self
    c.take_fs.new.self c.in-Err-take_fs.fault c.stopped-in-Err-take_fs.result takes stops.1 c.stopped-in-Err-take_fs.ensures
