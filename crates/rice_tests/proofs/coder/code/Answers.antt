use Rattle.std.proofs.Common.{arith, ap, rules}
use Rattle.rice_code.specs.CoderSteps.{segment_steps}
use Rattle.rice_code.proofs.lemmas.encode.PushedCode.{segment_steps_few}
use Rattle.rice_tests.proofs.coder.code.Goals as goal

pub finish-requires : goal.finish-requires
finish-requires g c =
    let few = segment_steps_few c.args.setting c.block-block.ensures.legal in
    record { room = search rules; meter = omega (arith, few, ap segment_steps c.loop-x.invariant.setting) }
