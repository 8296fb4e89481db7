use Rattle.std.proofs.Common.{arith, ap, rules}
use Rattle.rice_code.specs.CoderSteps.{segment_steps}
use Rattle.rice_code.proofs.lemmas.encode.PushedCode.{segment_steps_few}
use Rattle.rice_tests.proofs.coder.push.Goals as goal

pub push-requires : goal.push-requires
push-requires g c =
    let few = segment_steps_few c.args.setting.now c.block-block.ensures.legal in
    record { sample = search rules; room = search rules; meter = omega (arith, few, ap segment_steps c.requires.setting) }
