use Rattle.rice_stream.proofs.Words.{subst, w64, to_z-of_z, StandsFor, standing_between}
use Rattle.rice_stream.proofs.takes.BlockCoderTakesBytes.resume.Goals as goal

pub returns : goal.returns
returns c bits steps = subst (λ p. StandsFor c.resume.result bits steps (standing_between c.args.setting c.args.start p bits steps)) (to_z-of_z w64 c.args.previous c.ranges.previous)
    (c.resume.ensures bits steps)
