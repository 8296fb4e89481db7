use Rattle.rice_fast.proofs.Words.{◌∙◌, arith, w8}
use Rattle.rice_fast.proofs.lemmas.{vectors.OneVector.each_fits, vectors.JoinedPartsInLanes.highs-raised}
use Rattle.rice_fast.proofs.vectors.lanes.bytes.BytesLanes.times_power_of_two.Goals as goal

pub returns : goal.returns
returns c = λ small. c.of.ensures ∙ highs-raised c.args.width c.args.self.lanes (omega (arith, c.requires)) c.args.self.len (each_fits w8 c.args.self.lanes c.args.self.fits) small
