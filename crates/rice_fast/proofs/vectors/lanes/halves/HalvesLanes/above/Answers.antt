use Rattle.std.proofs.Common.{◌∙◌, w16}
use Rattle.rice_fast.proofs.lemmas.vectors.OneVector.{above_is}
use Rattle.rice_fast.proofs.vectors.lanes.halves.HalvesLanes.above.Goals as goal

pub returns : goal.returns
returns c = c.of.ensures ∙ above_is w16 c.args.self.lanes c.args.other.lanes c.args.self.fits c.args.other.fits
