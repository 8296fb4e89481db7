use Rattle.std.proofs.Common.{◌∙◌, w8}
use Rattle.rice_fast.proofs.lemmas.vectors.OneVector.{above_is}
use Rattle.rice_fast.proofs.vectors.lanes.bytes.BytesLanes.above.Goals as goal

pub returns : goal.returns
returns c = c.of.ensures ∙ above_is w8 c.args.self.lanes c.args.other.lanes c.args.self.fits c.args.other.fits
