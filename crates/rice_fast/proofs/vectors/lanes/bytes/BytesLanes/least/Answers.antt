use Rattle.std.proofs.Common.{◌∙◌, w8}
use Rattle.rice_fast.proofs.lemmas.vectors.OneVector.{least_is}
use Rattle.rice_fast.proofs.vectors.lanes.bytes.BytesLanes.least.Goals as goal

pub returns : goal.returns
returns c = c.of.ensures ∙ least_is w8 c.args.self.lanes c.args.other.lanes
