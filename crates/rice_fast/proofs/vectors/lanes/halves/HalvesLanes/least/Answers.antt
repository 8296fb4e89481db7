use Rattle.std.proofs.Common.{◌∙◌, w16}
use Rattle.rice_fast.proofs.lemmas.vectors.OneVector.{least_is}
use Rattle.rice_fast.proofs.vectors.lanes.halves.HalvesLanes.least.Goals as goal

pub returns : goal.returns
returns c = c.of.ensures ∙ least_is w16 c.args.self.lanes c.args.other.lanes
