use Rattle.std.proofs.Common.{◌∙◌}
use Rattle.rice_fast.proofs.lemmas.FirstLanes.{first_of_lanes}
use Rattle.rice_fast.proofs.lanes.halves.HalvesSampleLanes.first.Goals as goal

pub returns : goal.returns
returns c = c.of.ensures ∙ first_of_lanes 16 8 c.args.count c.args.self.lanes c.requires c.args.self.len c.args.self.fits
