use Rattle.std.proofs.Common.{◌∙◌}
use Rattle.rice_fast.proofs.lemmas.FirstLanes.{first_of_lanes}
use Rattle.rice_fast.proofs.lanes.bytes.BytesSampleLanes.first.Goals as goal

pub returns : goal.returns
returns c = c.of.ensures ∙ first_of_lanes 8 16 c.args.count c.args.self.lanes c.requires c.args.self.len c.args.self.fits
