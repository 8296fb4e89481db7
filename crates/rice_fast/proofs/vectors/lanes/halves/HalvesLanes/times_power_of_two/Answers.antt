use Rattle.std.proofs.Common.{◌∙◌}
use Rattle.rice_fast.proofs.lemmas.vectors.OneVector.{raised}
use Rattle.rice_fast.proofs.vectors.lanes.halves.HalvesLanes.times_power_of_two.Goals as goal

pub returns : goal.returns
returns c = λ small. c.of.ensures ∙ raised 16 c.args.width 8 c.args.self.lanes c.args.self.len small
