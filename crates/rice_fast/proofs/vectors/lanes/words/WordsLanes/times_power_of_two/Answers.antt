use Rattle.std.proofs.Common.{◌∙◌}
use Rattle.rice_fast.proofs.lemmas.vectors.OneVector.{raised}
use Rattle.rice_fast.proofs.vectors.lanes.words.WordsLanes.times_power_of_two.Goals as goal

pub returns : goal.returns
returns c = λ small. c.of.ensures ∙ raised 32 c.args.width 8 c.args.self.lanes c.args.self.len small
