use Rattle.std.proofs.Common.{◌∙◌, w32}
use Rattle.rice_fast.proofs.lemmas.vectors.OneVector.{least_is}
use Rattle.rice_fast.proofs.vectors.lanes.words.WordsLanes.least.Goals as goal

pub returns : goal.returns
returns c = c.of.ensures ∙ least_is w32 c.args.self.lanes c.args.other.lanes
