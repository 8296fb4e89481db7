use Rattle.std.proofs.Common.{◌∙◌, w32}
use Rattle.rice_fast.proofs.lemmas.vectors.OneVector.{above_is}
use Rattle.rice_fast.proofs.vectors.lanes.words.WordsLanes.above.Goals as goal

pub returns : goal.returns
returns c = c.of.ensures ∙ above_is w32 c.args.self.lanes c.args.other.lanes c.args.self.fits c.args.other.fits
