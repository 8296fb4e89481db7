use Rattle.rice_samples.proofs.lemmas.predict.Ways.{way_lane}
use Rattle.rice_samples.proofs.predict.preprocessor.way.Goals as goal

pub returns : goal.returns
returns c = way_lane 32 c.args.d c.ranges.d.fits
