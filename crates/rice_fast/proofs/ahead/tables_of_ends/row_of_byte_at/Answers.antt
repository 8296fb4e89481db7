use Rattle.rice_fast.proofs.lemmas.ahead.EndsInLanes.{row_of}
use Rattle.rice_fast.proofs.ahead.tables_of_ends.row_of_byte_at.Goals as goal

pub returns : goal.returns
returns c = row_of c.args.place c.args.byte c.requires c.ranges.byte.fits
