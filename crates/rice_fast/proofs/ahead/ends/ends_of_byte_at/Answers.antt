use Rattle.rice_fast.proofs.lemmas.ahead.EndsInLanes.{row-lanes}
use Rattle.rice_fast.proofs.ahead.ends.ends_of_byte_at.Goals as goal

pub returns : goal.returns
returns c = row-lanes c.args.place c.args.byte c.row_of_byte_at.result c.row_of_byte_at.ensures
