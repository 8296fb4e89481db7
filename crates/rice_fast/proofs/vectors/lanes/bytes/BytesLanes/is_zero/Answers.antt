use Rattle.rice_fast.proofs.lemmas.vectors.OneVector.{none_set}
use Rattle.rice_fast.proofs.vectors.lanes.bytes.BytesLanes.is_zero.Goals as goal

pub returns : goal.returns
returns c = λ e. none_set 16 c.args.self.lanes c.args.self.len e
