use Rattle.std.proofs.Common.{arith}
use Rattle.rice_code.proofs.encode.open_segment.OpenSegment.is_whole.Goals as goal

pub returns : goal.returns
returns c = grind arith
