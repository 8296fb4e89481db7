use Rattle.std.proofs.{Common.w64, lemmas.Int.to_z-of_z}
use Rattle.rice_code.proofs.encode.coder.Coder.push.Goals as goal

pub returns : goal.returns
returns c = (c.push_counted-count.result, rw (to_z-of_z w64 c.args.x c.ranges.x) at c.push_counted-count.ensures)
