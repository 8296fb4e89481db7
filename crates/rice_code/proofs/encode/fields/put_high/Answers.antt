use Rattle.rice_code.proofs.Words.{common_steps, sum_by, drop_more}
use Rattle.std.proofs.Common.{arith, ◌/◌, ◌^◌, ap}
use Rattle.rice_code.proofs.encode.fields.put_high.Goals as goal

pub loop-i-preserved : goal.loop-i-preserved
loop-i-preserved c = grind (arith, common_steps, drop_more, common_steps)
