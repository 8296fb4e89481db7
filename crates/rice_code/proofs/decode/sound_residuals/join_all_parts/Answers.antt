use Rattle.std.proofs.{lemmas.Grind.common_steps, Common.arith}
use Rattle.rice_code.proofs.{lemmas.decode.JoinedResiduals.join-more, Words.take_all, Words.length-joined}
use Rattle.rice_code.proofs.decode.sound_residuals.join_all_parts.Goals as goal

pub overflow_add-lows : goal.overflow_add-lows
overflow_add-lows c = grind (arith, common_steps, join-more)

pub loop-i-preserved : goal.loop-i-preserved
loop-i-preserved c = grind (arith, common_steps, join-more)

pub returns : goal.returns
returns c = grind (arith, common_steps, length-joined, take_all)
