use Rattle.std.proofs.{lemmas.Grind.common_steps, Common.arith}
use Rattle.rice_code.proofs.lemmas.encode.SegmentBlocksInTurn.{length-pending_bits}
use Rattle.rice_code.proofs.encode.blocks.put_pending_run.Goals as goal

pub put_run-requires-clause-room : goal.put_run-requires-clause-room
put_run-requires-clause-room c = grind (arith, common_steps, length-pending_bits)
