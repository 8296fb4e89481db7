use Rattle.rice_stream.proofs.Words.{arith, refl}
use Rattle.rice_stream.proofs.block_pass.BlockPass.write_blocks.Goals as goal

pub returns-clause-written : goal.returns-clause-written
returns-clause-written g c = record { blocks = 0; count_is = omega arith; within = omega arith; each = refl }
