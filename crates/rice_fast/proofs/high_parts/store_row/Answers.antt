use Rattle.rice_fast.proofs.Words.{◌+◌, ◌*◌, arith, take_more_put_chunk}
use Rattle.rice_fast.proofs.high_parts.store_row.Goals as goal

pub returns-clause-value : goal.returns-clause-value
returns-clause-value c = take_more_put_chunk (16 * c.args.row) c.args.rows.now c.args.numbers (16 * (c.args.row + 1)) (omega (arith, c.requires.lanes)) c.requires.row
