use Rattle.rice_fast.proofs.Words.{◌*◌, WordsAhead}
use Rattle.rice_fast.proofs.copied_blocks.write_copied_ahead.Given as goal

abbrev pub invariant-loop-i : goal.invariant-loop-i
invariant-loop-i g l = record { words : WordsAhead l.ahead l.setting g.row.WIDTH (16 * l.i) l.bytes }
