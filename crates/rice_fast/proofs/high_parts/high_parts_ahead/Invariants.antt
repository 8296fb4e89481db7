use Rattle.rice_fast.proofs.Words.{◌≡◌, ◌-◌, ◌*◌, ◌≤◌, length, take, HighsAhead}
use Rattle.rice_fast.proofs.high_parts.high_parts_ahead.Given as goal

abbrev pub invariant-loop-row : goal.invariant-loop-row
invariant-loop-row l = record {
  places : length l.highs ≡ 80;
  short : l.len ≤ 56 * l.row;
  rows : HighsAhead l.fn.ahead l.fn.skip l.fn.omitted (take (l.fn.size - (l.fn.size - 16 * l.row)) l.highs) l.len;
}
