use Rattle.rice_fast.proofs.Words.{◌≡◌, ◌≤◌, ◌-◌, length, RowsAhead}
use Rattle.std.proofs.Common.{◌%◌, ◌<◌}
use Rattle.rice_fast.proofs.lemmas.Rows.{RowPlace}
use Rattle.rice_fast.proofs.rows.write_rows.Given as goal

abbrev pub invariant-loop-at : goal.invariant-loop-at
invariant-loop-at g l = record {
  within : l.at ≤ l.fn.size;
  begins : l.at < l.fn.size → l.at % g.L.Lanes.COUNT ≡ 0;
  long : length l.bytes ≡ 320;
  here : RowPlace l.fn.fields l.at l.omitted l.place;
  rows : RowsAhead l.fn.ahead l.fn.setting l.fn.fields l.fn.highs l.at l.last l.bytes;
}

abbrev pub decreases-loop-at : goal.decreases-loop-at
decreases-loop-at g l = l.fn.size - l.at
