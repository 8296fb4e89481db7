use Rattle.std.proofs.Common.{◌≡◌, ◌-◌, ◌≤◌, length}
use Rattle.rice_fast.proofs.lemmas.encode.ResidualsOfBytes.{RowsRead}
use Rattle.rice_fast.proofs.encode.residuals_of_bytes.residuals_in_lanes.Given as goal

abbrev pub invariant-loop-at : goal.invariant-loop-at
invariant-loop-at g l = record {
  len : length l.residuals ≡ l.count;
  most : l.at ≤ l.count;
  rows : RowsRead l.setting g.L.Lanes.COUNT l.before l.at l.bytes (g.L.Lanes.numbers l.earlier) (g.L.Lanes.numbers l.seen) l.residuals;
}

abbrev pub decreases-loop-at : goal.decreases-loop-at
decreases-loop-at g l = l.count - l.at
