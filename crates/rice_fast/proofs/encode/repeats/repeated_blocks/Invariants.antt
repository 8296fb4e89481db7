use Rattle.std.proofs.Common.{◌≡◌, ◌-◌, ◌*◌, ◌≤◌, replicate, take}
use Rattle.rice_samples.specs.{Parameters.value_at, Spelling.spellings}
use Rattle.rice_fast.proofs.encode.repeats.repeated_blocks.Given as goal

abbrev pub invariant-loop-rows : goal.invariant-loop-rows
invariant-loop-rows g l = record {
  most : l.rows ≤ l.most;
  repeated : take (l.len * l.rows) l.bytes ≡ spellings l.setting (replicate (g.L.Lanes.COUNT * l.rows) (value_at l.setting l.level));
}

abbrev pub decreases-loop-rows : goal.decreases-loop-rows
decreases-loop-rows g l = l.most - l.rows
