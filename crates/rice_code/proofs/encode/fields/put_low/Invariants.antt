use Rattle.std.proofs.Common.{◌≡◌, ◌+◌, ◌-◌, ◌*◌, ◌≤◌, ◌++◌, length, drop}
use Rattle.rice_code.proofs.Words.{flat_map, word}
use Rattle.rice_code.proofs.encode.fields.put_low.Given as goal

abbrev pub invariant-loop-i : goal.invariant-loop-i
invariant-loop-i l = record {
  after : l.from ≤ l.i;
  same : l.sink ++ flat_map (word l.width) (drop l.i l.block) ≡ l.fn.sink ++ flat_map (word l.width) (drop l.from l.block);
  len : length l.sink + (length l.block - l.i) * l.width ≡ length l.fn.sink + (length l.block - l.from) * l.width;
  steps : l.meter + (length l.block - l.i) * (l.width + 1) ≡ l.fn.meter + (length l.block - l.from) * (l.width + 1);
}
