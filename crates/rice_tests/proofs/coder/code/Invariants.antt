use Rattle.std.proofs.Common.{◌≡◌, ◌≤◌, length}
use Rattle.rice_tests.proofs.coder.code.Given as goal

abbrev pub invariant-loop-x : goal.invariant-loop-x
invariant-loop-x g l = record {
  setting : l.coder.setting ≡ l.setting;
  room : length l.sink ≤ 7;
}
