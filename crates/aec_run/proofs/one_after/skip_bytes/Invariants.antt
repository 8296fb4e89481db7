use Rattle.std.proofs.Common.{◌≡◌, ◌-◌, ◌≤◌, List, ℕ, Some, drop}
use Rattle.aec_run.proofs.one_after.skip_bytes.Given as goal

abbrev pub invariant-loop-left : goal.invariant-loop-left
invariant-loop-left g l = record {
  within : l.left ≤ l.fn.count;
  rest : (bytes : List ℕ) → g.I.Intake.left l.fn.intake ≡ Some bytes → g.I.Intake.left l.intake ≡ Some (drop (l.fn.count - l.left) bytes);
  failures : g.I.Intake.failed l.intake ≡ g.I.Intake.failed l.fn.intake;
}

abbrev pub decreases-loop-left : goal.decreases-loop-left
decreases-loop-left g l = l.left
