use Rattle.std.proofs.Common.{◌≡◌}
use Rattle.rice_tests.proofs.coder.pending_samples.Given as goal

abbrev pub invariant-loop-waiting : goal.invariant-loop-waiting
invariant-loop-waiting g l = record { setting : l.coder.setting ≡ l.setting }
