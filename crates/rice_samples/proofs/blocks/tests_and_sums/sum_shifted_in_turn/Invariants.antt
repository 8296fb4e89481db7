use Rattle.std.proofs.Common.{◌≡◌, ◌*◌, ◌/◌, ◌^◌, ◌-◌, ◌≤◌, take, sum_by}
use Rattle.rice_samples.proofs.blocks.tests_and_sums.sum_shifted_in_turn.Given as goal

abbrev pub invariant-loop-i : goal.invariant-loop-i
invariant-loop-i l = record { value : l.total ≡ sum_by (λ d. d / 2 ^ l.k) (take l.i l.items); few : l.total ≤ l.i * (2 ^ 32 - 1) }
