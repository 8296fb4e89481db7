use Rattle.std.proofs.Common.{◌≡◌, ◌*◌, ◌/◌, ◌^◌, ◌≤◌, take, sum_by}
use Rattle.rice_fast.proofs.encode.sums.sum_of.Given as goal

abbrev pub invariant-loop-i : goal.invariant-loop-i
invariant-loop-i l = record { value : l.sum ≡ sum_by (λ d. d / 2 ^ 0) (take l.i l.items); few : l.sum ≤ l.i * 2 ^ 32 }
