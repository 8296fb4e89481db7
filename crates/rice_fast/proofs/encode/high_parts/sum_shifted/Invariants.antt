use Rattle.std.proofs.Common.{◌≡◌, ◌*◌, ◌/◌, ◌^◌, ◌≤◌, sum_by, take}
use Rattle.rice_fast.proofs.encode.high_parts.sum_shifted.Given as goal

abbrev pub invariant-loop-i : goal.invariant-loop-i
invariant-loop-i l = record { value : l.sum ≡ sum_by (λ m. m / 2 ^ l.k) (take (16 * l.i) l.numbers); few : l.sum ≤ l.i * 4080 }
