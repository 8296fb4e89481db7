use Rattle.std.proofs.Common.{◌≡◌, ◌*◌, ◌/◌, ◌^◌, take, length, sum_by}
use Rattle.std.specs.Simd.Lanes.{sum_l}
use Rattle.rice_samples.proofs.blocks.tests_and_sums.sum_shifted_in_lanes_of_64.Given as goal

abbrev pub invariant-loop-i : goal.invariant-loop-i
invariant-loop-i l = record { lanes : length l.total ≡ 8; value : sum_l l.total ≡ sum_by (λ d. d / 2 ^ l.k) (take (8 * l.i) l.items) }
