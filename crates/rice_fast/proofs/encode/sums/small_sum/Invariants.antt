use Rattle.rice_fast.proofs.Words.{◌≡◌, ◌*◌, ◌/◌, ◌^◌, take, length, sum_by, sum_l}
use Rattle.rice_fast.proofs.encode.sums.small_sum.Given as goal

abbrev pub invariant-loop-i : goal.invariant-loop-i
invariant-loop-i l = record { lanes : length l.sums ≡ 8; value : sum_l l.sums ≡ sum_by (λ d. d / 2 ^ 0) (take (8 * l.i) l.items) }
