use Rattle.std.proofs.Common.{◌≡◌, ◌+◌, ◌*◌, ◌^◌, ◌≤◌, take, sum_by}
use Rattle.rice_samples.specs.Pairs.{pair_codes}
use Rattle.rice_samples.proofs.blocks.pair_codeword_lengths.pair_sum.Given as goal

abbrev pub invariant-loop-i : goal.invariant-loop-i
invariant-loop-i l = record { value : l.total ≡ sum_by (λ g. g + 1) (pair_codes (take (2 * l.i) l.items)); few : l.total ≤ l.i * 2 ^ 67 }
