use Rattle.rice_fast.proofs.Words.{◌≡◌, ◌+◌, ◌*◌, ◌^◌, ◌≤◌, take, sum_by, pair_codes}
use Rattle.rice_fast.proofs.encode.pairs.pairs_bits.Given as goal

abbrev pub invariant-loop-i : goal.invariant-loop-i
invariant-loop-i l = record { value : l.total ≡ sum_by (λ g. g + 1) (pair_codes (take (2 * l.i) l.items)); few : l.total ≤ l.i * 2 ^ 25 }
