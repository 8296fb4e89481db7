use Rattle.std.proofs.Common.{◌≡◌, ◌+◌, ◌-◌, ◌*◌, ◌++◌, length, drop}
use Rattle.rice_code.proofs.Words.{flat_map, sum_by, fundamental_sequence, pair_codes}
use Rattle.rice_code.proofs.encode.fields.put_pairs.Given as goal

abbrev pub invariant-loop-i : goal.invariant-loop-i
invariant-loop-i l = record {
  same : l.sink ++ flat_map fundamental_sequence (pair_codes (drop (2 * l.i) l.block)) ≡ l.fn.sink ++ flat_map fundamental_sequence (pair_codes l.block);
  len : length l.sink + sum_by (λ g. g + 1) (pair_codes (drop (2 * l.i) l.block)) ≡ length l.fn.sink + sum_by (λ g. g + 1) (pair_codes l.block);
  steps : l.meter + (length l.block - 2 * l.i) + sum_by (λ g. g + 1) (pair_codes (drop (2 * l.i) l.block)) ≡ l.fn.meter
      + length l.block + sum_by (λ g. g + 1) (pair_codes l.block);
}
