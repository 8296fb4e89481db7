use Rattle.rice_fast.proofs.Words.{◌≡◌, ◌+◌, ◌*◌, ◌++◌, length, drop, flat_map, fundamental_sequence, pair_codes}
use Rattle.std.specs.Prelude.{sum_by}
use Rattle.rice_fast.proofs.encode.pairs.put_pairs.Given as goal

abbrev pub invariant-loop-i : goal.invariant-loop-i
invariant-loop-i l = record {
  same : (l.sink ++ l.fields) ++ flat_map fundamental_sequence (pair_codes (drop (2 * l.i) l.items)) ≡ l.fn.sink ++ l.fn.fields ++ flat_map fundamental_sequence (pair_codes l.items);
  len : length l.sink + length l.fields + sum_by (λ g. g + 1) (pair_codes (drop (2 * l.i) l.items)) ≡ length l.fn.sink + length l.fn.fields + sum_by (λ g. g + 1) (pair_codes l.items);
  steps : l.meter + length l.fields + sum_by (λ g. g + 1) (pair_codes (drop (2 * l.i) l.items)) ≡ l.fn.meter + length l.fn.fields + sum_by (λ g. g + 1) (pair_codes l.items);
}
