use Rattle.std.proofs.Common.{◌≡◌, ◌+◌, ◌-◌, ◌/◌, ◌^◌, ◌≤◌, ◌++◌, length, drop}
use Rattle.rice_code.proofs.Words.{flat_map, sum_by, fundamental_sequence}
use Rattle.rice_code.proofs.encode.fields.put_high.Given as goal

abbrev pub invariant-loop-i : goal.invariant-loop-i
invariant-loop-i l = record {
  after : l.from ≤ l.i;
  same : l.sink ++ flat_map (λ d. fundamental_sequence (d / 2 ^ l.k)) (drop l.i l.block) ≡ l.fn.sink ++ flat_map (λ d. fundamental_sequence (d / 2 ^ l.k)) (drop l.from l.block);
  len : length l.sink + (length l.block - l.i) + sum_by (λ d. d / 2 ^ l.k) (drop l.i l.block) ≡ length l.fn.sink + (length l.block - l.from)
      + sum_by (λ d. d / 2 ^ l.k) (drop l.from l.block);
  steps : l.meter + (length l.block - l.i) + (length l.block - l.i) + sum_by (λ d. d / 2 ^ l.k) (drop l.i l.block) ≡ l.fn.meter + (length l.block - l.from)
      + (length l.block - l.from) + sum_by (λ d. d / 2 ^ l.k) (drop l.from l.block);
}
