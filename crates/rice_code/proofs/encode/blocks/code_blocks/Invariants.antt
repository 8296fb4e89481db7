use Rattle.std.proofs.Common.{◌≡◌, ◌+◌, ◌-◌, ◌≤◌, ◌++◌, length, drop, take, false}
use Rattle.rice_code.proofs.Words.{sum_by, data_sets, bits_of_sets, held_blocks, reference_at, pending_zeros, least_looks, most_looks}
use Rattle.rice_code.proofs.encode.blocks.code_blocks.Given as goal

abbrev pub invariant-loop-i : goal.invariant-loop-i
invariant-loop-i l = record {
  inside : l.run ≤ l.i;
  same : l.sink ++ bits_of_sets l.setting (data_sets l.setting (l.start + (l.i - l.run)) false
      (pending_zeros l.setting (reference_at l.reference (l.i - l.run)) l.run ++ drop l.i (held_blocks l.setting l.reference l.count l.segment))) ≡ l.fn.sink
      ++ bits_of_sets l.setting (data_sets l.setting l.start false (held_blocks l.setting l.reference l.count l.segment));
  steps_from : l.fn.meter + length l.sink + sum_by (least_looks l.setting) (take l.i (held_blocks l.setting l.reference l.count l.segment)) ≤ l.meter + length l.fn.sink;
  steps_to : l.meter + length l.fn.sink ≤ l.fn.meter + length l.sink + sum_by (most_looks l.setting) (take l.i (held_blocks l.setting l.reference l.count l.segment));
}
