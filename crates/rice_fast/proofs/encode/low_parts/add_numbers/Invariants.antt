use Rattle.rice_fast.proofs.Words.{◌++◌, ◌≤◌, drop, get_or, flat_map, slice_range, word, AddsBits}
use Rattle.rice_fast.proofs.encode.low_parts.add_numbers.Given as goal

abbrev pub invariant-loop-i : goal.invariant-loop-i
invariant-loop-i g l = record {
  after : 1 ≤ l.i;
  adds : AddsBits (drop l.skipped (word l.width (get_or l.numbers 0 0)) ++ flat_map (word l.width) (slice_range l.numbers 1 l.i)) l.fn.sink l.fn.fields l.sink l.fields l.fn.meter l.meter;
}
