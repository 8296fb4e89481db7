use Rattle.rice_fast.proofs.Words.{◌≤◌, flat_map, slice_range, word, AddsBits}
use Rattle.rice_fast.proofs.encode.low_parts.put_in_turn.Given as goal

abbrev pub invariant-loop-i : goal.invariant-loop-i
invariant-loop-i l = record {
  after : l.from ≤ l.i;
  adds : AddsBits (flat_map (word l.width) (slice_range l.some l.from l.i)) l.fn.sink l.fn.fields l.sink l.fields l.fn.meter l.meter;
}
