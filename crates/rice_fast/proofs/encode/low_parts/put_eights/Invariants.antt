use Rattle.rice_fast.proofs.Words.{◌*◌, ◌≤◌, flat_map, slice_range, word, AddsBits}
use Rattle.rice_fast.proofs.encode.low_parts.put_eights.Given as goal

abbrev pub invariant-loop-i : goal.invariant-loop-i
invariant-loop-i g l = record {
  after : 1 ≤ l.i;
  adds : AddsBits (flat_map (word l.width) (slice_range l.items l.from (8 * l.i))) l.fn.sink l.fn.fields l.sink l.fields l.fn.meter l.meter;
}
