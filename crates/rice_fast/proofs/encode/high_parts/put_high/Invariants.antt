use Rattle.rice_fast.proofs.Words.{◌*◌, ◌≤◌, min, slice_range, AddsSequences}
use Rattle.rice_fast.proofs.encode.high_parts.put_high.Given as goal

abbrev pub invariant-loop-i : goal.invariant-loop-i
invariant-loop-i g l = record {
  after : 1 ≤ l.i;
  adds : AddsSequences (slice_range l.numbers l.from (min l.len (16 * l.i))) l.fn.sink l.fn.fields l.sink l.fields l.fn.meter l.meter;
}
