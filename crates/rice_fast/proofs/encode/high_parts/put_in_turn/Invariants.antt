use Rattle.rice_fast.proofs.Words.{◌≤◌, slice_range, AddsSequences}
use Rattle.rice_fast.proofs.encode.high_parts.put_in_turn.Given as goal

abbrev pub invariant-loop-i : goal.invariant-loop-i
invariant-loop-i l = record { after : l.from ≤ l.i; adds : AddsSequences (slice_range l.numbers l.from l.i) l.fn.sink l.fn.fields l.sink l.fields l.fn.meter l.meter }
