use Rattle.std.proofs.Common.{◌+◌, ◌≡◌, ◌^◌, ◌≤◌, take}
use Rattle.rice_code.specs.ReadSets.{CountRow}
use Rattle.rice_code.proofs.decode.rows_of_fields.read_sequences.Given as goal

abbrev pub invariant-loop-done : goal.invariant-loop-done
invariant-loop-done g l = record {
  row : CountRow l.fn.reader l.reader l.most l.small l.done (take l.done l.counts);
  steps : l.meter + l.fn.reader.taken ≡ l.fn.meter + l.reader.taken;
  limit : l.reader.taken ≤ 2 ^ 52;
}
