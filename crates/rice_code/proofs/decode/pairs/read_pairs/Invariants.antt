use Rattle.std.proofs.Common.{◌+◌, ◌^◌, ◌≤◌, take}
use Rattle.rice_code.specs.ReadSets.{PairRow}
use Rattle.rice_code.proofs.decode.pairs.read_pairs.Given as goal

abbrev pub invariant-loop-done : goal.invariant-loop-done
invariant-loop-done g l = record {
  row : PairRow l.fn.reader l.reader l.done (take (l.done + l.done) l.out) l.fn.meter l.meter;
  limit : l.reader.taken ≤ 2 ^ 52;
}
