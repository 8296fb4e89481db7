use Rattle.std.proofs.Common.{◌+◌, ◌≡◌, ◌^◌, ◌<◌, ◌≤◌, [], take}
use Rattle.rice_code.proofs.Words.{word, Row}
use Rattle.rice_code.proofs.decode.rows_of_fields.read_words.Given as goal

abbrev pub invariant-loop-done : goal.invariant-loop-done
invariant-loop-done g l = record {
  row : Row (word l.width) (λ v. v < 2 ^ l.width) l.fn.reader l.reader l.done [] (take l.done l.words);
  steps : l.meter + l.fn.reader.taken ≡ l.fn.meter + l.reader.taken;
  limit : l.reader.taken ≤ 2 ^ 52;
}
