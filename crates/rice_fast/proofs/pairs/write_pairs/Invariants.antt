use Rattle.rice_fast.proofs.Words.{◌-◌, ◌*◌, ◌≡◌, ◌≤◌, ◌++◌, length, replicate, sum, take, pair_codes}
use Rattle.rice_fast.proofs.pairs.write_pairs.Given as goal

abbrev pub invariant-loop-row : goal.invariant-loop-row
invariant-loop-row l = record {
  pairs : pair_codes (take (16 * l.row) l.numbers) ≡ take (l.count - (l.count - 8 * l.row)) l.codes ++ replicate (8 * l.row - l.count) 0;
  total : l.all ≡ sum (take (16 * l.row) l.numbers);
  few : l.all ≤ 4080 * l.row;
  long : length l.numbers ≡ 80;
}
