use Rattle.std.proofs.Common.{◌≡◌, ◌+◌, length, map}
use Rattle.rice_fast.proofs.lemmas.vectors.RestoredLevels.{AreRestored}
use Rattle.rice_fast.proofs.vectors.restoring.turns.write_selected.Given as goal

abbrev pub invariant-loop-i : goal.invariant-loop-i
invariant-loop-i g l = record {
  len : length l.numbers ≡ g.row.N;
  restored : AreRestored (l.greatest + 1) l.p l.i l.number (map g.L.Lanes.number l.numbers) (map g.L.Lanes.number l.ranks);
}
