use Rattle.std.proofs.Common.{◌+◌, ◌/◌}
use Rattle.rice_fast.proofs.lemmas.vectors.RanksForTurns.{lanes_topped}
use Rattle.rice_fast.proofs.vectors.restoring.turns.tops.Goals as goal

pub returns : goal.returns
returns g c =
    rw (c.above-2.ensures, c.splat.ensures, c.above.ensures, c.requires.halves, c.splat-2.ensures)
    (lanes_topped (λ d. (d + 1) / 2) c.args.greatest g.L.Lanes.COUNT (g.L.Lanes.numbers c.args.ranks) (g.met.L.Lanes.len c.args.ranks))
