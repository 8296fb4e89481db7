use Rattle.std.proofs.Common.{◌^◌}
use Rattle.rice_fast.proofs.lemmas.vectors.RanksForTurns.{lanes_halved}
use Rattle.rice_fast.proofs.vectors.restoring.turns.half_ranks.Goals as goal

pub returns : goal.returns
returns g c =
    rw (c.plus.ensures, c.half.ensures, c.and.ensures, c.splat.ensures)
    (lanes_halved (2 ^ g.L.Lanes.bits) g.L.Lanes.COUNT (g.L.Lanes.numbers c.args.ranks) g.met.L.Lanes.two_values (g.met.L.Lanes.len c.args.ranks) (g.met.L.Lanes.fits c.args.ranks))
