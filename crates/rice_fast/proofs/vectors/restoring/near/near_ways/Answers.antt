use Rattle.rice_fast.proofs.lemmas.vectors.NearLanes.{lanes_of_ways}
use Rattle.rice_fast.proofs.vectors.restoring.near.near_ways.Goals as goal

pub returns : goal.returns
returns g c =
    rw (c.xor.ensures, c.half.ensures, c.minus.ensures, c.splat.ensures, c.and.ensures, c.splat-2.ensures)
    (lanes_of_ways g.L.Lanes.bits g.L.Lanes.COUNT (g.L.Lanes.numbers c.args.ranks) (g.met.L.Lanes.len c.args.ranks) (g.met.L.Lanes.fits c.args.ranks))
