use Rattle.std.proofs.Common.{◌^◌}
use Rattle.rice_fast.proofs.lemmas.vectors.RankedLanes.{lanes_ranked}
use Rattle.rice_fast.proofs.vectors.rank_lanes.ranks.Goals as goal

pub returns : goal.returns
returns g c = λ before numbers.
    let ps = g.L.Lanes.numbers c.args.before in
    let xs = g.L.Lanes.numbers c.args.numbers in
    rw (
      c.plus-2.ensures,
      c.least.ensures,
      c.plus.ensures,
      c.least-reach.ensures,
      c.minus.ensures,
      c.splat-2.ensures,
      c.plus-nearer.ensures,
      c.above.ensures,
      c.splat.ensures,
      c.above-up.ensures,
      c.above-down.ensures,
    )
    (lanes_ranked (2 ^ g.L.Lanes.bits) c.args.greatest g.L.Lanes.COUNT ps xs c.requires.greatest (g.met.L.Lanes.len c.args.before) (g.met.L.Lanes.len c.args.numbers) before numbers)
