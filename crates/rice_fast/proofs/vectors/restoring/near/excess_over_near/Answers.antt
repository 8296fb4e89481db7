use Rattle.rice_fast.proofs.lemmas.vectors.NearLanes.{lanes_are_near}
use Rattle.rice_fast.proofs.vectors.restoring.near.excess_over_near.Goals as goal

pub returns-clause-fit : goal.returns-clause-fit
returns-clause-fit g c = λ h e. (lanes_are_near (g.L.Lanes.numbers c.args.ranks) (g.L.Lanes.numbers c.args.numbers)
    h c.requires.greatest g.met.L.Lanes.some (g.met.L.Lanes.len c.args.ranks) (g.met.L.Lanes.len c.before-before.result)
    c.requires.numbers c.splat.ensures c.before-before.ensures c.splat-2.ensures c.minus.ensures c.least-reach.ensures c.plus.ensures c.above.ensures e).0

pub returns-clause-ranks : goal.returns-clause-ranks
returns-clause-ranks g c = λ h e. (lanes_are_near (g.L.Lanes.numbers c.args.ranks) (g.L.Lanes.numbers c.args.numbers)
    h c.requires.greatest g.met.L.Lanes.some (g.met.L.Lanes.len c.args.ranks) (g.met.L.Lanes.len c.before-before.result)
    c.requires.numbers c.splat.ensures c.before-before.ensures c.splat-2.ensures c.minus.ensures c.least-reach.ensures c.plus.ensures c.above.ensures e).1
