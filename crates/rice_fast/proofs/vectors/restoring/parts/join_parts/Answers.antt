use Rattle.std.proofs.Common.{◌∙◌, sym}
use Rattle.rice_fast.proofs.lemmas.vectors.NearLanes.{lanes_joined}
use Rattle.rice_fast.proofs.vectors.restoring.parts.join_parts.Goals as goal

pub returns : goal.returns
returns g c = λ small. rw (c.plus.ensures, c.times_power_of_two.ensures small)
    (lanes_joined g.L.Lanes.bits c.args.width (g.L.Lanes.numbers c.args.highs) (g.L.Lanes.numbers c.args.lows) c.requires.width
    (g.met.L.Lanes.len c.args.lows ∙ sym (g.met.L.Lanes.len c.args.highs)) small c.requires.lows)
