use Rattle.rice_fast.proofs.Words.{◌^◌, ap, ◌∙◌, running_sums}
use Rattle.rice_fast.proofs.lemmas.vectors.NearVectors.{sums_of_ways}
use Rattle.rice_fast.proofs.vectors.restoring.near.near_numbers.Goals as goal

pub returns : goal.returns
returns g c =
    let m = 2 ^ g.L.Lanes.bits in
    c.running_sums.ensures ∙ (ap (running_sums m c.args.p) c.near_ways.ensures ∙ sums_of_ways m c.args.p (g.L.Lanes.numbers c.args.ranks))
