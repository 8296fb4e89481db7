use Rattle.std.proofs.Common.{◌^◌}
use Rattle.rice_fast.proofs.lemmas.vectors.SumsInLanes.{sums_are}
use Rattle.rice_fast.proofs.vectors.restoring.near.running_sums.Goals as goal

pub returns : goal.returns
returns g c =
    rw (
      c.plus-2.ensures,
      c.splat.ensures,
      c.plus.ensures,
      c.moved_by_eight.ensures,
      c.plus-eight.ensures,
      c.moved_by_four.ensures,
      c.plus-four.ensures,
      c.moved_by_two.ensures,
      c.plus-two.ensures,
      c.moved_by_one.ensures,
    )
    (sums_are (2 ^ g.L.Lanes.bits) c.args.p g.L.Lanes.COUNT (g.L.Lanes.numbers c.args.numbers) g.met.L.Lanes.most (g.met.L.Lanes.len c.args.numbers))
