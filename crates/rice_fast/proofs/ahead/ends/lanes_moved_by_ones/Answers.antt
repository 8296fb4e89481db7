use Rattle.std.proofs.Common.{◌-◌, ◌*◌}
use Rattle.rice_fast.proofs.lemmas.ahead.EndsInLanes.{lanes-moved, places_are_ok}
use Rattle.rice_fast.proofs.ahead.ends.lanes_moved_by_ones.Goals as goal

pub swizzle : goal.swizzle
swizzle c = rw c.lane_places_moved_by_ones.ensures (places_are_ok (8 * c.args.place - c.args.zeros))

pub returns : goal.returns
returns c = rw c.lane_places_moved_by_ones.ensures (lanes-moved c.args.lanes (8 * c.args.place - c.args.zeros) c.requires.lanes)
