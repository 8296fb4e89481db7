use Rattle.rice_fast.proofs.Words.{refl, pick_l_whole}
use Rattle.rice_fast.proofs.vectors.level_lanes.first_threes.Goals as goal

pub returns-then-msb : goal.returns-then-msb
returns-then-msb c = rw (c.if-msb.true, ← pick_l_whole 0 c.args.bytes 16 c.requires) refl

pub returns : goal.returns
returns c = rw (c.if-msb.false, ← pick_l_whole 0 c.args.bytes 16 c.requires) refl
