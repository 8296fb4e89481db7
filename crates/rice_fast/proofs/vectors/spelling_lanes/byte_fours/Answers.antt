use Rattle.rice_fast.proofs.Words.{refl, pick_l_whole}
use Rattle.rice_fast.proofs.vectors.spelling_lanes.byte_fours.Goals as goal

pub returns-then-turned : goal.returns-then-turned
returns-then-turned c = rw (c.if-turned.true, ← pick_l_whole 0 c.args.bytes 32 c.requires) refl

pub returns : goal.returns
returns c = rw (c.if-turned.false, ← pick_l_whole 0 c.args.bytes 32 c.requires) refl
