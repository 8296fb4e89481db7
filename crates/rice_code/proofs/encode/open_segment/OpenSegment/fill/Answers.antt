use Rattle.std.proofs.lemmas.Grind.{common_steps}
use Rattle.std.proofs.Common.{arith, ◌≡◌, ◌+◌, ◌-◌, ◌%◌, ◌∙◌, ap, length, refl, length-append}
use Rattle.rice_code.proofs.{lemmas.encode.OpenSegments.fill_room, lemmas.encode.OpenSegments.holds_any, Words.length-replicate, Words.blocks_left}
use Rattle.rice_code.proofs.encode.open_segment.OpenSegment.fill.Goals as goal

pub push_copies-requires : goal.push_copies-requires
push_copies-requires c = grind (arith, common_steps, fill_room, holds_any)

pub invariant_of-self : goal.invariant_of-self
invariant_of-self c = grind (arith, common_steps, fill_room, length-append, length-replicate)
