use Rattle.std.proofs.Common.{refl}
use Rattle.rice_code.proofs.lemmas.encode.OpenSegments.{first_is_open}
use Rattle.rice_code.proofs.encode.open_segment.OpenSegment.new.Goals as goal

pub resume-requires : goal.resume-requires
resume-requires c = first_is_open c.args.setting _ c.block-block.ensures.legal refl
