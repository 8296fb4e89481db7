use Rattle.rice_fast.proofs.Words.{◌≡◌, ◌∙◌, arith, common_steps, length, take_all, width}
use Rattle.rice_fast.proofs.lemmas.{vectors.HalfLanes.two_bytes, vectors.LevelsSpelledInByteLanes.lanes-spelled, LaneLaws.lanes_written}
use Rattle.rice_fast.proofs.lanes.halves.HalvesSampleLanes.write_bytes.Goals as goal

pub returns-clause-spelled : goal.returns-clause-spelled
returns-clause-spelled c =
    let s = c.args.setting.now in
    let bytes = c.byte_pairs.result in
    let wide = two_bytes s c.requires.bits.more c.requires.bits.most in
    let len : length bytes ≡ 16 = grind (arith, common_steps) in
    lanes_written 8 (width s) c.args.bytes.now bytes wide (omega arith) len (omega (arith, c.requires.room))
    (take_all 16 bytes (omega (arith, len)) ∙ (c.byte_pairs.ensures ∙ lanes-spelled s c.msb.result 2 8 c.offset.result c.args.self.lanes
    (record { legal = c.offset.ensures.legal; wide = wide; offset_is = c.offset.ensures.value; len = c.args.self.len; levels_are = c.requires.legal }) c.msb.ensures))
