use Rattle.rice_fast.proofs.Words.{◌≡◌, ◌∙◌, arith, common_steps, length, sym, take_all, width}
use Rattle.rice_fast.proofs.lemmas.{LaneLaws.four_bytes, LaneLaws.lanes_written, vectors.LevelsSpelledInByteLanes.lanes-spelled}
use Rattle.rice_fast.proofs.lanes.words.WordsSampleLanes.write_bytes.Goals as goal

pub returns-then-width-eq3-clause-spelled : goal.returns-then-width-eq3-clause-spelled
returns-then-width-eq3-clause-spelled c =
    let s = c.args.setting.now in
    let spelled = c.spelled_in_three_bytes in
    lanes_written 8 (width s) c.args.bytes.now spelled.result (sym c.width.ensures.value ∙ c.if-width-eq3.true) (omega arith) spelled.ensures.len (omega (arith, c.requires.room)) spelled.ensures.value

pub returns-else-width-eq3-clause-spelled : goal.returns-else-width-eq3-clause-spelled
returns-else-width-eq3-clause-spelled c =
    let s = c.args.setting.now in
    let bytes = c.byte_fours.result in
    let four = four_bytes s c.requires.bits (λ three. c.if-width-eq3.false (c.width.ensures.value ∙ three)) in
    let len : length bytes ≡ 32 = grind (arith, common_steps) in
    lanes_written 8 (width s) c.args.bytes.now bytes four (omega arith) len (omega (arith, c.requires.room))
    (take_all 32 bytes (omega (arith, len)) ∙ (c.byte_fours.ensures ∙ lanes-spelled s c.msb.result 4 8 c.offset.result c.args.self.lanes
    (record { legal = c.offset.ensures.legal; wide = four; offset_is = c.offset.ensures.value; len = c.args.self.len; levels_are = c.requires.legal }) c.msb.ensures))
