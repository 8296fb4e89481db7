use Rattle.rice_fast.proofs.Words.{◌≡◌, ◌+◌, ◌-◌, ◌%◌, ◌∙◌, arith, length, length-zip2, replicate, take_all, width, zip2}
use Rattle.rice_fast.proofs.lemmas.{vectors.LevelsSpelledInByteLanes.bytes-spelled, vectors.LevelsSpelledInByteLanes.one_byte, LaneLaws.lanes_written}
use Rattle.rice_fast.proofs.lanes.bytes.BytesSampleLanes.write_bytes.Goals as goal

pub returns-clause-spelled : goal.returns-clause-spelled
returns-clause-spelled c =
    let s = c.args.setting.now in
    let levels = c.args.self in
    let wide = one_byte s c.requires.bits.most in
    let words = zip2 (λ a b. (a + (256 - b)) % 256) levels.lanes (replicate 16 c.offset.result) in
    let len : length words ≡ 16 = length-zip2 (λ a b. (a + (256 - b)) % 256) levels.lanes (replicate 16 c.offset.result) levels.len ∙ levels.len in
    lanes_written 16 (width s) c.args.bytes.now words wide (omega arith) len (omega (arith, c.requires.room))
    (take_all 16 words (omega (arith, len)) ∙ bytes-spelled s 16 c.offset.result levels.lanes
    (record { legal = c.offset.ensures.legal; wide = wide; offset_is = c.offset.ensures.value; len = levels.len; levels_are = c.requires.legal }))
