use Rattle.std.proofs.Common.{true, false, sym, ◌∙◌}
use Rattle.rice_fast.proofs.lemmas.vectors.LevelsSpelledInByteLanes.{threes-spelled}
use Rattle.rice_fast.proofs.vectors.spelling_lanes.spelled_in_three_bytes.Goals as goal

pub returns-then-msb-clause-value : goal.returns-then-msb-clause-value
returns-then-msb-clause-value c =
    threes-spelled c.args.setting.now true c.offset.result c.args.levels.lanes
    (record { legal = c.offset.ensures.legal; wide = c.requires.three; offset_is = c.offset.ensures.value; len = c.args.levels.len; levels_are = c.requires.legal }) (sym c.if-msb.true ∙ c.msb.ensures)

pub returns-clause-value : goal.returns-clause-value
returns-clause-value c =
    threes-spelled c.args.setting.now false c.offset.result c.args.levels.lanes
    (record { legal = c.offset.ensures.legal; wide = c.requires.three; offset_is = c.offset.ensures.value; len = c.args.levels.len; levels_are = c.requires.legal })
    (sym c.if-msb.false ∙ c.msb.ensures)
