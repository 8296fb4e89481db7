use Rattle.rice_fast.proofs.Words.{◌∙◌, ap, w64, to_z-of_z, level, value_at, value_of_level}
use Rattle.rice_fast.proofs.encode.coder.level_of_sample.Goals as goal

pub returns-clause-value : goal.returns-clause-value
returns-clause-value c =
    let s = c.args.setting.now in
    let x = c.args.x in
    let same = to_z-of_z w64 x c.ranges.x in
    ap (value_at s) (c.level.ensures.value ∙ ap (level s) same) ∙ value_of_level s x c.requires
