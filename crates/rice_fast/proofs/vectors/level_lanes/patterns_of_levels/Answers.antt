use Rattle.rice_fast.proofs.Words.{◌≡◌, ◌+◌, ◌-◌, arith, value_count}
use Rattle.rice_fast.proofs.lemmas.vectors.LevelsInLanes.{greatest_fits, offset_fits, patterns_in_lanes}
use Rattle.rice_fast.proofs.vectors.level_lanes.patterns_of_levels.Goals as goal

pub splat-requires : goal.splat-requires
splat-requires g c = rw c.offset-offset.ensures.value (offset_fits c.args.setting.now g.L.Lanes.bits c.offset-offset.ensures.legal.bits_from c.requires)

pub splat-requires-2 : goal.splat-requires-2
splat-requires-2 g c =
    let s = c.args.setting.now in
    let values = c.number_of_values.ensures in
    let above : c.number_of_values.result - 1 + 1 ≡ value_count s = omega (arith, values.value, values.range) in
    greatest_fits (c.number_of_values.result - 1) s.bits g.L.Lanes.bits above c.requires

pub returns : goal.returns
returns g c = λ legal.
    let s = c.args.setting.now in
    let values = c.number_of_values.ensures in
    let above : c.number_of_values.result - 1 + 1 ≡ value_count s = omega (arith, values.value, values.range) in
    rw (c.and.ensures, c.minus.ensures, c.splat.ensures, c.splat-2.ensures)
    (patterns_in_lanes s g.L.Lanes.bits g.L.Lanes.COUNT c.offset-offset.result (c.number_of_values.result - 1) (g.L.Lanes.numbers c.args.levels) values.legal.bits_from c.requires
    c.offset-offset.ensures.value above (g.met.L.Lanes.len c.args.levels) legal)
