use Rattle.rice_fast.proofs.Words.{◌≡◌, ◌+◌, ◌-◌, ◌∙◌, true, false, arith, get_or, map, rules, sym, value_at, value_count, values_at, pattern, later_residuals, later_patterns}
use Rattle.rice_fast.proofs.lemmas.{vectors.LevelsInLanes.greatest_fits, encode.ResidualsOfBytes.row_ranked}
use Rattle.rice_fast.proofs.encode.residuals_of_bytes.residuals_of_row.Goals as goal

pub returns-then-not-preprocess : goal.returns-then-not-preprocess
returns-then-not-preprocess g c = λ within legal.
    let s = c.args.setting.now in
    let b = get_or (g.L.Lanes.numbers c.args.earlier) (g.L.Lanes.COUNT - 1) 0 in
    let levels = g.L.Lanes.numbers c.args.levels in
    let e : s.preprocess ≡ false = search rules in
    let patterns : map (pattern s) (values_at s levels) ≡ later_residuals s (value_at s b) (values_at s levels) = sym (later_patterns s (value_at s b) (values_at s levels) e) in
    c.patterns_of_levels.ensures legal ∙ patterns

pub ranks-requires : goal.ranks-requires
ranks-requires g c =
    let values = c.number_of_values.ensures in
    let above : c.number_of_values.result - 1 + 1 ≡ value_count c.args.setting.now = omega (arith, values.value, values.range) in
    record { greatest = greatest_fits (c.number_of_values.result - 1) c.args.setting.now.bits g.L.Lanes.bits above c.requires }

pub returns : goal.returns
returns g c = λ within legal.
    let s = c.args.setting.now in
    let values = c.number_of_values.ensures in
    let above : c.number_of_values.result - 1 + 1 ≡ value_count s = omega (arith, values.value, values.range) in
    let e : s.preprocess ≡ true = search rules in
    row_ranked s (c.number_of_values.result - 1) g.L.Lanes.COUNT (get_or (g.L.Lanes.numbers c.args.earlier) (g.L.Lanes.COUNT - 1) 0) (g.L.Lanes.numbers c.args.levels)
    e above (g.met.L.Lanes.len c.args.levels) within legal c.before-2.ensures c.ranks.ensures
