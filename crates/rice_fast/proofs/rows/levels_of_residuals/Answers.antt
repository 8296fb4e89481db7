use Rattle.rice_fast.proofs.Words.{◌≡◌, ◌+◌, ◌-◌, ◌%◌, ◌^◌, ◌<◌, ◌∙◌, ap, arith, map, refl, replicate, subst, sym, All, bit_and, zip2, pow_pos, value_count, values_at, pattern, ranks_below}
use Rattle.rice_fast.proofs.lemmas.{Residuals.patterns_alone, Residuals.patterns_turned, Residuals.ranks_alone, Rows.greatest_fits}
use Rattle.rice_fast.proofs.rows.levels_of_residuals.Goals as goal

pub in_turn-requires-clause-greatest : goal.in_turn-requires-clause-greatest
in_turn-requires-clause-greatest g c = (let values = c.number_of_values.ensures in greatest_fits c.args.setting.now g.L.Lanes.bits c.requires.narrow (omega (arith, values.range)) values.value)

pub splat-zero-requires : goal.splat-zero-requires
splat-zero-requires g c =
    let origin = c.level_of_pattern.ensures.below in
    let greatest = greatest_fits c.args.setting.now g.L.Lanes.bits {values = value_count c.args.setting.now} c.requires.narrow (pow_pos c.args.setting.now.bits) refl in
    omega (arith, origin, greatest)

pub splat-requires : goal.splat-requires
splat-requires g c = (let values = c.number_of_values.ensures in greatest_fits c.args.setting.now g.L.Lanes.bits c.requires.narrow (omega (arith, values.range)) values.value)

pub returns-then-preprocess : goal.returns-then-preprocess
returns-then-preprocess g c =
    let a = c.args in
    let s = a.setting.now in
    let values = c.number_of_values.ensures in
    let levels = g.L.Lanes.numbers c.in_turn.result in
    let count : c.number_of_values.result - 1 + 1 ≡ value_count s = omega (arith, values.value, values.range) in
    record {
      legal = λ i d lt. (let x = c.in_turn.ensures.fit i d lt in omega (arith, x, count));
      are = ranks_alone s a.before levels (sym c.preprocess.ensures ∙ c.if-preprocess.true) ∙ (ap (λ n. ranks_below n a.before levels) (sym count) ∙ c.in_turn.ensures.ranks);
    }

pub returns : goal.returns
returns g c =
    let a = c.args in
    let s = a.setting.now in
    let n = g.L.Lanes.COUNT in
    let values = c.number_of_values.ensures in
    let bits = c.bits-bits.ensures in
    let vs = g.L.Lanes.numbers a.residuals in
    let levels = g.L.Lanes.numbers c.and.result in
    let origin = c.level_of_pattern.ensures in
    let turned = patterns_turned s (omega (arith, bits.value, bits.range)) c.requires.narrow (omega (arith, bits.value, bits.range)) origin.below origin.pattern (omega (arith, values.value)) n vs
    (g.met.L.Lanes.len a.residuals) c.requires.sound in
    let is : levels ≡ zip2 bit_and (zip2 (λ x y. (x + y) % 2 ^ g.L.Lanes.bits) vs (replicate n c.level_of_pattern.result)) (replicate n (c.number_of_values.result - 1)) =
    c.and.ensures ∙ (λ j. zip2 bit_and ((c.plus.ensures ∙ ap (zip2 (λ x y. (x + y) % 2 ^ g.L.Lanes.bits) vs) c.splat-zero.ensures) j) (c.splat.ensures j)) in
    record {
      legal = subst (All (λ l. l < value_count s)) (sym is) turned.legal;
      are = patterns_alone s a.before levels (sym c.preprocess.ensures ∙ c.if-preprocess.false) ∙ (ap (λ ls. map (pattern s) (values_at s ls)) is ∙ turned.patterns);
    }
