use Rattle.rice_fast.proofs.Words.{◌-◌, ◌/◌, ◌^◌, ◌∙◌, ap, arith, refl, replicate, zip2}
use Rattle.rice_fast.proofs.lemmas.{vectors.NearLanes.both_zeros, vectors.NearVectors.none_above, Rows.greatest_fits}
use Rattle.rice_fast.proofs.rows.sound_residuals.Goals as goal

pub splat-requires-2 : goal.splat-requires-2
splat-requires-2 g c = (let values = c.number_of_values.ensures in greatest_fits c.args.setting.now g.L.Lanes.bits c.requires.narrow (omega (arith, values.range)) values.value)

pub returns : goal.returns
returns g c =
    let a = c.args in
    let n = g.L.Lanes.COUNT in
    let values = c.number_of_values.ensures in
    let greatest = c.number_of_values.result - 1 in
    let most = c.MOST.ensures ∙ g.met.L.Lanes.most_is in
    let residuals = g.L.Lanes.numbers c.join_parts-residuals.result in
    let high = g.L.Lanes.numbers c.above-high.result in
    let large = g.L.Lanes.numbers c.above-large.result in
    let none = both_zeros n high large (g.met.L.Lanes.len c.above-high.result) (g.met.L.Lanes.len c.above-large.result) c.or.ensures (c.if-not-is_zero.ensures refl) in
    let small = none_above n ((2 ^ g.L.Lanes.bits - 1) / 2 ^ a.k) (g.L.Lanes.numbers a.highs) high
    (c.above-high.ensures ∙ ap (λ ms. zip2 (λ x y. x - y) (g.L.Lanes.numbers a.highs) ms) (c.splat.ensures ∙ ap (λ m. replicate n (m / 2 ^ a.k)) most)) (g.met.L.Lanes.len a.highs) none.0 in
    let sound = none_above n greatest residuals large (c.above-large.ensures ∙ ap (zip2 (λ d b. d - b) residuals) c.splat-2.ensures) (g.met.L.Lanes.len c.join_parts-residuals.result) none.1 in
    (c.join_parts-residuals.ensures small, λ i d lt. (let x = sound i d lt in omega (arith, x, values.value, values.range)))
