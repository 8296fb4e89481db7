use Rattle.rice_fast.proofs.Words.{◌≡◌, ℕ, ◌+◌, ◌-◌, ◌/◌, ◌^◌, ◌<◌, ◌≤◌, ◌∙◌, ap, arith, refl, replicate, sym, zip2, pow-le-pow_right, Parameters, value_count}
use Rattle.rice_fast.proofs.lemmas.{vectors.NearVectors.near_levels_are, vectors.NearVectors.none_above, vectors.NearLanes.both_zeros}
use Rattle.rice_fast.proofs.vectors.restoring.parts.near_levels_of_parts.Goals as goal

-- values of narrow samples fit the lanes
fit : (s : Parameters) (k x : ℕ) → s.bits ≤ k → x < value_count s → x < 2 ^ k
fit s k x h lt =
    let most : 2 ^ s.bits ≤ 2 ^ k = pow-le-pow_right {n = 2} (omega arith) {i = s.bits} {j = k} h in
    omega (arith, lt, most)

pub near_numbers-levels-requires : goal.near_numbers-levels-requires
near_numbers-levels-requires g c = fit c.args.setting.now g.L.Lanes.bits c.args.before c.requires.narrow c.requires.before

pub excess_over_near-far-requires-clause-before : goal.excess_over_near-far-requires-clause-before
excess_over_near-far-requires-clause-before g c = fit c.args.setting.now g.L.Lanes.bits c.args.before c.requires.narrow c.requires.before

pub excess_over_near-far-requires-clause-greatest : goal.excess_over_near-far-requires-clause-greatest
excess_over_near-far-requires-clause-greatest g c =
    let values = c.number_of_values.ensures in
    fit c.args.setting.now g.L.Lanes.bits (c.number_of_values.result - 1) c.requires.narrow (omega (arith, values.value, values.range))

pub returns : goal.returns
returns g c =
    let a = c.args in
    let n = g.L.Lanes.COUNT in
    let values = c.number_of_values.ensures in
    let greatest = c.number_of_values.result - 1 in
    let count : greatest + 1 ≡ value_count a.setting.now = omega (arith, values.value, values.range) in
    let most = c.MOST.ensures ∙ g.met.L.Lanes.most_is in
    let none = both_zeros n (g.L.Lanes.numbers c.excess_over_near-far.result) (g.L.Lanes.numbers c.above-over.result)
    (g.met.L.Lanes.len c.excess_over_near-far.result) (g.met.L.Lanes.len c.above-over.result) c.or.ensures (c.if-not-is_zero.ensures refl) in
    let small = none_above n ((2 ^ g.L.Lanes.bits - 1) / 2 ^ a.width) (g.L.Lanes.numbers a.highs) (g.L.Lanes.numbers c.above-over.result)
    (c.above-over.ensures ∙ ap (λ ms. zip2 (λ x y. x - y) (g.L.Lanes.numbers a.highs) ms) (c.splat.ensures ∙ ap (λ m. replicate n (m / 2 ^ a.width)) most)) (g.met.L.Lanes.len a.highs) none.1 in
    let low : a.before ≤ greatest = omega (arith, c.requires.before, count) in
    near_levels_are (2 ^ g.L.Lanes.bits) greatest count (g.met.L.Lanes.len c.join_parts-ranks.result ∙ sym (g.met.L.Lanes.len a.highs)) c.near_numbers-levels.ensures
    (c.join_parts-ranks.ensures small) (c.excess_over_near-far.ensures.fit low none.0) (c.excess_over_near-far.ensures.ranks low none.0)
