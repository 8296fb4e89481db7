use Rattle.std.proofs.Common.{◌≡◌, ℕ, zero, suc, ◌-◌, ◌≤◌, ◌++◌, ◌∙◌, List, ap, arith, refl, take, take-take, replicate}
use Rattle.rice_fast.proofs.rows.placed.Goals as goal

-- where one is omitted
after_one : (o n count : ℕ) (xs : List ℕ) {row : List ℕ} → o ≤ 1 → (o ≡ 0 → ⊥) → count ≤ n → row ≡ take n (replicate 1 0 ++ xs) → take count row ≡ take count (replicate o 0 ++ xs)
after_one zero n count xs few some most is = absurd (some refl)
after_one (suc zero) n count xs few some most is = ap (take count) is ∙ take-take count n (replicate 1 0 ++ xs) most
after_one (suc (suc o)) n count xs few some most is = absurd (omega (arith, few))

pub returns : goal.returns
returns g c =
    c.first-2.ensures ∙ ap (λ row. row ++ replicate (g.L.Lanes.COUNT - c.args.count) 0)
    (after_one c.args.omitted g.L.Lanes.COUNT c.args.count (g.L.Lanes.numbers c.args.numbers) c.requires.omitted c.if-omitted-eq0.false c.requires.count c.moved_by_one.ensures)
