use Rattle.rice_fast.proofs.Words.{◌≡◌, ℕ, zero, suc, ◌+◌, ◌-◌, ◌*◌, ◌%◌, ◌^◌, ◌<◌, ◌≤◌, ◌∙◌, ap, arith, inl, inr, bit_or, cases_lt, pow-add, count_leading_zeros}
use Rattle.std.proofs.Common.{mod-eq_of_lt}
use Rattle.rice_fast.proofs.lemmas.{encode.LargeSums.zeros_below, encode.LargeSums.zeros_joined, encode.Stops.zeros_above}
use Rattle.rice_fast.proofs.encode.stops.digits_above.Goals as goal

-- a number that is moved up by as many digits does not wrap
moved : (least digits sum : ℕ) → least ≤ 192 → sum ≤ 2 ^ 38 → ((j : ℕ) → j < digits → least * 2 ^ j ≤ sum) → least * 2 ^ digits % 2 ^ 64 ≡ least * 2 ^ digits
moved least zero sum few fits below = mod-eq_of_lt (omega arith)
moved least (suc digits) sum few fits below =
    let e : 2 ^ (digits + 1) ≡ 2 ^ digits * 2 = pow-add 2 digits 1 in
    let f : 2 ^ suc digits ≡ 2 ^ (digits + 1) = ap (λ n. 2 ^ n) (omega arith) in
    let twice : 2 ^ suc digits ≡ 2 ^ digits * 2 = f ∙ e in
    let g : least * 2 ^ suc digits ≡ (least * 2 ^ digits) * 2 = ap (λ p. least * p) twice ∙ omega arith in
    mod-eq_of_lt (omega (arith, g, fits, below digits (omega arith)))

-- as many digits fewer leave as much
enough : (least sum j : ℕ) → 1 ≤ least → least ≤ 192 → sum ≤ 2 ^ 38 → j < count_leading_zeros 64 least - count_leading_zeros 64 (bit_or sum least) → least * 2 ^ j ≤ sum
enough least sum j some few fits h = zeros_below least sum j (omega arith) (omega (arith, fits)) h

pub overflow_sub-digits : goal.overflow_sub-digits
overflow_sub-digits c = zeros_joined c.args.least c.args.sum (omega (arith, c.requires.least)) (omega (arith, c.requires.sum))

pub returns-then-sum-least-clause-above : goal.returns-then-sum-least-clause-above
returns-then-sum-least-clause-above c = λ j h. enough c.args.least c.args.sum j c.requires.least.0 c.requires.least.1 c.requires.sum h

pub returns-then-sum-least-clause-below : goal.returns-then-sum-least-clause-below
returns-then-sum-least-clause-below c =
    let r = c.requires in
    omega (arith, c.if-sum-least.true, moved c.args.least _ c.args.sum r.least.1 r.sum (λ j h. enough c.args.least c.args.sum j r.least.0 r.least.1 r.sum h))

pub returns-else-sum-least-clause-below : goal.returns-else-sum-least-clause-below
returns-else-sum-least-clause-below c = zeros_above c.args.least c.args.sum c.requires.least.0 (omega (arith, c.requires.least)) (omega (arith, c.requires.sum))

pub returns-else-sum-least-clause-above : goal.returns-else-sum-least-clause-above
returns-else-sum-least-clause-above c = λ j h.
    let r = c.requires in
    let digits = count_leading_zeros 64 c.args.least - count_leading_zeros 64 (bit_or c.args.sum c.args.least) in
    elim (cases_lt j digits) [
      | inl lt ↦ enough c.args.least c.args.sum j r.least.0 r.least.1 r.sum lt
      | inr le ↦
          let last : j ≡ digits = omega (arith, h, le) in
          let same = ap (λ n. c.args.least * 2 ^ n) last in
          omega (arith, same, c.if-sum-least.false, moved c.args.least digits c.args.sum r.least.1 r.sum (λ j h. enough c.args.least c.args.sum j r.least.0 r.least.1 r.sum h))
    ]
