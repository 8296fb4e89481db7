use Rattle.std.proofs.Common.{◌≡◌, ◌+◌, ◌-◌, ◌*◌, ◌/◌, ◌^◌, arith, ap, sym, ◌∙◌}
use Rattle.std.proofs.{Math.Nat.div-div-eq-div-mul, lemmas.Nat.pow-add}
use Rattle.rice_bits.proofs.bits.digits.front_digits.Goals as goal

pub returns : goal.returns
returns c =
    let n : 1 + (63 - c.args.count) ≡ 64 - c.args.count = omega arith in
    let power : 2 * 2 ^ (63 - c.args.count) ≡ 2 ^ (64 - c.args.count) = sym (pow-add 2 1 (63 - c.args.count)) ∙ ap (λ k. 2 ^ k) n in
    div-div-eq-div-mul c.args.value 2 (2 ^ (63 - c.args.count)) ∙ ap (λ k. c.args.value / k) power
