use Rattle.std.proofs.Common.{◌≡◌, ℕ, zero, suc, ◌+◌, ◌-◌, ◌*◌, ◌/◌, ◌%◌, ◌^◌, ◌<◌, arith, ◌∙◌, mod-eq_of_lt}
use Rattle.std.{proofs.lemmas.Grind.common_steps, proofs.Math.Nat.div-eq_of_lt, proofs.lemmas.Nat.or_shifted, specs.Prelude.bit_or}
use Rattle.rice_bits.proofs.lemmas.bits.WordsAndNumbers.{shift_fits}
use Rattle.rice_bits.proofs.bits.digits.digits_moved_to_front.Goals as goal

-- a rotation of digits that stand alone
turned : (v c : ℕ) → c < 64 → v < 2 ^ c → bit_or (v / 2 ^ (c % 64)) (v * 2 ^ ((64 - c % 64) % 64) % 2 ^ 64) ≡ v * 2 ^ (64 - c)
turned v zero h f = grind (arith, common_steps)
turned v (suc n) h f =
    let count : suc n % 64 ≡ suc n = omega arith in
    let rest : (64 - suc n) % 64 ≡ 64 - suc n = omega arith in
    let fits : v * 2 ^ (64 - suc n) < 2 ^ 64 = shift_fits (suc n) (64 - suc n) v f (omega arith) in
    let plain : 0 + v * 2 ^ (64 - suc n) ≡ v * 2 ^ (64 - suc n) = omega arith in
    rw (count, rest, div-eq_of_lt f, mod-eq_of_lt fits) (or_shifted 0 64 (v * 2 ^ (64 - suc n)) fits ∙ plain)

pub returns : goal.returns
returns c = c.rotate_right.ensures ∙ turned c.args.value c.args.count c.requires.count c.requires.value
