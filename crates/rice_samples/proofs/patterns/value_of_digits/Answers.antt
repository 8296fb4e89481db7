use Rattle.std.proofs.Common.{◌≡◌, ◌+◌, ◌*◌, ◌-◌, ◌%◌, ◌^◌, arith, pos, ◌-ℤ◌, w64, to_z, of_z}
use Rattle.std.proofs.{lemmas.Nat.one_shl, Math.Pow.pow_mono, lemmas.Int.ints}
use Rattle.rice_samples.proofs.lemmas.bytes.SpellingLemmas.{signed_digits}
use Rattle.rice_samples.proofs.patterns.value_of_digits.Goals as goal

pub returns-then-signed-clause-digits : goal.returns-then-signed-clause-digits
returns-then-signed-clause-digits c =
    let bits = c.args.bits in
    let half = 2 ^ (bits - 1) in
    let level = (c.args.digits + half) % (2 * half) in
    let few = pow_mono {i = bits - 1} {j = 31} (omega arith) in
    let shifted = one_shl (bits - 1) 64 (omega arith) in
    let v : to_z w64 (of_z w64 (to_z w64 level -ℤ to_z w64 half)) ≡ pos level -ℤ pos half = omega (arith, ints, few) in
    rw (shifted, v) (signed_digits bits c.args.digits c.requires.bits.0 c.requires.digits)
