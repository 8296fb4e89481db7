-- Identifiers, splits and widths of samples of so many bits.
use Rattle.std.proofs.Common.{◌≡◌, ◌-◌, ◌*◌, ◌^◌, ◌<◌, ◌≤◌, ap, arith}
use Rattle.std.proofs.{lemmas.Bool.Decides.nat_tests, lemmas.Grind.common_steps, Math.Nat.pow-le-pow_right}
use Rattle.rice_samples.specs.Parameters.{Parameters, id_len, k_max, width}

-- at most 8 bits
pub byte_id : (s : Parameters) → s.bits ≤ 8 → id_len s ≡ 3
byte_id s most = grind (arith, nat_tests)

-- their splits
pub byte_splits : (s : Parameters) → s.bits ≤ 8 → k_max s < 8
byte_splits s most = (let k : k_max s ≡ 5 = ap (λ n. 2 ^ n - 3) (byte_id s most) in omega (arith, k))

-- sixteen of them in bytes
pub byte_row : (s : Parameters) → s.bits ≤ 8 → width s * 16 ≤ 32
byte_row s most = (let w : width s ≡ 1 = grind (arith, nat_tests) in omega (arith, w))

-- 9 to 16 bits
pub half_id : (s : Parameters) → 8 < s.bits → s.bits ≤ 16 → id_len s ≡ 4
half_id s more most = grind (arith, nat_tests)

-- their splits, and those of fewer bits
pub half_splits : (s : Parameters) → s.bits ≤ 16 → k_max s < 16
half_splits s most = grind (arith, common_steps, nat_tests, pow-le-pow_right)

-- eight of them in bytes
pub half_row : (s : Parameters) → s.bits ≤ 16 → width s * 8 ≤ 32
half_row s most = (let w : width s ≤ 2 = grind (arith, nat_tests) in omega (arith, w))

-- 17 to 32 bits
pub word_id : (s : Parameters) → 16 < s.bits → id_len s ≡ 5
word_id s more = grind (arith, nat_tests)

-- all splits
pub word_splits : (s : Parameters) → s.bits ≤ 32 → k_max s < 32
word_splits s most = grind (arith, common_steps, nat_tests, pow-le-pow_right)

-- eight of any samples in bytes
pub word_row : (s : Parameters) → s.bits ≤ 32 → width s * 8 ≤ 32
word_row s most = (let w : width s ≤ 4 = grind (arith, nat_tests) in omega (arith, w))
