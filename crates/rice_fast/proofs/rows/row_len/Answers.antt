use Rattle.rice_fast.proofs.Words.{◌≡◌, arith}
use Rattle.std.proofs.Common.{ℕ, ◌+◌, ◌-◌, ◌*◌, ◌/◌, ◌%◌, ◌<◌, ◌≤◌}
use Rattle.std.proofs.lemmas.Nat.{div-add-mod'}
use Rattle.std.proofs.Math.Nat.{lt_of_mul-lt-mul_right, mul-le-mul_right}

-- from a multiple to a greater one it is as far as to the next
next_multiple : (c : ℕ) {n k : ℕ} → n % c ≡ 0 → k % c ≡ 0 → k < n → c ≤ n - k
next_multiple c {n} {k} e f lt =
    let more : k / c < n / c = lt_of_mul-lt-mul_right c (omega (arith, div-add-mod' n c, div-add-mod' k c, e, f, lt)) in
    let le : (k / c + 1) * c ≤ n / c * c = mul-le-mul_right c (omega (arith, more)) in
    omega (arith, le, div-add-mod' n c, div-add-mod' k c, e, f)
