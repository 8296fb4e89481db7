-- Each number below count has one rank from p, and each rank is that of one number.
use Rattle.std.proofs.Common.{◌≡◌, ℕ, zero, suc, ◌+◌, ◌-◌, ◌*◌, ◌/◌, ◌%◌, ◌<◌, min, max, nat_lt, nat_le, arith, ◌∙◌, if◌then◌else◌, ◌==◌}
use Rattle.std.{proofs.lemmas.Bool.Decides.nat_tests, proofs.lemmas.Grind.common_steps, specs.List.range_with_len, specs.Prelude.count_by, specs.Int.abs_diff}
use Rattle.rice_samples.specs.Residuals.{nearer, rank_below}

-- a rank is below the count too
pub rank_fits : (count p x : ℕ) → p < count → x < count → rank_below count p x < count
rank_fits count p x hp hx = grind (arith, nat_tests)

-- two numbers with the same rank from p are the same
pub rank_injective : (count p x y : ℕ) → p < count → x < count → y < count → rank_below count p x ≡ rank_below count p y → x ≡ y
rank_injective count p x y hp hx hy e = grind (arith, nat_tests)

-- the number with that rank
unfoldable pub number_with : ℕ → ℕ → ℕ → ℕ
number_with count p d =
    let t = min p (count - 1 - p) in
    if nat_le d (2 * t) then (if d % 2 == 0 then p + d / 2 else p - (d + 1) / 2) else if nat_le p t then d else count - 1 - d

-- this number has that rank, where the rank is below the count
pub rank_of_number : (count p d : ℕ) → p < count → d < count → rank_below count p (number_with count p d) ≡ d
unfolding number_with
rank_of_number count p d hp hd = grind (arith, nat_tests)

-- the numbers nearer to p than x, counted one by one
count_step : (p d a n : ℕ) → count_by (λ y. nat_lt (abs_diff p y) d) (range_with_len a n) ≡ min (a + n) (p + d) - max a (p + 1 - d)
count_step p d a zero = grind (arith, nat_tests)
count_step p d a (suc n) = grind (arith, common_steps, nat_lt, count_step p d (a + 1) n)

-- the definition by the overlap is the count
pub nearer_is_count : (count p x : ℕ) → count_by (λ y. nat_lt (abs_diff p y) (abs_diff p x)) (range_with_len 0 count) ≡ nearer count p x
nearer_is_count count p x = count_step p (abs_diff p x) 0 count ∙ (omega arith)
