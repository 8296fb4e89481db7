-- Large sums of numbers, which fall as the numbers lose their lowest digits, and small ones.
use Rattle.rice_fast.proofs.Words.{◌≡◌, ℕ, suc, ◌+◌, ◌-◌, ◌*◌, ◌/◌, ◌^◌, ◌<◌, ◌≤◌, List, [], ◌∷◌, length, ap, arith, inl, inr, cases_lt, All-head, All-tail, sum_by-cons, sum_by-le-sum_by, bit_or}
use Rattle.rice_fast.proofs.Words.{le_or_r, leading_length, or_lt, pow-add, pow_pos, div-le_self, mod-add-div, mod-lt, mul-le-mul_right, pow-le-pow_right, count_leading_zeros, cut_sum, sum_halves}
use Rattle.std.proofs.Common.{All}

-- no sum is above the whole
sum_within : (ds : List ℕ) (k : ℕ) → cut_sum ds k ≤ cut_sum ds 0
sum_within ds k = sum_by-le-sum_by (λ d. d / 2 ^ k) (λ d. d / 2 ^ 0) ds (λ d. let e : d / 2 ^ 0 ≡ d = omega arith in let h = div-le_self d (2 ^ k) in omega arith)

-- where the sum falls by more than so much at k too, it does at each place up to k
pub falls_more : (ds : List ℕ) (price k : ℕ) → ((j : ℕ) → j < k → cut_sum ds (j + 1) + price < cut_sum ds j) → cut_sum ds (k + 1) + price < cut_sum ds k
    → (j : ℕ) → j < k + 1 → cut_sum ds (j + 1) + price < cut_sum ds j
falls_more ds price k falls more j h = elim (cases_lt j k) [
  | inl lt ↦ falls j lt
  | inr le ↦ let e : k ≡ j = omega arith in let f = ap (cut_sum ds) e in let g = ap (λ n. cut_sum ds (n + 1)) e in omega (arith, f, g, more)
]

-- rounding takes less than one off each number
rounds_up : (d p : ℕ) → 0 < p → d + 1 ≤ (d / p + 1) * p
rounds_up d p some =
    let e = mod-add-div d p in
    let h = mod-lt d some in
    omega arith

sum_rest : (ds : List ℕ) (k : ℕ) → cut_sum ds 0 + length ds ≤ (cut_sum ds k + length ds) * 2 ^ k
sum_rest [] k = omega arith
sum_rest (d ∷ ds) k = rw (sum_by-cons (λ d. d / 2 ^ 0) d ds, sum_by-cons (λ d. d / 2 ^ k) d ds)
    (one d (cut_sum ds 0) (length ds) (d / 2 ^ k) (cut_sum ds k) (2 ^ k) (rounds_up d (2 ^ k) (pow_pos k)) (sum_rest ds k))
  where
    one : (d s n q t p : ℕ) → d + 1 ≤ (q + 1) * p → s + n ≤ (t + n) * p → d / 2 ^ 0 + s + suc n ≤ (q + t + suc n) * p
    one d s n q t p h l = omega (arith, h, l)

-- what is left of so large a sum
pub large_leaves : (ds : List ℕ) (price k : ℕ) → 0 < length ds → (length ds + 2 * price) * 2 ^ k ≤ cut_sum ds 0 → 2 * price < cut_sum ds k
large_leaves ds price k some large =
    elim (cases_lt (2 * price) (cut_sum ds k)) [
      | inl lt ↦ lt
      | inr le ↦
          let le2 : (cut_sum ds k + length ds) * 2 ^ k ≤ (length ds + 2 * price) * 2 ^ k = mul-le-mul_right (2 ^ k) (omega (arith, le)) in
          absurd (omega (arith, le2, large, some, sum_rest ds k))
    ]

-- so the next digit takes more than the price off
pub large_falls : (ds : List ℕ) (price k : ℕ) → 0 < length ds → (length ds + 2 * price) * 2 ^ k ≤ cut_sum ds 0 → cut_sum ds (k + 1) + price < cut_sum ds k
large_falls ds price k some large = omega (arith, large_leaves ds price k some large, sum_halves ds k)

small_total : (ds : List ℕ) → All (λ d. d < 2 ^ 26) ds → cut_sum ds 0 ≤ length ds * (2 ^ 26 - 1)
small_total [] h = omega arith
small_total (d ∷ ds) h =
    let first = All-head (λ d. d < 2 ^ 26) d ds h in
    let rest = small_total ds (All-tail (λ d. d < 2 ^ 26) d ds h) in
    omega (arith, first, rest, sum_by-cons (λ d. d / 2 ^ 0) d ds)

-- sums of small numbers fit 32 bits
pub small_sums : (ds : List ℕ) (k : ℕ) → length ds ≤ 64 → All (λ d. d < 2 ^ 26) ds → cut_sum ds k < 2 ^ 32
small_sums ds k few h = omega (arith, few, small_total ds h, sum_within ds k)

-- a number with more leading zeros than it has joined with another is so much smaller than that
pub zeros_below : (a b j : ℕ) → a < 2 ^ 64 → b < 2 ^ 64 → j < count_leading_zeros 64 a - count_leading_zeros 64 (bit_or b a) → a * 2 ^ j ≤ b
zeros_below a b j fits below h =
    let l = leading_length 64 a fits in
    let t = leading_length 64 (bit_or b a) (or_lt 64 b a below fits) in
    let p : 2 ^ (l.0 + j) ≡ 2 ^ l.0 * 2 ^ j = pow-add 2 l.0 j in
    let q : 2 ^ (l.0 + j + 1) ≡ 2 ^ (l.0 + j) * 2 = pow-add 2 (l.0 + j) 1 in
    let up : 2 ^ (l.0 + j + 1) ≤ 2 ^ t.0 = pow-le-pow_right {n = 2} (omega arith) {i = l.0 + j + 1} {j = t.0} (omega (arith, h, l.1, t.1)) in
    let le : a * 2 ^ j ≤ 2 ^ l.0 * 2 ^ j = mul-le-mul_right (2 ^ j) (omega (arith, l.1)) in
    let wide : 2 ^ l.0 ≤ 2 ^ (l.0 + j) = pow-le-pow_right {n = 2} (omega arith) {i = l.0} {j = l.0 + j} (omega arith) in
    elim (cases_lt b (2 ^ (l.0 + j))) [
      | inl lt ↦ let both = or_lt (l.0 + j) b a lt (omega (arith, wide, l.1)) in absurd (omega (arith, both, up, q, t.1))
      | inr ge ↦ omega (arith, le, p, ge)
    ]

-- joined with another, a number has no more leading zeros
pub zeros_joined : (a b : ℕ) → a < 2 ^ 64 → b < 2 ^ 64 → count_leading_zeros 64 (bit_or b a) ≤ count_leading_zeros 64 a
zeros_joined a b fits below =
    let l = leading_length 64 a fits in
    let t = leading_length 64 (bit_or b a) (or_lt 64 b a below fits) in
    let within = le_or_r b a in
    elim (cases_lt t.0 l.0) [
      | inl lt ↦
          let q : 2 ^ (t.0 + 1) ≡ 2 ^ t.0 * 2 = pow-add 2 t.0 1 in
          let up : 2 ^ (t.0 + 1) ≤ 2 ^ l.0 = pow-le-pow_right {n = 2} (omega arith) {i = t.0 + 1} {j = l.0} (omega (arith, lt)) in
          absurd (omega (arith, within, q, up, l.1, t.1))
      | inr ge ↦ omega (arith, ge, l.1, t.1)
    ]
