-- The search for the best split, from the first place on at which the sum of the residuals is small.
use Rattle.rice_fast.proofs.Words.{◌≡◌, ℕ, zero, suc, ◌+◌, ◌-◌, ◌*◌, ◌/◌, ◌^◌, ◌<◌, ◌≤◌, Bool, ◌&&◌, List, []}
use Rattle.rice_fast.proofs.Words.{◌∷◌, ◌++◌, length, map, replicate, refl, ap, arith, sym, ◌∙◌, sum_by, true, false, ◌==◌, inl}
use Rattle.rice_fast.proofs.Words.{shr-shr, inr, min, subst, get_or, bit_or, list_all, cases_lt, nat_tests, length-map, map-append, All-nil, All-cons, sum_by-replicate, sum_by-append, sum_by-cons}
use Rattle.rice_fast.proofs.Words.{le_or_l, leading_length, or_lt, pow-add, pow_pos, div-lt_iff_lt-mul, div-mul-le_self, mul-le-mul_right, pow-le-pow_right, zero-div, count_leading_zeros, Parameters}
use Rattle.rice_fast.proofs.Words.{k_max, value_count, byte_id, half_id, word_id, cut_sum, sum_halves, with_zeros, IsFirstStop}
use Rattle.std.proofs.Common.{All, nat_lt}
use Rattle.rice_fast.proofs.lemmas.encode.LargeSums.{falls_more, large_falls, zeros_joined}

-- two numbers joined have as many digits as the longer one, and so the second fits as many
pub zeros_above : (a b : ℕ) → 1 ≤ a → a < 2 ^ 64 → b < 2 ^ 64 → b < a * 2 ^ (count_leading_zeros 64 a - count_leading_zeros 64 (bit_or b a) + 1)
zeros_above a b some fits below =
    let l = leading_length 64 a fits in
    let t = leading_length 64 (bit_or b a) (or_lt 64 b a below fits) in
    let digits = count_leading_zeros 64 a - count_leading_zeros 64 (bit_or b a) in
    let joined = zeros_joined a b fits below in
    let len : t.0 ≡ l.0 + digits = omega (arith, l.1, t.1, joined) in
    let all : 2 ^ t.0 ≡ 2 ^ l.0 * 2 ^ digits = ap (λ n. 2 ^ n) len ∙ pow-add 2 l.0 digits in
    let twice : 2 ^ (digits + 1) ≡ 2 ^ digits * 2 = pow-add 2 digits 1 in
    let le : 2 ^ l.0 * 2 ^ digits ≤ (2 * a) * 2 ^ digits = mul-le-mul_right (2 ^ digits) (even l.0 a some l.2 l.3) in
    let more : a * 2 ^ (digits + 1) ≡ (2 * a) * 2 ^ digits = ap (λ p. a * p) twice ∙ omega arith in
    omega (arith, le_or_l b a, t.1, all, le, more)
  where
    even : (l a : ℕ) → 1 ≤ a → a < 2 ^ l → 2 ^ l ≤ 2 * a + 1 → 2 ^ l ≤ 2 * a
    even zero a some lt h = absurd (omega (arith, some, lt))
    even (suc l) a some lt h = let e : 2 ^ (l + 1) ≡ 2 ^ l * 2 = pow-add 2 l 1 in let f : 2 ^ suc l ≡ 2 ^ (l + 1) = ap (λ n. 2 ^ n) (omega arith) in omega (arith, e, f, h)

-- numbers without k digits, and without j more
cut_again : (k j : ℕ) (ds : List ℕ) → map (λ m. m / 2 ^ j) (map (λ d. d / 2 ^ k) ds) ≡ map (λ d. d / 2 ^ (k + j)) ds
cut_again k j [] = refl
cut_again k j (d ∷ ds) = λ i. shr-shr d k j i ∷ cut_again k j ds i

-- zeros without digits are zeros
pub zeros_cut : (j n : ℕ) → map (λ m. m / 2 ^ j) (replicate n 0) ≡ replicate n 0
zeros_cut j zero = refl
zeros_cut j (suc n) = λ i. zero-div (2 ^ j) i ∷ zeros_cut j n i

-- high parts without more digits
pub high_cut : (k j : ℕ) (ds : List ℕ) → map (λ m. m / 2 ^ j) (with_zeros (map (λ d. d / 2 ^ k) ds)) ≡ with_zeros (map (λ d. d / 2 ^ (k + j)) ds)
high_cut k j ds =
    let n : 64 - length (map (λ d. d / 2 ^ k) ds) ≡ 64 - length (map (λ d. d / 2 ^ (k + j)) ds) =
    omega (arith, length-map ds (λ d. d / 2 ^ k), length-map ds (λ d. d / 2 ^ (k + j))) in
    map-append (λ m. m / 2 ^ j) (map (λ d. d / 2 ^ k) ds) (replicate (64 - length (map (λ d. d / 2 ^ k) ds)) 0)
    ∙ (λ i. cut_again k j ds i ++ (zeros_cut j (64 - length (map (λ d. d / 2 ^ k) ds)) ∙ ap (λ z. replicate z 0) n) i)

-- and their sum
pub high_sum : (k j : ℕ) (ds : List ℕ) → sum_by (λ m. m / 2 ^ j) (with_zeros (map (λ d. d / 2 ^ k) ds)) ≡ cut_sum ds (k + j)
high_sum k j ds =
    let n = 64 - length (map (λ d. d / 2 ^ k) ds) in
    let none : n * (0 / 2 ^ j) ≡ 0 = ap (λ m. n * m) (zero-div (2 ^ j)) ∙ omega arith in
    sum_by-append (λ m. m / 2 ^ j) (map (λ d. d / 2 ^ k) ds) (replicate n 0)
    ∙ ((λ i. all ds i + (sum_by-replicate (λ m. m / 2 ^ j) n 0 ∙ none) i) ∙ omega arith)
  where
    all : (ds : List ℕ) → sum_by (λ m. m / 2 ^ j) (map (λ d. d / 2 ^ k) ds) ≡ cut_sum ds (k + j)
    all [] = refl
    all (d ∷ ds) = sum_by-cons (λ m. m / 2 ^ j) (d / 2 ^ k) (map (λ d. d / 2 ^ k) ds)
        ∙ ((λ i. shr-shr d k j i + all ds i) ∙ sym (sum_by-cons (λ d. d / 2 ^ (k + j)) d ds))

-- the sum without k digits, times 2^k, is at most the whole
pub sum_times : (ds : List ℕ) (k : ℕ) → cut_sum ds k * 2 ^ k ≤ cut_sum ds 0
sum_times [] k = omega arith
sum_times (d ∷ ds) k = rw (sum_by-cons (λ d. d / 2 ^ 0) d ds, sum_by-cons (λ d. d / 2 ^ k) d ds) (one d (cut_sum ds 0) (d / 2 ^ k) (cut_sum ds k) (2 ^ k) (div-mul-le_self d (2 ^ k)) (sum_times ds k))
  where
    one : (d s q t p : ℕ) → q * p ≤ d → t * p ≤ s → (q + t) * p ≤ d / 2 ^ 0 + s
    one d s q t p h l = omega (arith, h, l)

-- so where the whole is below a number times 2^k, it is below this number
pub sum_below : (ds : List ℕ) (k least : ℕ) → cut_sum ds 0 < least * 2 ^ k → cut_sum ds k < least
sum_below ds k least h = elim (cases_lt (cut_sum ds k) least) [
  | inl lt ↦ lt
  | inr le ↦ let le2 : least * 2 ^ k ≤ cut_sum ds k * 2 ^ k = mul-le-mul_right (2 ^ k) le in absurd (omega (arith, h, le2, sum_times ds k))
]

-- and so is each number without k digits
pub each_below : (ds : List ℕ) (k least : ℕ) → cut_sum ds k < least → All (λ d. d / 2 ^ k < least) ds
each_below [] k least h = All-nil (λ d. d / 2 ^ k < least)
each_below (d ∷ ds) k least h =
    let e = sum_by-cons (λ d. d / 2 ^ k) d ds in
    All-cons (λ d. d / 2 ^ k < least) d ds (omega (arith, e, h)) (each_below ds k least (omega (arith, e, h)))

-- The search goes on after `first`, below which each digit takes more than the price off.
pub record BeginsAt (ds : List ℕ) (limit price first : ℕ) : Type 0 where
  pub within : first ≤ limit
  pub falls : (j : ℕ) → j < first → cut_sum ds (j + 1) + price < cut_sum ds j
  pub small : first < limit → cut_sum ds first < length ds + 2 * price

-- the first place, from which the search goes on
pub begins : (ds : List ℕ) {limit price digits first whole : ℕ} → 8 ≤ length ds → first ≡ min digits limit → whole ≡ cut_sum ds 0
    → whole < (length ds + 2 * price) * 2 ^ digits → ((j : ℕ) → j < digits → (length ds + 2 * price) * 2 ^ j ≤ whole) → BeginsAt ds limit price first
begins ds {limit} {price} {digits} {first} {whole} some e is below above = record {
  within = omega (arith, e);
  falls = λ j h. large_falls ds price j (omega (arith, some)) (omega (arith, is, above j (omega (arith, e, h))));
  small = λ h. let at : digits ≡ first = omega (arith, e, h) in
      sum_below ds first (length ds + 2 * price) (subst (λ k. cut_sum ds 0 < (length ds + 2 * price) * 2 ^ k) at (omega (arith, is, below)));
}

-- there all numbers without these digits are bytes
pub begins_in_bytes : (ds : List ℕ) {limit price first : ℕ} → length ds ≤ 64 → price ≤ 64 → All (λ d. d / 2 ^ limit < 2 ^ 3) ds → BeginsAt ds limit price first → All (λ d. d / 2 ^ first < 2 ^ 8) ds
begins_in_bytes ds {limit} {price} {first} few cheap narrow h = elim (cases_lt first limit) [
  | inl lt ↦ each_below ds first (2 ^ 8) (omega (arith, h.small lt, few, cheap))
  | inr le ↦
      let at : limit ≡ first = omega (arith, le, h.within) in
      λ i d lt. let one = narrow i d lt in let same = ap (λ k. get_or ds i d / 2 ^ k) at in omega (arith, one, same)
]

-- where it goes on there, each digit so far takes enough off
goes_on : (ds : List ℕ) {limit price first : ℕ} → BeginsAt ds limit price first → first < limit → cut_sum ds (first + 1) + price < cut_sum ds first
    → (j : ℕ) → j < first + 1 → cut_sum ds (j + 1) + price < cut_sum ds j
goes_on ds {limit} {price} {first} h lt more = falls_more ds price first h.falls more

-- it stops after one digit more
pub stops_after_one : (ds : List ℕ) {limit price first sum : ℕ} → BeginsAt ds limit price first → first < limit → cut_sum ds (first + 1) + price < cut_sum ds first → sum ≡ cut_sum ds (first + 1)
    → (first + 1 < limit → cut_sum ds (first + 1) ≤ cut_sum ds (first + 2) + price) → IsFirstStop ds limit price (first + 1) sum
stops_after_one ds {limit} {price} {first} h lt more value stops = record {
  limit = omega (arith, lt);
  value = value;
  falls = goes_on ds h lt more;
  stops = λ within. let e : first + 1 + 1 ≡ first + 2 = omega arith in subst (λ k. cut_sum ds (first + 1) ≤ cut_sum ds k + price) (sym e) (stops within);
}

-- or after two
pub stops_after_two : (ds : List ℕ) {limit price first sum : ℕ} → length ds ≤ 2 * price → BeginsAt ds limit price first → first + 1 < limit → cut_sum ds (first + 1) + price < cut_sum ds first
    → cut_sum ds (first + 2) + price < cut_sum ds (first + 1) → sum ≡ cut_sum ds (first + 2) → IsFirstStop ds limit price (first + 2) sum
stops_after_two ds {limit} {price} {first} few h lt more again value =
    let e : first + 1 + 1 ≡ first + 2 = omega arith in
    let once = goes_on ds h (omega (arith, lt)) more in
    let falls = falls_more ds price (first + 1) once (subst (λ k. cut_sum ds k + price < cut_sum ds (first + 1)) (sym e) again) in
    record {
      limit = omega (arith, lt);
      value = value;
      falls = λ j below. falls j (omega (arith, below));
      stops = λ within. omega (arith, h.small (omega (arith, lt)), few, sum_halves ds first, sum_halves ds (first + 1), ap (cut_sum ds) e);
    }

-- the sums of bytes, as those of the residuals
pub record Summed (ds : List ℕ) (k a b c : ℕ) : Type 0 where
  pub first : a ≡ cut_sum ds k
  pub next : b ≡ cut_sum ds (k + 1)
  pub last : c ≡ cut_sum ds (k + 2)

-- what a sum of bytes tells of them,
pub high_summed : (ds : List ℕ) (k : ℕ) {high : List ℕ} {sum : ℕ} → high ≡ with_zeros (map (λ d. d / 2 ^ k) ds) → sum ≡ sum_by (λ m. m / 2 ^ 0) high → sum ≡ cut_sum ds k
high_summed ds k e a = let here : k + 0 ≡ k = omega arith in a ∙ (ap (sum_by (λ m. m / 2 ^ 0)) e ∙ (high_sum k 0 ds ∙ ap (cut_sum ds) here))

-- and what all three tell
pub summed : (ds : List ℕ) (k : ℕ) {high : List ℕ} {sum next last : ℕ} → high ≡ with_zeros (map (λ d. d / 2 ^ k) ds) → sum ≡ sum_by (λ m. m / 2 ^ 0) high → next ≡ sum_by (λ m. m / 2 ^ 1) high
    → last ≡ sum_by (λ m. m / 2 ^ 2) high → Summed ds k sum next last
summed ds k {high} e a b c =
    let all : (j : ℕ) → sum_by (λ m. m / 2 ^ j) high ≡ cut_sum ds (k + j) = λ j. ap (sum_by (λ m. m / 2 ^ j)) e ∙ high_sum k j ds in
    record { first = high_summed ds k e a; next = b ∙ all 1; last = c ∙ all 2 }

-- It stops at the first place where the sum is no more than the price,
pub stops_at_price : (ds : List ℕ) {limit price first sum : ℕ} → BeginsAt ds limit price first → sum ≡ cut_sum ds first → sum ≤ price → IsFirstStop ds limit price first sum
stops_at_price ds h value few = record { limit = h.within; value = value; falls = h.falls; stops = λ lt. omega (arith, value, few) }

-- whether one digit more takes more than the price off
abbrev pub pays : (first limit price sum next : ℕ) → Bool
pays first limit price sum next = nat_lt first limit && nat_lt (next + price) sum

-- and whether two do, one after the other
abbrev pub pay_both : (first limit price sum next last : ℕ) → Bool
pay_both first limit price sum next last = (pays first limit price sum next && nat_lt (first + 1) limit) && nat_lt (last + price) next

-- where one does not,
pub stops_at_first : (ds : List ℕ) {limit price first sum next last : ℕ} → BeginsAt ds limit price first → Summed ds first sum next last → pays first limit price sum next ≡ false
    → IsFirstStop ds limit price first sum
stops_at_first ds {limit} {price} {first} {sum} {next} h sums fails = record { limit = h.within; value = sums.first; falls = h.falls; stops = λ lt. omega (arith, sums.first, sums.next, not_more lt) }
  where
    not_more : first < limit → sum ≤ next + price
    not_more lt = grind (arith, nat_tests, lt, fails)

-- after one digit where another does not,
pub stops_later : (ds : List ℕ) {limit price first sum next last : ℕ} → BeginsAt ds limit price first → Summed ds first sum next last → pays first limit price sum next ≡ true
    → pay_both first limit price sum next last ≡ false → IsFirstStop ds limit price (first + 1) next
stops_later ds {limit} {price} {first} {sum} {next} {last} h sums one fails =
    let less : first < limit = grind (arith, nat_tests, one) in
    let more : next + price < sum = grind (arith, nat_tests, one) in
    stops_after_one ds h less (omega (arith, sums.first, sums.next, more)) sums.next (λ lt. omega (arith, sums.next, sums.last, not_more lt))
  where
    not_more : first + 1 < limit → next ≤ last + price
    not_more lt = grind (arith, nat_tests, lt, one, fails)

-- and after two where both do.
pub stops_last : (ds : List ℕ) {limit price first sum next last : ℕ} → length ds ≤ 2 * price → BeginsAt ds limit price first → Summed ds first sum next last
    → pay_both first limit price sum next last ≡ true → IsFirstStop ds limit price (first + 2) last
stops_last ds {limit} {price} {first} {sum} {next} {last} few h sums both =
    let more : next + price < sum = grind (arith, nat_tests, both) in
    let less : first + 1 < limit = grind (arith, nat_tests, both) in
    let again : last + price < next = grind (arith, nat_tests, both) in
    stops_after_two ds few h less (omega (arith, sums.first, sums.next, more)) (omega (arith, sums.next, sums.last, again)) sums.last

-- there is a split beside that of no digits, and samples have at most three bits more than the last split takes
pub last_split : (s : Parameters) → (1 ≤ k_max s) × (s.bits ≤ 32 → s.bits ≤ k_max s + 3)
last_split s = elim (cases_lt 8 s.bits) [
  | inl more ↦ elim (cases_lt 16 s.bits) [
    | inl wide ↦ let k : k_max s ≡ 29 = ap (λ n. 2 ^ n - 3) (word_id s wide) in (omega (arith, k), λ most. omega (arith, k, most))
    | inr few ↦ let k : k_max s ≡ 13 = ap (λ n. 2 ^ n - 3) (half_id s more few) in (omega (arith, k), λ most. omega (arith, k, few))
  ]
  | inr few ↦ let k : k_max s ≡ 5 = ap (λ n. 2 ^ n - 3) (byte_id s few) in (omega (arith, k), λ most. omega (arith, k, few))
]

-- so without its digits residuals have three digits at most
pub last_split_is_small : (s : Parameters) (ds : List ℕ) {limit : ℕ} → s.bits ≤ 32 → limit ≡ k_max s → All (λ d. d < value_count s) ds → All (λ d. d / 2 ^ limit < 2 ^ 3) ds
last_split_is_small s ds {limit} most e h = λ i d lt.
    let all : 2 ^ (limit + 3) ≡ 2 ^ 3 * 2 ^ limit = pow-add 2 limit 3 ∙ omega arith in
    let le : 2 ^ s.bits ≤ 2 ^ (limit + 3) = pow-le-pow_right {n = 2} (omega arith) {i = s.bits} {j = limit + 3} (omega (arith, e, (last_split s).1 most)) in
    let one = h i d lt in
    (div-lt_iff_lt-mul (pow_pos limit)).1 (omega (arith, one, le, all))

-- where the sum is 0, all residuals are
pub zero_block : (ds : List ℕ) → cut_sum ds 0 ≡ 0 → list_all (λ d. d == 0) ds ≡ true
zero_block [] h = refl
zero_block (zero ∷ ds) h = zero_block ds (omega (arith, h, sum_by-cons (λ d. d / 2 ^ 0) 0 ds))
zero_block (suc d ∷ ds) h = absurd (omega (arith, h, sum_by-cons (λ d. d / 2 ^ 0) (suc d) ds))

-- and where it is not, not all are
pub no_zero_block : (ds : List ℕ) → 0 < cut_sum ds 0 → list_all (λ d. d == 0) ds ≡ false
no_zero_block [] h = absurd (omega (arith, h))
no_zero_block (zero ∷ ds) h = no_zero_block ds (omega (arith, h, sum_by-cons (λ d. d / 2 ^ 0) 0 ds))
no_zero_block (suc d ∷ ds) h = grind (arith, nat_tests)
