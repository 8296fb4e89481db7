-- The numbers that stand for pairs stand for one pair each.
use Rattle.std.proofs.Common.{◌≡◌, ℕ, zero, suc, ◌+◌, ◌-◌, ◌*◌, ◌/◌, ◌^◌, ◌<◌, ◌≤◌, add-one, List, [], ◌∷◌, length, refl, ap, arith, inl, inr}
use Rattle.std.proofs.lemmas.{Grind.common_steps, Bool.cases_lt}
use Rattle.rice_samples.specs.Pairs.{pair_code, pair_codes}

-- the codes of the pairs whose sum is below s
pub triangle : ℕ → ℕ
triangle zero = 0
triangle (suc s) = triangle s + suc s

next_triangle : (s : ℕ) → triangle (suc s) ≡ triangle s + suc s
unfolding triangle
next_triangle s = refl

-- half of s times s + 1 is the sum of the numbers up to s
pub triangle_is : (s : ℕ) → s * (s + 1) / 2 ≡ triangle s
unfolding triangle
triangle_is zero = refl
triangle_is (suc s) = let e = triangle_is s in omega arith

triangle_below : (s u : ℕ) → s < u → triangle s + s < triangle u
unfolding triangle
triangle_below s zero h = absurd (omega arith)
triangle_below s (suc u) h =
    elim (cases_lt s u) [ inl lt ↦ let g = triangle_below s u lt in omega arith | inr le ↦ let e : s ≡ u = omega arith in let g = ap triangle e in omega arith ]

-- from the same code the same sum
same_sum : (s u b d : ℕ) → b ≤ s → d ≤ u → triangle s + b ≡ triangle u + d → s ≡ u
same_sum s u b d hb hd e = grind (arith, common_steps, cases_lt, triangle_below)

-- two pairs with the same number are the same pair
pub same_pair : (a b c d : ℕ) → pair_code a b ≡ pair_code c d → (a ≡ c) × (b ≡ d)
same_pair a b c d e =
    let p = triangle_is (a + b) in
    let q = triangle_is (c + d) in
    let f : triangle (a + b) + b ≡ triangle (c + d) + d = omega arith in
    let sums : a + b ≡ c + d = same_sum (a + b) (c + d) b d (omega arith) (omega arith) f in
    grind (arith, common_steps, triangle)

-- lists of the same length have the same number of pairs
pub length-pair_codes : (ds es : List ℕ) → length ds ≡ length es → length (pair_codes ds) ≡ length (pair_codes es)
length-pair_codes [] [] n = refl
length-pair_codes [] (e ∷ es) n = absurd cc
length-pair_codes (d ∷ ds) [] n = absurd cc
length-pair_codes (d ∷ []) (e ∷ []) n = refl
length-pair_codes (d ∷ []) (e ∷ f ∷ es) n = absurd (omega arith)
length-pair_codes (d ∷ f ∷ ds) (e ∷ []) n = absurd (omega arith)
length-pair_codes (d ∷ f ∷ ds) (e ∷ g ∷ es) n = ap (λ k. suc k) (length-pair_codes ds es (omega arith))

-- lists of whole pairs with the same codes are the same
pub same_pairs : (half : ℕ) (ds es : List ℕ) → length ds ≡ half + half → length es ≡ half + half → pair_codes ds ≡ pair_codes es → ds ≡ es
same_pairs zero [] [] m n e = refl
same_pairs zero [] (y ∷ ys) m n e = absurd (omega arith)
same_pairs zero (x ∷ xs) ys m n e = absurd (omega arith)
same_pairs (suc half) [] ys m n e = absurd (omega arith)
same_pairs (suc half) (x ∷ []) ys m n e = absurd (omega arith)
same_pairs (suc half) (x ∷ z ∷ xs) [] m n e = absurd (omega arith)
same_pairs (suc half) (x ∷ z ∷ xs) (y ∷ []) m n e = absurd (omega arith)
same_pairs (suc half) (a ∷ b ∷ xs) (c ∷ d ∷ ys) m n e =
    let codes : pair_code a b ≡ pair_code c d = cc in
    let rests : pair_codes xs ≡ pair_codes ys = cc in
    let first = same_pair a b c d codes in
    let rest = same_pairs half xs ys (omega arith) (omega arith) rests in
    cc

-- each number stands for a pair
next_left : (a b g : ℕ) → pair_code (suc a) b ≡ g → pair_code a (suc b) ≡ suc g
next_left a b g e = let n : a + suc b ≡ suc a + b = omega arith in let f = ap (λ s. s * (s + 1) / 2) n in omega arith

next_row : (b g : ℕ) → pair_code 0 b ≡ g → pair_code (suc b) 0 ≡ suc g
next_row b g e = grind (arith, common_steps, triangle_is, next_triangle)

-- the pair that a number stands for, found by going on from the pair of the number before it
pub pair_of : (g : ℕ) → (a : ℕ) × (b : ℕ) × (pair_code a b ≡ g)
pair_of zero = (0, 0, refl)
pair_of (suc g) = let p = pair_of g in go p.0 p.1 p.2
  where
    go : (a b : ℕ) → pair_code a b ≡ g → (a : ℕ) × (b : ℕ) × (pair_code a b ≡ suc g)
    go zero b e = (suc b, 0, next_row b g e)
    go (suc a) b e = (a, suc b, next_left a b g e)

-- the parts of the pairs that these numbers stand for, one after another
pub unpaired : List ℕ → List ℕ
unpaired [] = []
unpaired (g ∷ gs) = (pair_of g).0 ∷ (pair_of g).1 ∷ unpaired gs

-- their pairs have these numbers again
pub codes_of_unpaired : (gs : List ℕ) → pair_codes (unpaired gs) ≡ gs
unfolding unpaired
codes_of_unpaired [] = refl
codes_of_unpaired (g ∷ gs) = λ i. (pair_of g).2 i ∷ codes_of_unpaired gs i

-- and they are twice as many as the numbers
pub length-unpaired : (gs : List ℕ) → length (unpaired gs) ≡ length gs + length gs
unfolding unpaired
length-unpaired [] = refl
length-unpaired (g ∷ gs) = let e = length-unpaired gs in omega arith

-- two times so many parts make so many pairs
pub count_pairs : (half : ℕ) (ds : List ℕ) → length ds ≡ half + half → length (pair_codes ds) ≡ half
count_pairs zero [] e = refl
count_pairs zero (d ∷ ds) e = absurd (omega arith)
count_pairs (suc half) [] e = absurd (omega arith)
count_pairs (suc half) (d ∷ []) e = absurd (omega arith)
count_pairs (suc half) (d ∷ c ∷ ds) e = ap (λ n. suc n) (count_pairs half ds (omega arith))

-- the sum of the numbers up to 0 is 0
pub triangle_none : triangle 0 ≡ 0
unfolding triangle
triangle_none = refl

-- and that up to the next number is greater by this number
pub triangle-more : (s : ℕ) → triangle (s + 1) ≡ triangle s + (s + 1)
unfolding triangle
triangle-more s = rw add-one refl

-- the sum of a pair whose code is within the bits of a code
pub triangle_small : (s : ℕ) → triangle s ≤ 2 ^ 52 → s < 2 ^ 32
triangle_small s h =
    elim (cases_lt s (2 ^ 32)) [ inl lt ↦ lt | inr le ↦ absurd (large (2 ^ 32) s le (triangle_is (2 ^ 32)) h (omega arith)) ]
  where
    large : (m s : ℕ) → m ≤ s → m * (m + 1) / 2 ≡ triangle m → triangle s ≤ 2 ^ 52 → (2 ^ 53 ≤ m * (m + 1) / 2) → ⊥
    large m s le e h k = elim (cases_lt m s) [
      | inl lt ↦ let g = triangle_below m s lt in omega arith
      | inr ge ↦ let f : m ≡ s = omega arith in let g = ap triangle f in omega arith
    ]

-- the number that is r after the first of those with the sum s, r being no more than s, stands for the pair of s - r and r
pub pair_is : (s r g : ℕ) → r ≤ s → triangle s + r ≡ g → pair_code (s - r) r ≡ g
pair_is s r g h e = grind (arith, common_steps, triangle_is)
