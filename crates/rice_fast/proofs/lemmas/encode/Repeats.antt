-- One sample that bytes spell again and again.
use Rattle.rice_fast.proofs.Words.{◌≡◌, ℕ, zero, suc, ◌+◌, ◌-◌, ◌*◌, ◌≤◌, List, [], ◌∷◌, ◌++◌, length, take, drop, ap, refl, sym, subst, arith, ◌∙◌, replicate, length-replicate, bit_xor, xor_add_and}
use Rattle.rice_fast.proofs.Words.{Each1, zip2, and_le_l, and_le_r, take-add, take-take, take_at, Each1-replicate}
use Rattle.rice_fast.proofs.Words.{Parameters, value_at, values_at, width, spellings, spellings-append, length-spellings, mul-le-mul_left, ℤ}
use Rattle.std.proofs.lemmas.List.{replicate-append-replicate}

-- numbers of which no digit differs are equal
same_digits : (a b : ℕ) → bit_xor a b ≤ 0 → a ≡ b
same_digits a b none = omega (arith, none, xor_add_and a b, and_le_l a b, and_le_r a b)

-- and so are those of a row
all_same : (n level : ℕ) (row : List ℕ) → length row ≡ n → Each1 (λ x. x ≤ 0) (zip2 bit_xor row (replicate n level)) → row ≡ replicate n level
all_same zero level [] count h = refl
all_same (suc n) level [] count h = absurd (omega (arith, count))
all_same zero level (x ∷ row) count h = absurd (omega (arith, count))
all_same (suc n) level (x ∷ row) count h = λ j. same_digits x level h.0 j ∷ all_same n level row (omega (arith, count)) h.1 j

values_of_copies : (s : Parameters) (level n : ℕ) → values_at s (replicate n level) ≡ replicate n (value_at s level)
values_of_copies s level zero = refl
values_of_copies s level (suc n) = ap (λ v. value_at s level ∷ v) (values_of_copies s level n)

-- A row of which no digit differs from a level has the sample at this level again and again.
pub row_repeated : (s : Parameters) (level : ℕ) {n : ℕ} (row : List ℕ) {first now : List ℕ} → length row ≡ n → first ≡ replicate n level → now ≡ zip2 bit_xor row first → now ≡ replicate n 0
    → values_at s row ≡ replicate n (value_at s level)
row_repeated s level {n} row many firsts digits none =
    let zeros = subst (Each1 (λ x. x ≤ 0)) (sym none) (Each1-replicate (λ x. x ≤ 0) n 0 (let none : 0 ≤ 0 = omega arith in none)) in
    let own = subst (Each1 (λ x. x ≤ 0)) (digits ∙ ap (zip2 bit_xor row) firsts) zeros in
    ap (values_at s) (all_same n level row many own) ∙ values_of_copies s level n

-- the bytes of more samples
pub more_repeated : (s : Parameters) (x : ℤ) (a b : ℕ) (bytes : List ℕ) → take (width s * a) bytes ≡ spellings s (replicate a x)
    → take (width s * b) (drop (width s * a) bytes) ≡ spellings s (replicate b x)
    → take (width s * (a + b)) bytes ≡ spellings s (replicate (a + b) x)
more_repeated s x a b bytes old new =
    let place : width s * (a + b) ≡ width s * a + width s * b = omega arith in
    ap (λ m. take m bytes) place
    ∙ (take-add (width s * a) (width s * b) bytes ∙ ((λ j. old j ++ new j)
    ∙ (sym (spellings-append s (replicate a x) (replicate b x)) ∙ ap (spellings s) (replicate-append-replicate a b x))))

-- and of fewer
pub fewer_repeated : (s : Parameters) (x : ℤ) (k n : ℕ) (bytes : List ℕ) → k ≤ n → take (width s * n) bytes ≡ spellings s (replicate n x) → take (width s * k) bytes ≡ spellings s (replicate k x)
fewer_repeated s x k n bytes few all =
    let rest : k + (n - k) ≡ n = omega (arith, few) in
    let parts : spellings s (replicate n x) ≡ spellings s (replicate k x) ++ spellings s (replicate (n - k) x) =
    ap (λ m. spellings s (replicate m x)) (sym rest) ∙ (ap (spellings s) (sym (replicate-append-replicate k (n - k) x)) ∙ spellings-append s (replicate k x) (replicate (n - k) x)) in
    let len = length-spellings s (replicate k x) ∙ ap (λ m. width s * m) (length-replicate k x) in
    let inside = mul-le-mul_left (width s) few in
    sym (take-take (width s * k) (width s * n) bytes inside) ∙ (ap (take (width s * k)) (all ∙ parts) ∙ take_at (spellings s (replicate k x)) (spellings s (replicate (n - k) x)) (width s * k) len)
