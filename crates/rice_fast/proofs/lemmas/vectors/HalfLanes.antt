-- The last of some numbers, and samples of two bytes.
use Rattle.rice_fast.proofs.Words.{◌≡◌, ℕ, zero, suc, ◌<◌, ◌≤◌, List, [], ◌∷◌, get_or, length, refl, arith, nat_tests, Parameters, width, last_number}

-- the last of so many numbers
pub last_is : (p n : ℕ) (xs : List ℕ) → length xs ≡ suc n → last_number p xs ≡ get_or xs n 0
last_is p n [] e = absurd (omega (arith, e))
last_is p zero (x ∷ []) e = refl
last_is p zero (x ∷ y ∷ xs) e = absurd (omega (arith, e))
last_is p (suc n) (x ∷ []) e = absurd (omega (arith, e))
last_is p (suc n) (x ∷ y ∷ xs) e = last_is x n (y ∷ xs) (omega (arith, e))

-- a sample of 9 to 16 bits has two bytes
pub two_bytes : (s : Parameters) → 8 < s.bits → s.bits ≤ 16 → width s ≡ 2
two_bytes s h k = grind (arith, nat_tests)
