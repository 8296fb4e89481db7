-- How many numbers are joined of high parts and low parts.
use Rattle.std.proofs.Common.{◌≡◌, ℕ, suc, List, [], ◌∷◌, length, refl, ap, arith}
use Rattle.rice_bits.specs.Bits.{joined_parts}

-- as many numbers are joined as there are high parts, where there are as many low parts
pub length-joined : (k : ℕ) (ms ls : List ℕ) → length ls ≡ length ms → length (joined_parts k ms ls) ≡ length ms
length-joined k [] ls e = refl
length-joined k (m ∷ ms) [] e = absurd (omega arith)
length-joined k (m ∷ ms) (l ∷ ls) e = ap (λ n. suc n) (length-joined k ms ls (omega arith))
