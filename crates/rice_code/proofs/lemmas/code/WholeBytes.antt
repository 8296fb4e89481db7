-- The whole bytes of bits that follow others.
use Rattle.std.proofs.Common.{arith, ◌≡◌, ℕ, suc, ◌*◌, Bool, List, [], ◌∷◌, ◌++◌, length, refl, ap}
use Rattle.rice_bits.specs.Bits.{number_of, whole_bytes}

-- the whole bytes of bits after those of whole bytes are these bytes, and then those of the bits by themselves
pub whole-append : (m : ℕ) (a b : List Bool) → length a ≡ 8 * m → whole_bytes (a ++ b) ≡ whole_bytes a ++ whole_bytes b
unfolding whole_bytes
whole-append m [] b h = refl
whole-append (suc m) (a ∷ b ∷ c ∷ d ∷ e ∷ f ∷ g ∷ i ∷ rest) x h =
    ap (λ l. number_of (a ∷ b ∷ c ∷ d ∷ e ∷ f ∷ g ∷ i ∷ []) ∷ l) (whole-append m rest x (omega (arith, h)))
whole-append _ _ b h = absurd (omega (arith, h))
