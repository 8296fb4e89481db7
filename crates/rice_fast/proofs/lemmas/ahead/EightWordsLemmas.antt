-- Words of a few digits, found in two bytes each.
use Rattle.rice_fast.proofs.Words.{◌≡◌, ℕ, suc, ◌+◌, ◌*◌, ◌/◌, ◌<◌, ◌≤◌, List, [], ◌∷◌, length, get_or, map, refl, ◌∙◌, ap, arith, w8, All, slice_index, get_or-swz_l_below, SwzOk, SwzOk-from_below}
use Rattle.rice_fast.proofs.Words.{swz_l}
use Rattle.rice_fast.proofs.lemmas.vectors.NumbersInLanes.{each_of}

-- sixteen places below sixteen are as a swizzle asks
pub places_are_ok : (ps : List ℕ) → length ps ≡ 16 → All (λ p. p < 16) ps → SwzOk w8 16 16 0 ps
places_are_ok ps len h = SwzOk-from_below w8 16 1 16 0 ps (omega arith) (omega (arith, len)) (each_of (λ p. p < 16) ps h)

-- the bytes at places among sixteen
pub bytes-picked : (bytes : List ℕ) (i : ℕ) (ps : List ℕ) → i + length ps ≤ 16 → All (λ p. p < 16) ps → swz_l w8 16 bytes i ps ≡ map (λ p. slice_index bytes p) ps
bytes-picked bytes i [] le h = refl
bytes-picked bytes i (p ∷ ps) le h =
    let none : 16 * ((i + 0) / 16) + p ≡ p = omega (arith, le) in
    let first = get_or-swz_l_below w8 16 bytes i (p ∷ ps) 0 (omega arith) (h 0 0 (omega arith)) ∙ ap (λ n. get_or bytes n 0) none in
    let rest = bytes-picked bytes (suc i) ps (omega (arith, le)) (λ k d lt. h (suc k) d (omega (arith, lt))) in
    λ j. first j ∷ rest j
