-- The parts of residuals are written one range after the other.
use Rattle.std.proofs.Common.{◌≡◌, ℕ, suc, ◌+◌, ◌-◌, ◌*◌, ◌<◌, ◌≤◌, Bool, List, [], ◌∷◌, ◌++◌, length, drop, take, get_or, ap, arith, sym, ◌∙◌, append_assoc, append-nil}
use Rattle.rice_code.proofs.Words.{flat_map, slice_range, take-suc, flat_map-append, length-drop, get_or-drop, common_steps}

-- and one more
slice_snoc : (ds : List ℕ) (from i : ℕ) → from ≤ i → i < length ds → slice_range ds from (i + 1) ≡ slice_range ds from i ++ get_or ds i 0 ∷ []
slice_snoc ds from i le lt =
    let e : i + 1 - from ≡ suc (i - from) = omega arith in
    let len = length-drop from ds in
    let place : from + (i - from) ≡ i = omega arith in
    let last = get_or-drop from ds (i - from) 0 ∙ ap (λ n. get_or ds n 0) place in
    ap (λ n. take n (drop from ds)) e ∙ (take-suc (drop from ds) (i - from) 0 (omega (arith, len)) ∙ ap (λ d. slice_range ds from i ++ d ∷ []) last)

-- the piece of one residual more is written
pub one_written : (f : ℕ → List Bool) (ds : List ℕ) {from i : ℕ} (all : List Bool) {a b x : List Bool} → from ≤ i → i < length ds
    → a ≡ all ++ flat_map f (slice_range ds from i) → b ≡ a ++ x → x ≡ f (get_or ds i 0) → b ≡ all ++ flat_map f (slice_range ds from (i + 1))
one_written f ds {from} {i} all le lt before put same = grind (arith, common_steps, get_or, append_assoc, append-nil, flat_map-append, slice_snoc)

-- what is left of n residuals has w digits fewer after one more
pub one_less_times : (n i w : ℕ) → i < n → (n - i) * w ≡ (n - (i + 1)) * w + w
one_less_times n i w lt = let e : n - i ≡ suc (n - (i + 1)) = omega arith in ap (λ k. k * w) e ∙ (omega arith)
