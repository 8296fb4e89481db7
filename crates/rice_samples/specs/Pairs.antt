-- The numbers by which second extension sends pairs of residuals. (CCSDS 121.0-B-3, section 3: second-extension option.)
use Rattle.std.specs.Prelude.{ℕ, ◌+◌, ◌*◌, ◌/◌, List, [], ◌∷◌}

-- the number that stands for a pair: pairs with a smaller sum go first, and of one sum those with a greater first part
abbrev pub pair_code : ℕ → ℕ → ℕ
pair_code a b = (a + b) * (a + b + 1) / 2 + b

-- those of all pairs, one after another
abbrev pub pair_codes : List ℕ → List ℕ
pair_codes [] = []
pair_codes (a ∷ []) = []
pair_codes (a ∷ b ∷ ds) = pair_code a b ∷ pair_codes ds
