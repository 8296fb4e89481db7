-- Numbers that are so near to the ones before them that the range reaches as far to both sides.
use Rattle.std.specs.Prelude.{ℕ, ◌+◌, ◌-◌, ◌/◌, ◌%◌, ◌==◌, min, if◌then◌else◌, List, [], ◌∷◌}

-- how far it is from a number to the near one with rank d: upwards for an even rank, else downwards, which wraps at `count`
abbrev pub way : ℕ → ℕ → ℕ
way count d = if d % 2 == 0 then d / 2 else count - 1 - d / 2

-- the near numbers with ranks in a row, the first from p, each other from the one before it
abbrev pub near_numbers : ℕ → ℕ → List ℕ → List ℕ
near_numbers count p [] = []
near_numbers count p (d ∷ ds) = (p + way count d) % count ∷ near_numbers count ((p + way count d) % count) ds

-- how far the range up to `greatest` reaches to both sides of x, which wraps at `count` if it does not
abbrev pub reach : ℕ → ℕ → ℕ → ℕ
reach count greatest x = min x ((greatest + (count - x)) % count)

-- the greatest rank of a number that is near to x
abbrev pub bound : ℕ → ℕ → ℕ → ℕ
bound count greatest x = (reach count greatest x + reach count greatest x) % count
