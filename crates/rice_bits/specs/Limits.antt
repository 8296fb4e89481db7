-- The limits that contracts cite, with what each bounds.
use Rattle.std.specs.Prelude.{ℕ, ◌^◌}

-- a meter counts fewer steps than these
abbrev pub step_limit : ℕ
step_limit = 2 ^ 62

-- the most bytes that a reader takes from its intake
abbrev pub most_bytes_read : ℕ
most_bytes_read = 2 ^ 49

-- the most bits that a reader takes, which are those of as many bytes
abbrev pub most_bits_read : ℕ
most_bits_read = 2 ^ 52

-- the most bytes that are asked for at a time
abbrev pub most_at_once : ℕ
most_at_once = 4096
