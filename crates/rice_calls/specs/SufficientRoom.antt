-- How many bytes are always enough.
use Rattle.std.specs.Prelude.{ℕ, ◌+◌}
use Rattle.std.specs.Int.{div_ceil}
use Rattle.rice_samples.specs.Parameters.{Parameters}
use Rattle.rice_code.specs.Bounds.{padded_bound, added_bound, set_bound}

-- the bytes that the code of so many samples never passes, padding included
abbrev pub code_room : Parameters → ℕ → ℕ
code_room s samples = div_ceil (padded_bound s samples) 8

-- the bytes that a call which is fed so many samples never passes, where so many bits of code fill no byte
abbrev pub push_room : Parameters → ℕ → ℕ → ℕ
push_room s waiting samples = div_ceil (waiting + added_bound s samples) 8

-- the bytes that hold any coded data set of the coder's, wherever in a byte it begins, and the padding after it
abbrev pub set_room : Parameters → ℕ
set_room s = div_ceil (7 + set_bound s + 7) 8
