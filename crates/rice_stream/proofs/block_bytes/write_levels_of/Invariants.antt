use Rattle.std.proofs.Common.{◌≡◌, ◌<◌, All, length, take}
use Rattle.rice_samples.specs.Parameters.{values_at, value_count}
use Rattle.rice_stream.proofs.block_bytes.write_levels_of.Given as goal

abbrev pub invariant-loop-i : goal.invariant-loop-i
invariant-loop-i l = (values_at l.setting l.levels.items ≡ take l.i l.samples) × (length l.levels.items ≡ l.i) × All (λ k. k < value_count l.setting) l.levels.items
