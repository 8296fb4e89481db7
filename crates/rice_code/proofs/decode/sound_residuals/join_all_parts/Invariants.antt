use Rattle.std.proofs.Common.{◌≡◌, take, drop}
use Rattle.rice_bits.specs.Bits.{joined_parts}
use Rattle.rice_code.proofs.decode.sound_residuals.join_all_parts.Given as goal

abbrev pub invariant-loop-i : goal.invariant-loop-i
invariant-loop-i l = record { done : take l.i l.lows ≡ take l.i (joined_parts l.k l.highs l.fn.lows); rest : drop l.i l.lows ≡ drop l.i l.fn.lows }
