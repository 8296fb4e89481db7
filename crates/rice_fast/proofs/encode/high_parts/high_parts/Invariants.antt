use Rattle.std.proofs.Common.{◌≡◌, ◌-◌, ◌*◌, ◌/◌, ◌^◌, ◌++◌, map, replicate, take}
use Rattle.rice_fast.proofs.encode.high_parts.high_parts.Given as goal

abbrev pub invariant-loop-i : goal.invariant-loop-i
invariant-loop-i l = record { same : l.high ≡ map (λ d. d / 2 ^ l.k) (take (16 * l.i) l.items) ++ replicate (64 - 16 * l.i) 0 }
