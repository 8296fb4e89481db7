use Rattle.std.proofs.Common.{◌≡◌, ◌*◌, ◌/◌, ◌^◌, length, map, take}
use Rattle.rice_fast.proofs.encode.high_parts.shifted.Given as goal

abbrev pub invariant-loop-i : goal.invariant-loop-i
invariant-loop-i l = record { len : length l.all ≡ 64; same : take (16 * l.i) l.all ≡ map (λ m. m / 2 ^ l.k) (take (16 * l.i) l.numbers) }
