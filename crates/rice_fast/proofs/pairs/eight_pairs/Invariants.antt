use Rattle.rice_fast.proofs.Words.{◌+◌, ◌≡◌, length, take, pair_codes}
use Rattle.rice_fast.proofs.pairs.eight_pairs.Given as goal

abbrev pub invariant-loop-i : goal.invariant-loop-i
invariant-loop-i l = record { pairs : pair_codes (take (l.i + l.i) l.numbers) ≡ take l.i l.codes; long : length l.numbers ≡ 16 }
