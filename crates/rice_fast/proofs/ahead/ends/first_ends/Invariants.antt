use Rattle.rice_fast.proofs.Words.{◌≡◌, ◌*◌, take, word, ends_after, in_lanes}
use Rattle.rice_fast.proofs.ahead.ends.first_ends.Given as goal

abbrev pub invariant-loop-place : goal.invariant-loop-place
invariant-loop-place l = record { ends : l.ends ≡ in_lanes (ends_after 0 (take (8 * l.place) (word 64 l.front))) }
