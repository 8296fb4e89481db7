use Rattle.std.proofs.Common.{◌+◌, ◌≡◌, ◌≤◌}
use Rattle.rice_samples.proofs.lemmas.blocks.PairNumbers.{triangle}
use Rattle.rice_code.proofs.decode.pairs.pair_by_search.Given as goal

abbrev pub invariant-loop-sum : goal.invariant-loop-sum
invariant-loop-sum l = record { parts : triangle l.sum + l.rest ≡ l.g; below : l.sum ≤ triangle l.sum }

abbrev pub decreases-loop-sum : goal.decreases-loop-sum
decreases-loop-sum l = l.rest
