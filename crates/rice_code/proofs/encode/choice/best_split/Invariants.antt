use Rattle.std.proofs.Common.{◌-◌, ◌≡◌, ℕ, ◌+◌, ◌*◌, ◌^◌, ◌<◌, ◌≤◌}
use Rattle.rice_code.proofs.Words.{k_max, Split, cost}
use Rattle.rice_code.proofs.encode.choice.best_split.Given as goal

abbrev pub invariant-loop-best : goal.invariant-loop-best
invariant-loop-best l = record {
  at_most : l.best ≤ k_max l.fn.setting;
  value : l.least ≡ cost l.fn.setting (Split l.best l.block);
  small : l.least < 2 ^ 40;
  first : (j : ℕ) → j < l.best → cost l.fn.setting (Split l.best l.block) < cost l.fn.setting (Split j l.block);
  steps : l.meter ≡ l.fn.meter + l.fn.setting.block * (l.best + 1);
}

abbrev pub decreases-loop-best : goal.decreases-loop-best
decreases-loop-best l = l.limit - l.best
