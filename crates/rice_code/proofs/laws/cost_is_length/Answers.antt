use Rattle.std.proofs.Common.{◌≤◌, arith}
use Rattle.rice_code.proofs.laws.cost_is_length.Goals as goal
use Rattle.rice_code.proofs.lemmas.cost.CostIsLength as costs

pub returns : goal.returns
returns c = λ s b d legal h. let j : 1 ≤ s.block = grind (arith, legal.block) in costs.cost_is_length s b d j h
