use Rattle.std.proofs.{lemmas.Grind.common_steps, Common.arith}
use Rattle.rice_code.proofs.lemmas.{cost.SplitSavings.best_where_it_stops, cost.SplitSavings.best_where_it_ends, encode.ChoiceLemmas.best_split_is}
use Rattle.rice_code.proofs.encode.choice.best_split.Goals as goal

pub returns-then-next-least-clause-best : goal.returns-then-next-least-clause-best
returns-then-next-least-clause-best c = grind (arith, common_steps, best_where_it_stops)

pub returns-then-next-least-clause-named : goal.returns-then-next-least-clause-named
returns-then-next-least-clause-named c = best_split_is c.args.setting.now c.args.block.now c.loop-best.best (returns-then-next-least-clause-best c)

pub returns-clause-best : goal.returns-clause-best
returns-clause-best c = best_where_it_ends c.args.setting.now c.args.block.now c.loop-best.best (omega arith) c.loop-best.invariant.first

pub returns-clause-named : goal.returns-clause-named
returns-clause-named c = best_split_is c.args.setting.now c.args.block.now c.loop-best.best (returns-clause-best c)
