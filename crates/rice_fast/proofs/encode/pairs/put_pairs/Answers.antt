use Rattle.rice_fast.proofs.Words.{common_steps, arith, ◌+◌, ap, pairs_left}
use Rattle.std.specs.Prelude.{sum_by}
use Rattle.rice_fast.proofs.encode.pairs.put_pairs.Goals as goal

pub loop-i-preserved : goal.loop-i-preserved
loop-i-preserved c =
    let e = pairs_left c.loop-i.i c.args.items.now (omega arith) in
    let f = ap (sum_by (λ g. g + 1)) e in
    record { same = grind (arith, common_steps, e); len = grind (arith, common_steps, f); steps = grind (arith, common_steps, f) }
