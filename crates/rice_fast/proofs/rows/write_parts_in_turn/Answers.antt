use Rattle.rice_fast.proofs.Words.{◌∙◌, arith, drop, sym, common_steps, HaveParts}
use Rattle.rice_fast.proofs.lemmas.Rows.{row_spelled}
use Rattle.rice_fast.proofs.rows.write_parts_in_turn.Goals as goal

pub returns-clause-some : goal.returns-clause-some
returns-clause-some g c =
    let a = c.args in
    let n = g.L.Lanes.numbers in
    let levels = c.levels_of_residuals-levels in
    let have : HaveParts a.setting.now a.before a.k (n a.highs) (n a.lows) (n levels.result) = record {
      len = g.met.L.Lanes.len levels.result ∙ sym (g.met.L.Lanes.len a.highs);
      legal = levels.ensures.legal;
      residuals = levels.ensures.are ∙ c.in_ok-residuals.ensures.0;
    } in
    let spelled = row_spelled a.count {highs = n a.highs} {lows = n a.lows} {levels = n levels.result} {bytes = drop a.at c.write_levels.new.bytes} c.requires.count.0 c.requires.count.1
    (g.met.L.Lanes.len a.highs) have c.write_levels.ensures.spelled in
    rw (c.write_levels.ensures.last) (grind (arith, common_steps))
