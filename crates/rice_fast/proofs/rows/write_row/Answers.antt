use Rattle.rice_fast.proofs.Words.{◌∙◌, arith, drop, take, common_steps, HaveParts, SpellsParts}
use Rattle.rice_fast.proofs.lemmas.{Residuals.predicted_parts, Rows.if_some, Rows.row_spelled, Rows.whole_row}
use Rattle.rice_fast.proofs.rows.write_row.Goals as goal

pub returns-then-k-BITS-clause-some : goal.returns-then-k-BITS-clause-some
returns-then-k-BITS-clause-some g c =
    let a = c.args in
    let s = a.setting.now in
    let n = g.L.Lanes.numbers in
    let bytes = drop a.at c.write_parts_in_turn.new.bytes in
    let zeros = n c.splat.result in
    let whole = c.requires.whole (c.if-k-BITS.true ∙ (c.BITS.ensures ∙ g.met.L.SampleLanes.bits_are)) in
    if_some (λ l. SpellsParts s a.before 0 a.count (take a.count (n a.lows)) (take a.count zeros) l bytes)
    (λ l. SpellsParts s a.before a.k a.count (take a.count (n a.highs)) (take a.count (n a.lows)) l bytes)
    c.write_parts_in_turn.result (λ l row. whole_row (n a.lows) c.requires.count.1 (g.met.L.Lanes.len a.lows) whole c.splat.ensures row) c.write_parts_in_turn.ensures.some

pub returns-in-Some-clause-some : goal.returns-in-Some-clause-some
returns-in-Some-clause-some g c =
    let a = c.args in
    let n = g.L.Lanes.numbers in
    let levels = c.in-Some.levels in
    let have : HaveParts a.setting.now a.before a.k (n a.highs) (n a.lows) (n levels) = predicted_parts (c.least_near.ensures (omega (arith, c.if-before-least_near.true))) c.in-Some.ensures in
    let spelled = row_spelled a.count {highs = n a.highs} {lows = n a.lows} {levels = n levels} {bytes = drop a.at c.write_levels.new.bytes} c.requires.count.0 c.requires.count.1
    (g.met.L.Lanes.len a.highs) have c.write_levels.ensures.spelled in
    rw (c.write_levels.ensures.last) (grind (arith, common_steps))
