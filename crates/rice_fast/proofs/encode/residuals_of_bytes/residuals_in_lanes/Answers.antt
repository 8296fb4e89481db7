use Rattle.rice_fast.proofs.Words.{◌≡◌, ◌+◌, ◌-◌, ◌*◌, ◌≤◌, ◌∙◌, ap, arith, length, refl, sym, length-put_chunk, value_count, width}
use Rattle.rice_fast.proofs.lemmas.vectors.LevelsInLanes.{greatest_fits, level_fits}
use Rattle.rice_fast.proofs.lemmas.encode.ResidualsOfBytes.{bytes_of_row, no_row, row_bytes, row_more, rows_read}
use Rattle.rice_fast.proofs.encode.residuals_of_bytes.residuals_in_lanes.Goals as goal

pub splat-earlier-requires : goal.splat-earlier-requires
splat-earlier-requires g c = level_fits c.args.setting.now c.args.before g.L.Lanes.bits c.requires.before c.requires.bits.most

pub splat-requires : goal.splat-requires
splat-requires g c =
    let values = c.number_of_values.ensures in
    let above : c.number_of_values.result - 1 + 1 ≡ value_count c.args.setting.now = omega (arith, values.value, values.range) in
    greatest_fits (c.number_of_values.result - 1) c.args.setting.now.bits g.L.Lanes.bits above c.requires.bits.most

pub loop-at-init : goal.loop-at-init
loop-at-init g c = record { len = omega arith; most = omega arith; rows = no_row c.args.bytes.now c.args.residuals.now g.met.L.Lanes.some c.splat-earlier.ensures }

pub levels_in-row-requires : goal.levels_in-row-requires
levels_in-row-requires g c =
    let w = c.width-width.result in
    let is = c.width-width.ensures.value in
    let many = c.COUNT-lanes.ensures in
    let len : length c.args.bytes.now ≡ w * length c.args.residuals.now = c.requires.len ∙ ap (λ v. v * length c.args.residuals.now) (sym is) in
    record {
      bits = c.requires.bits;
      len = bytes_of_row w c.loop-at.at c.COUNT-lanes.result (length c.args.residuals.now) c.args.bytes.now (omega (arith, c.loop-at-test.true)) len ∙ (λ j. is j * many j);
    }

pub loop-at-preserved : goal.loop-at-preserved
loop-at-preserved g c =
    let n = g.L.Lanes.COUNT in
    let l = c.loop-at in
    let w = c.width-width.result in
    let many = c.COUNT-lanes.ensures in
    let residuals = g.L.Lanes.numbers c.residuals_of_row.result in
    let room : l.at + n ≤ length l.residuals = omega (arith, c.loop-at-test.true, many, l.invariant.len) in
    rw many (record {
      len = ap length c.write.ensures ∙ (length-put_chunk l.at l.residuals residuals ∙ l.invariant.len);
      most = omega (arith, room, l.invariant.len);
      rows = row_more l.residuals c.requires.before room l.invariant.rows (record {
        some = g.met.L.Lanes.some;
        many = g.met.L.Lanes.len c.levels_in-row.result;
        as_many = g.met.L.Lanes.len l.seen;
        spelled = row_bytes w l.at n c.args.bytes.now c.width-width.ensures.value many ∙ c.levels_in-row.ensures;
        more_seen = c.or-seen.ensures;
        count = g.met.L.Lanes.len c.residuals_of_row.result;
        coded = c.residuals_of_row.ensures;
      }) c.write.ensures;
    })

pub returns-clause-some : goal.returns-clause-some
returns-clause-some g c =
    let l = c.loop-at in
    let values = c.number_of_values.ensures in
    let above : c.number_of_values.result - 1 + 1 ≡ value_count c.args.setting.now = omega (arith, values.value, values.range) in
    rows_read (c.number_of_values.result - 1) c.last.result c.requires.before above l.invariant.rows (omega (arith, c.if-at-count.false, l.invariant.len))
    (c.requires.len ∙ ap (λ m. width c.args.setting.now * m) (omega (arith, l.invariant.len))) (g.met.L.Lanes.len l.seen) c.splat.ensures c.above.ensures (c.if-not-is_zero.ensures refl) c.last.ensures
