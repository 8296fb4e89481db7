use Rattle.rice_fast.proofs.Words.{◌≡◌, ◌+◌, ◌-◌, ◌*◌, ◌≤◌, ◌∙◌, ap, arith, length, take, mul-le-mul_right, length-take-le, width}
use Rattle.rice_fast.proofs.one_pass.write_fields_ahead.Goals as goal

pub write_rows-requires-clause-there : goal.write_rows-requires-clause-there
write_rows-requires-clause-there g c =
    let size = c.args.size in
    let f = c.in_ok-fields.fields in
    let fields = c.in_ok-fields.ensures in
    let legal = c.block-block.ensures.legal.block in
    let all : size * f.k ≤ 64 * f.k = mul-le-mul_right f.k (omega (arith, legal, c.requires.block.size)) in
    let sent : size * f.k ≤ (size - f.omitted + 1) * f.k = mul-le-mul_right f.k (omega (arith, fields.few)) in
    let narrow = g.met.L.Lanes.most_bits in (
      omega (arith, all, fields.short, fields.narrow, narrow),
      omega (arith, sent, c.if-buffered-len.false, fields.narrow, narrow, c.requires.there),
    )

pub returns-clause-some : goal.returns-clause-some
returns-clause-some g c =
    let s = c.args.setting.now in
    let size = c.args.size in
    let f = c.in_ok-fields.fields in
    let fields = c.in_ok-fields.ensures in
    let rows = c.in_ok-last.ensures in
    let legal = c.block-block.ensures.legal.block in
    let len : length rows.levels ≡ size = rows.near.len ∙ length-take-le size c.fields_ahead.new.highs (omega (arith, fields.places, legal, c.requires.block.size)) in
    record {
      levels = rows.levels;
      ahead = fields.block rows.lows rows.levels rows.len (rows.words (omega (arith, legal, c.requires.block.size))) rows.near
          (omega (arith, c.if-buffered-len.false, c.requires.there));
      from = f.from;
      last_is = rows.last_is;
      legal = rows.legal;
      spelled = ap (λ n. take (width s * n) c.write_rows.new.bytes) len ∙ rows.spelled;
    }
