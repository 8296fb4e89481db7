use Rattle.rice_fast.proofs.Words.{◌≡◌, ◌+◌, ◌-◌, ◌*◌, ◌≤◌, ◌∙◌, ap, arith, drop, subst, take, take-take, length-take-le, SpellsParts}
use Rattle.std.proofs.Math.Nat.{add-mod_right, zero-mod}
use Rattle.rice_fast.proofs.lemmas.Rows.{first_place, next_place, no_rows, one_row_more, zeros_of_row}
use Rattle.rice_fast.proofs.rows.write_rows.Goals as goal

pub write_row-requires-clause-whole : goal.write_row-requires-clause-whole
write_row-requires-clause-whole g c = λ same.
    zeros_of_row c.loop-at.at g.L.Lanes.COUNT (omega (arith, g.met.L.Lanes.most, c.loop-at-test.true, c.requires.size)) (c.requires.whole same) c.of_bytes-highs.ensures

pub loop-at-init : goal.loop-at-init
loop-at-init g c = record {
  within = omega arith;
  long = c.told-bytes;
  begins = λ _. zero-mod g.L.Lanes.COUNT;
  here = first_place c.args.fields.now c.requires.few;
  rows = no_rows c.args.ahead.now c.args.setting.now c.args.fields.now c.args.highs.now c.args.bytes.now c.requires.begins;
}

pub loop-at-preserved : goal.loop-at-preserved
loop-at-preserved g c =
    let f = c.args.fields.now in
    let all = c.args.highs.now in
    let l = c.loop-at in
    let n = c.row_len-count.result in
    let count = c.row_len-count.ensures in
    let lows = c.low_parts_of_row-lows in
    let highs = g.L.Lanes.numbers c.of_bytes-highs.result in
    let new = c.write_row.new.bytes in
    let spelled = c.in_ok-last.ensures.some in
    let some : 1 ≤ n = omega (arith, count, c.loop-at-test.true, g.met.L.Lanes.some) in
    let inside : l.at + n ≤ c.args.size = omega (arith, count, c.loop-at-test.true) in
    let few : n ≤ g.L.Lanes.COUNT = omega (arith, count) in
    let first : take n highs ≡ take n (drop l.at all) = ap (take n)
    (c.of_bytes-highs.ensures ∙ take-take g.L.Lanes.COUNT (80 - l.at) (drop l.at all) (omega (arith, g.met.L.Lanes.most, c.loop-at-test.true, c.requires.size)))
    ∙ take-take n g.L.Lanes.COUNT (drop l.at all) few in
    let width_is = c.requires.width in
    record {
      within = inside;
      begins = λ more. let whole : n ≡ g.L.Lanes.COUNT = omega (arith, count, more) in rw whole (add-mod_right l.at g.L.Lanes.COUNT ∙ l.invariant.begins c.loop-at-test.true);
      long = c.write_row.ensures.len ∙ l.invariant.long;
      here = next_place n c.requires.few some l.invariant.here;
      rows = one_row_more new c.requires.few some (omega (arith, inside, c.requires.size, c.told-highs)) l.invariant.here l.invariant.rows
          (length-take-le n (g.L.Lanes.numbers lows.result) (omega (arith, few, g.met.L.Lanes.len lows.result))) lows.ensures.row
          (subst (λ w. SpellsParts c.args.setting.now l.last f.k n (take n (drop l.at all)) (take n (g.L.Lanes.numbers lows.result)) c.in_ok-last.last (drop (w * l.at) new)) width_is
          (subst (λ hs. SpellsParts c.args.setting.now l.last f.k n hs (take n (g.L.Lanes.numbers lows.result)) c.in_ok-last.last (drop (g.row.WIDTH * l.at) new)) first spelled))
          (subst (λ w. take (w * l.at) new ≡ take (w * l.at) l.bytes) width_is c.write_row.ensures.front);
    }
