use Rattle.rice_fast.proofs.Words.{◌≡◌, ◌+◌, ◌-◌, ◌*◌, ◌<◌, ◌≤◌, ◌∙◌, ap, arith, length, take, subst, sym, length-take-le, HighsAhead}
use Rattle.rice_fast.proofs.lemmas.HighParts.{highs-row, stored_row}
use Rattle.rice_fast.proofs.high_parts.high_parts_ahead.Goals as goal

pub loop-row-init : goal.loop-row-init
loop-row-init c =
    let first = c.in_ok-first in
    let n = c.row_len in
    let one : c.args.size - (c.args.size - 16 * 1) ≡ 0 + n.result = omega (arith, n.ensures) in
    record {
      places = c.store_row.ensures.len ∙ c.told-highs;
      short = omega (arith, first.ensures.short);
      rows =
          subst (λ xs. HighsAhead c.args.ahead.now c.args.skip c.args.omitted xs first.first.len)
          (sym (ap (λ n. take n c.store_row.new.rows) one ∙ stored_row 0 n.result first.first.numbers c.args.highs.now c.store_row.new.rows (omega (arith, n.ensures)) (omega arith)
          first.ensures.lanes c.store_row.ensures.value))
          first.ensures.some;
    }

pub loop-row-preserved : goal.loop-row-preserved
loop-row-preserved c =
    let w = c.args.ahead.now in
    let skip = c.args.skip in
    let o = c.args.omitted in
    let size = c.args.size in
    let l = c.loop-row in
    let next = c.in_ok-next.next in
    let count = c.row_len-count in
    let inside : l.row < 4 = omega (arith, c.loop-row-test.true, c.requires.size) in
    let at : size - (size - 16 * l.row) ≡ 16 * l.row = omega (arith, c.loop-row-test.true) in
    let end : size - (size - 16 * (l.row + 1)) ≡ 16 * l.row + count.result = omega (arith, count.ensures, c.loop-row-test.true) in
    let before = subst (λ n. HighsAhead w skip o (take n l.highs) l.len) at l.invariant.rows in
    let few : o ≤ length (take (16 * l.row) l.highs) = omega (arith, c.requires.omitted, l.auto.row, length-take-le (16 * l.row) l.highs (omega (arith, inside, l.invariant.places))) in
    let stored = stored_row l.row count.result next.numbers l.highs c.store_row-in-loop-row.new.rows (omega (arith, count.ensures)) (omega (arith, inside, l.invariant.places))
    c.in_ok-next.ensures.lanes c.store_row-in-loop-row.ensures.value in
    record {
      places = c.store_row-in-loop-row.ensures.len ∙ l.invariant.places;
      short = omega (arith, l.invariant.short, c.in_ok-next.ensures.short);
      rows = subst (λ xs. HighsAhead w skip o xs (l.len + next.len)) (sym (ap (λ n. take n c.store_row-in-loop-row.new.rows) end ∙ stored))
          (highs-row few before c.in_ok-next.ensures.some);
    }
