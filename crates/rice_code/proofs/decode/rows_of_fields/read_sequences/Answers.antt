use Rattle.std.proofs.Common.{arith, length, refl, take, ◌∙◌}
use Rattle.rice_code.proofs.Words.{leb-true, leb-false, min-eq_left, err_from_is_err_and, common_steps}
use Rattle.rice_code.proofs.lemmas.decode.RowsOfFields.{row_of_counts-none, row_of_counts-more, row_of_counts-whole, sequences-stop}
use Rattle.rice_code.proofs.decode.rows_of_fields.read_sequences.Goals as goal

pub loop-done-init : goal.loop-done-init
loop-done-init g c = grind (arith, common_steps, row_of_counts-none)

pub returns-in_err-zeros-clause-err : goal.returns-in_err-zeros-clause-err
returns-in_err-zeros-clause-err g c =
    let r = c.loop-done.invariant.row in
    let e = c.in_err-zeros.ensures.err r.takes.going in
    let p = err_from_is_err_and c.from_residual.result c.from_residual.ensures.1 in
    rw (p.1, p.2) (sequences-stop r.values (length c.args.counts.now) e.0 r.takes (omega (arith, r.len, c.loop-done-test.true, c.loop-done.auto.counts)) e.1)

pub returns-clause-ok : goal.returns-clause-ok
returns-clause-ok g c = row_of_counts-whole c.loop-done.invariant.row (omega (arith, c.loop-done-test.false, c.loop-done.auto)) c.loop-done.auto.counts

pub loop-done-preserved : goal.loop-done-preserved
loop-done-preserved g c = record {
  row = row_of_counts-more _ c.in_ok-zeros.zeros c.min.result c.loop-done.counts (omega (arith, c.loop-done-test.true, c.loop-done.auto.counts))
      c.loop-done.invariant.row c.in_ok-zeros.ensures.ok
      (λ e. (c.min.ensures ∙ min-eq_left (leb-true c.in_ok-zeros.zeros c.args.most e), leb-true c.in_ok-zeros.zeros c.args.most e))
      (λ e. leb-false c.in_ok-zeros.zeros c.args.most e);
  steps = omega (arith, c.in_ok-zeros.ensures.steps, c.loop-done.invariant.steps);
  limit = c.in_ok-zeros.ensures.most;
}
