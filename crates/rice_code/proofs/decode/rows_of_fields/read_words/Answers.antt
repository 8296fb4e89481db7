use Rattle.std.proofs.Common.{arith, ◌^◌, ◌<◌, [], length, refl}
use Rattle.rice_code.proofs.Words.{word, err_from_is_err_and, common_steps}
use Rattle.rice_code.proofs.lemmas.decode.RowsOfFields.{row-none, row-word, row-whole, words-stop}
use Rattle.rice_code.proofs.decode.rows_of_fields.read_words.Goals as goal

pub loop-done-init : goal.loop-done-init
loop-done-init g c = grind (arith, common_steps, row-none)

pub returns-in_err-words-clause-err : goal.returns-in_err-words-clause-err
returns-in_err-words-clause-err g c =
    let e = c.in_err-words.ensures.err c.loop-done.invariant.row.takes.going in
    let p = err_from_is_err_and c.from_residual.result c.from_residual.ensures.1 in
    rw (p.1, p.2) (words-stop c.args.width (λ v. v < 2 ^ c.args.width) 1 (length c.args.words.now) c.loop-done.invariant.row e.2 (omega (arith, e.1))
    (omega (arith, c.loop-done-test.true, c.loop-done.auto.words)))

pub returns-clause-ok : goal.returns-clause-ok
returns-clause-ok g c =
    row-whole (λ v. v < 2 ^ c.args.width) c.loop-done.invariant.row (omega (arith, c.loop-done-test.false, c.loop-done.auto)) c.loop-done.auto.words

pub loop-done-preserved : goal.loop-done-preserved
loop-done-preserved g c = record {
  row = row-word c.args.width c.in_ok-words.field-0 c.loop-done.words (omega (arith, c.loop-done-test.true, c.loop-done.auto.words))
      c.loop-done.invariant.row c.in_ok-words.ensures.ok.0 c.in_ok-words.ensures.ok.1;
  steps = omega (arith, c.in_ok-words.ensures.steps, c.loop-done.invariant.steps);
  limit = c.in_ok-words.ensures.limit;
}
