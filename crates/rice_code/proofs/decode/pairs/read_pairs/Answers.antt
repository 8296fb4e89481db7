use Rattle.std.proofs.Common.{arith, ◌+◌, ◌/◌, length, take}
use Rattle.rice_code.proofs.Words.{count_pairs, pair_codes, err_from_is_err_and}
use Rattle.rice_code.proofs.lemmas.decode.RowsOfFields.{pairs-none, pairs-more, sequences-stop, two_more}
use Rattle.rice_code.proofs.decode.pairs.read_pairs.Goals as goal

pub loop-done-init : goal.loop-done-init
loop-done-init g c = record { row = pairs-none c.args.reader.now c.args.meter.now c.requires.ready.going; limit = c.requires.ready.limit }

pub returns-in_err-g-clause-err : goal.returns-in_err-g-clause-err
returns-in_err-g-clause-err g c =
    let r = c.loop-done.invariant.row in
    let e = c.in_err-g.ensures.err r.takes.going in
    let values = take (c.loop-done.done + c.loop-done.done) c.loop-done.out in
    let p = err_from_is_err_and c.from_residual.result c.from_residual.ensures.1 in
    rw (p.1, p.2) (sequences-stop (pair_codes values) (length c.args.out.now / 2)
    e.0 r.takes (omega (arith, count_pairs c.loop-done.done values r.len, c.loop-done-test.true)) e.1)

pub loop-done-preserved : goal.loop-done-preserved
loop-done-preserved g c = record {
  row = pairs-more c.pair_by_search-a.result.0 c.pair_by_search-a.result.1 c.take_fs.new.meter
      c.loop-done.invariant.row c.in_ok-g.ensures.ok (record { code = c.pair_by_search-a.ensures.pair; most = c.pair_by_search-a.ensures.turns }) c.in_ok-g.ensures.steps
      c.pair_by_search-a.ensures.steps
      (two_more c.loop-done.done c.loop-done.out c.pair_by_search-a.result.0 c.pair_by_search-a.result.1 (omega (arith, c.loop-done-test.true, c.loop-done.auto.out)));
  limit = c.in_ok-g.ensures.most;
}
