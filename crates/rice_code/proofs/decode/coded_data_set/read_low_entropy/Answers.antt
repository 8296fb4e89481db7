use Rattle.std.proofs.{lemmas.Result.err_from_is_err_and, lemmas.Grind.common_steps, Common.arith}
use Rattle.rice_code.proofs.lemmas.decode.SetsRead.{low_bit_cut, second_low_cut, run_low_cut, second_low, run_low}
use Rattle.rice_code.proofs.decode.coded_data_set.read_low_entropy.Goals as goal

pub returns-in_err-bit-clause-err : goal.returns-in_err-bit-clause-err
returns-in_err-bit-clause-err g c =
    let e = c.in_err-bit.ensures.err c.requires.ready.going in
    let p = err_from_is_err_and c.from_residual.result c.from_residual.ensures.1 in
    rw (p.1, p.2) (low_bit_cut c.args.meter.now c.take.new.meter c.args.setting.now c.args.block e.1 e.2 c.in_err-bit.ensures.steps)

pub returns-then-bit-eq0-clause-ok : goal.returns-then-bit-eq0-clause-ok
returns-then-bit-eq0-clause-ok g c =
    run_low c.take.new.meter c.in_ok-reference.zeros
    (rw c.if-bit-eq0.true at c.in_ok-bit.ensures.ok.1) c.in_ok-bit.ensures.steps c.in_ok-reference.ensures.reference c.in_ok-reference.ensures.ok c.in_ok-reference.ensures.steps

pub returns-in_err-reference-clause-err : goal.returns-in_err-reference-clause-err
returns-in_err-reference-clause-err g c =
    let e = c.in_err-reference.ensures.err in
    let p = err_from_is_err_and c.from_residual-in_err-reference.result c.from_residual-in_err-reference.ensures.1 in
    rw (p.1, p.2) (run_low_cut c.take.new.meter c.args.setting.now c.args.block
    (rw c.if-bit-eq0.true at c.in_ok-bit.ensures.ok.1) c.in_ok-bit.ensures.steps e.1 c.in_err-reference.ensures.steps e.2)

pub returns-clause-ok : goal.returns-clause-ok
returns-clause-ok g c = grind (arith, common_steps, second_low)

pub returns-in_err-head-clause-err : goal.returns-in_err-head-clause-err
returns-in_err-head-clause-err g c = grind (arith, common_steps, err_from_is_err_and, second_low_cut)
