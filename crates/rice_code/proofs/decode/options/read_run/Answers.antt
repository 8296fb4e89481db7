use Rattle.std.proofs.Common.{◌++◌, false, replicate}
use Rattle.rice_code.proofs.{Words.takes-append, Words.stops-append, Words.err_from_is_err_and, Words.reference_bits, lemmas.decode.OptionsRead.run_cut, lemmas.decode.OptionsRead.run_cut_at_reference}
use Rattle.rice_code.proofs.decode.options.read_run.Goals as goal

pub returns-in_err-reference-clause-err : goal.returns-in_err-reference-clause-err
returns-in_err-reference-clause-err g c =
    let e = c.in_err-reference.ensures.err in
    let p = err_from_is_err_and c.from_residual.result c.from_residual.ensures.1 in
    rw (p.1, p.2) ((e.0, e.3, run_cut_at_reference c.args.block e.0 e.1 e.2))

pub returns-clause-ok : goal.returns-clause-ok
returns-clause-ok g c =
    takes-append c.args.reader.now c.read_reference.new.reader c.take_fs.new.self _ _ c.in_ok-reference.ensures.ok c.in_ok-zeros.ensures.ok

pub returns-in_err-zeros-clause-err : goal.returns-in_err-zeros-clause-err
returns-in_err-zeros-clause-err g c =
    let e = c.in_err-zeros.ensures.err c.in_ok-reference.ensures.ok.going in
    let p = err_from_is_err_and c.from_residual-in_err-zeros.result c.from_residual-in_err-zeros.ensures.1 in
    rw (p.1, p.2) (
      reference_bits c.args.setting.now c.in_ok-reference.reference ++ replicate e.0 false,
      stops-append c.args.reader.now c.read_reference.new.reader c.take_fs.new.self _ _ c.in_err-zeros.field-0.0 c.in_ok-reference.ensures.ok e.1,
      run_cut c.args.block c.in_ok-reference.reference e.0 c.in_ok-reference.ensures.reference,
    )
