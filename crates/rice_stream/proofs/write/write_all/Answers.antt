use Rattle.std.proofs.Common.{ap, arith, sym, length, take, drop, take-append-drop, length-drop}
use Rattle.rice_stream.proofs.write.write_all.Goals as goal

pub returns-in-Err-clause-err : goal.returns-in-Err-clause-err
returns-in-Err-clause-err g c =
    let bytes = c.args.bytes.now in
    let h = c.in-Err.ensures.err in
    let n = c.in-Err.field-0 in (
      record {
        front = take n bytes;
        missing = drop n bytes;
        split = sym (take-append-drop n bytes);
        short = λ e. omega (arith, ap length e, length-drop n bytes, h.0);
        took = h.1;
      },
      h.2,
    )
