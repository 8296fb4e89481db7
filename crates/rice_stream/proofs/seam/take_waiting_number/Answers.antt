use Rattle.std.proofs.Common.{rules, arith, ◌<◌, slice_index_or}
use Rattle.rice_stream.proofs.lemmas.Seams.{no_bits, one_byte, byte_digits, byte_fits}
use Rattle.rice_stream.proofs.seam.take_waiting_number.Goals as goal

pub returns-then-count-eq0-clause-digits : goal.returns-then-count-eq0-clause-digits
returns-then-count-eq0-clause-digits c = no_bits c.args.sink.now (omega (arith, c.len-count.ensures.value, c.if-count-eq0.true))

pub bounds-whole-0 : goal.bounds-whole-0
bounds-whole-0 c = one_byte c.args.sink.now c.pad.new.self c.whole.result.now c.pad.ensures.bits c.whole.ensures (omega (arith, c.len-count.ensures.value, c.if-count-eq0.false)) c.requires

pub returns-clause-digits : goal.returns-clause-digits
returns-clause-digits c = byte_digits c.args.sink.now c.pad.new.self c.whole.result.now c.len-count.result c.pad.ensures.bits c.whole.ensures
    (omega (arith, c.len-count.ensures.value, c.if-count-eq0.false)) c.requires c.len-count.ensures.value

pub returns-clause-fits : goal.returns-clause-fits
returns-clause-fits c =
    let byte : slice_index_or c.whole.result.now 0 0 < 256 = search rules in
    byte_fits _ _ _ byte c.requires c.len-count.ensures.value
