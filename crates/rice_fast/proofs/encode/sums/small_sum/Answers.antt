use Rattle.rice_fast.proofs.Words.{◌^◌, arith, sym, w32, adds_fit, sum_fits, sums_below, sum_added, lanes_added, whole_sum, total_below}
use Rattle.rice_fast.proofs.lemmas.encode.HighParts.{chunk_uncut}
use Rattle.rice_fast.proofs.encode.sums.small_sum.Goals as goal

pub overflow_add-sums : goal.overflow_add-sums
overflow_add-sums c =
    let l = c.loop-i in
    let xs = c.args.items.now in
    rw (sym (chunk_uncut l.i xs (omega arith)))
    (adds_fit w32 l.sums _ (sums_below 0 l.i (2 ^ 32) xs l.sums l.invariant.lanes (omega arith) c.requires.small l.invariant.value))

pub loop-i-preserved : goal.loop-i-preserved
loop-i-preserved c =
    let l = c.loop-i in
    let xs = c.args.items.now in
    record {
      lanes = rw (sym (chunk_uncut l.i xs (omega arith))) (lanes_added 0 l.i xs l.sums l.invariant.lanes (omega arith));
      value = rw (sym (chunk_uncut l.i xs (omega arith))) (sum_added 0 l.i xs l.sums l.invariant.lanes (omega arith) l.invariant.value);
    }

pub overflow_add-result : goal.overflow_add-result
overflow_add-result c = sum_fits w32 0 c.loop-i.sums (total_below 0 c.loop-i.i (2 ^ 32) c.args.items.now c.loop-i.sums c.requires.small c.loop-i.invariant.value)

pub returns : goal.returns
returns c = whole_sum 0 c.loop-i.i c.args.items.now c.loop-i.sums c.requires.chunks c.loop-i-test.false c.loop-i.invariant.value
