use Rattle.rice_fast.proofs.Words.{◌/◌, ◌^◌, arith}
use Rattle.rice_fast.proofs.lemmas.encode.HighParts.{row_summed}
use Rattle.rice_fast.proofs.encode.high_parts.sum_shifted.Goals as goal

pub loop-i-preserved : goal.loop-i-preserved
loop-i-preserved c =
    let l = c.loop-i in
    let more = row_summed (λ m. m / 2 ^ c.args.k) l.i c.args.numbers.now c.row_at.ensures.value c.row_cut.ensures.value in
    record { value = omega (arith, more, c.row_sum-sum.ensures.value, l.invariant.value); few = omega (arith, l.invariant.few, c.row_sum-sum.ensures.limit) }
