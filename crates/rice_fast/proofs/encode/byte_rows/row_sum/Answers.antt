use Rattle.std.proofs.Common.{arith}
use Rattle.rice_fast.proofs.lemmas.encode.HighParts.{bytes_summed, few_summed, summed_fit}
use Rattle.rice_fast.proofs.encode.byte_rows.row_sum.Goals as goal

pub overflow_add-result : goal.overflow_add-result
overflow_add-result c = summed_fit c.args.row c.fits-row.1 c.requires

pub returns-clause-value : goal.returns-clause-value
returns-clause-value c = bytes_summed c.args.row

pub returns-clause-limit : goal.returns-clause-limit
returns-clause-limit c = omega (arith, bytes_summed c.args.row, few_summed c.args.row c.fits-row.1, c.requires)
