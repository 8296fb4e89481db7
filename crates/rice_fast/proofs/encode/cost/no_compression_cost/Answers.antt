use Rattle.rice_fast.proofs.Words.{◌*◌, ◌≤◌, ap, arith, length, all_sent}
use Rattle.rice_fast.proofs.encode.cost.no_compression_cost.Goals as goal

pub returns-clause-value : goal.returns-clause-value
returns-clause-value c =
    let s = c.args.setting.now in
    let block = c.args.block.now in
    let some : 1 ≤ length block.residuals = omega (arith, c.requires.len, c.bits-bits.ensures.legal.block) in
    let sent = ap (λ n. n * s.bits) c.coded_len.ensures.value in
    let bits = ap (λ b. c.coded_len.result * b) c.bits-bits.ensures.value in
    omega (arith, all_sent s block.reference block.residuals some, sent, bits)
