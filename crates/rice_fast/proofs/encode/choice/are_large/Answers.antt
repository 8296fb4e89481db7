use Rattle.std.proofs.Common.{◌∙◌, ap, arith, length}
use Rattle.rice_fast.proofs.lemmas.encode.LargeResiduals.{last_is_best, so_large, split_is_not_shorter}
use Rattle.rice_fast.proofs.encode.choice.are_large.Goals as goal

pub returns-clause-best : goal.returns-clause-best
returns-clause-best c = λ yes.
    let s = c.args.setting.now in
    let b = c.args.block.now in
    let len = c.len-size.ensures.value ∙ ap length c.residuals.ensures in
    last_is_best s b c.requires.sound (omega (arith, len, c.len-size.ensures.range))
    (so_large s b len c.coded_len-coded.ensures.value c.k_max-limit.ensures.value c.requires.whole (c.digits_above-digits.ensures.above c.k_max-limit.result (omega (arith, c.if-digits-limit.false))))

pub returns-clause-costs : goal.returns-clause-costs
returns-clause-costs c = λ yes.
    let s = c.args.setting.now in
    let b = c.args.block.now in
    let len = c.len-size.ensures.value ∙ ap length c.residuals.ensures in
    split_is_not_shorter s b c.requires.sound c.bits-bits.ensures.legal.bits_to (omega (arith, len, c.len-size.ensures.range))
    (so_large s b len c.coded_len-coded.ensures.value c.k_max-limit.ensures.value c.requires.whole (c.digits_above-digits.ensures.above c.k_max-limit.result (omega (arith, c.if-digits-limit.false))))
