use Rattle.rice_fast.proofs.Words.{arith, nat_tests}
use Rattle.rice_fast.proofs.lemmas.HighParts.{head_after_reference}
use Rattle.rice_fast.proofs.fields.head_ahead.Goals as goal

pub returns-then-this-ne0 : goal.returns-then-this-ne0
returns-then-this-ne0 g c =
    let number = c.number_ahead.ensures in
    let from = c.level_of_pattern-from in
    head_after_reference (grind (arith, nat_tests, c.requires.reference, c.if-this-ne0.true)) c.bits-bits.ensures.value
    number.below number.bits from.ensures.below from.ensures.pattern
