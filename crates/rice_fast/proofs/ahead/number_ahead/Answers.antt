use Rattle.std.proofs.Common.{◌∙◌, arith}
use Rattle.rice_fast.proofs.lemmas.ahead.BitsAhead.{first-from, there_after}
use Rattle.rice_fast.proofs.ahead.number_ahead.Goals as goal

pub returns-clause-bits : goal.returns-clause-bits
returns-clause-bits c =
    c.number_from.ensures.bits
    ∙ first-from c.args.width c.from-at.ensures (there_after c.args.skip c.args.width c.args.ahead.now (omega (arith, c.requires.there, c.requires.width)))
