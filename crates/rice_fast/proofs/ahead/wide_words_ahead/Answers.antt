use Rattle.std.proofs.Common.{◌+◌, ◌*◌, ◌∙◌, arith}
use Rattle.rice_fast.proofs.lemmas.ahead.BitsAhead.{first-from, there_after}
use Rattle.rice_fast.proofs.ahead.wide_words_ahead.Goals as goal

pub wide_words_from-requires-clause-room : goal.wide_words_from-requires-clause-room
wide_words_from-requires-clause-room c =
    omega (arith, c.requires.width, c.from-at.ensures.room, there_after c.args.skip (8 * c.args.width + 64) c.args.ahead.now (omega (arith, c.requires.there)))

pub returns-clause-bits : goal.returns-clause-bits
returns-clause-bits c =
    c.wide_words_from.ensures.bits
    ∙ first-from (8 * c.args.width) c.from-at.ensures (there_after c.args.skip (8 * c.args.width) c.args.ahead.now (omega (arith, c.requires.there, c.requires.width)))
