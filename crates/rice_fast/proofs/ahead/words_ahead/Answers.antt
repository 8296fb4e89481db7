use Rattle.std.proofs.Common.{◌*◌, ◌∙◌, arith}
use Rattle.rice_fast.proofs.lemmas.ahead.BitsAhead.{first-from, there_after}
use Rattle.rice_fast.proofs.ahead.words_ahead.Goals as goal

pub sixteen_words_from-requires-clause-room : goal.sixteen_words_from-requires-clause-room
sixteen_words_from-requires-clause-room c = omega (arith, c.requires.width, c.from-at.ensures.room, there_after c.args.skip 128 c.args.ahead.now c.requires.there)

pub returns-clause-bits : goal.returns-clause-bits
returns-clause-bits c =
    c.sixteen_words_from.ensures.bits
    ∙ first-from (16 * c.args.width) c.from-at.ensures (there_after c.args.skip (16 * c.args.width) c.args.ahead.now (omega (arith, c.requires.there, c.requires.width)))
