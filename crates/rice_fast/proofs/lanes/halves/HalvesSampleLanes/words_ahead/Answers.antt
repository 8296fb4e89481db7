use Rattle.rice_fast.proofs.Words.{◌≤◌, arith}
use Rattle.rice_fast.proofs.lemmas.{ahead.BitsAhead.there_after}
use Rattle.rice_fast.proofs.lanes.halves.HalvesSampleLanes.words_ahead.Goals as goal

pub eight_words_from-requires-clause-room : goal.eight_words_from-requires-clause-room
eight_words_from-requires-clause-room c =
    let few : c.args.width ≤ 9 = omega arith in
    omega (arith, few, c.from-at.ensures.room, there_after c.args.skip 128 c.args.ahead.now (omega (arith, c.requires.there)))
