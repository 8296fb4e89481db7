use Rattle.std.proofs.Common.{rules}
use Rattle.rice_fast.proofs.lemmas.encode.StandingCoders.{pushes_nothing}
use Rattle.rice_fast.proofs.encode.coder.BlockCoder.end_part.Goals as goal

pub returns-then-self-block : goal.returns-then-self-block
returns-then-self-block c m xs h room = pushes_nothing h (search rules) c.requires.inside

pub end_if_whole-requires-clause-stands : goal.end_if_whole-requires-clause-stands
end_if_whole-requires-clause-stands c =
    let given = c.requires.stands in
    (given.0, given.1, c.put_part.ensures.stands given.0 given.1 given.2 given.3, given.3)

pub returns : goal.returns
returns c m xs h room = c.end_if_whole.ensures.stands m xs (c.put_part.ensures.stands m xs h room) room
