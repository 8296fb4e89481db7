use Rattle.std.proofs.Common.{◌≡◌, arith}
use Rattle.rice_fast.proofs.encode.coder.BlockCoder.push.Goals as goal

pub hold_some-requires-2 : goal.hold_some-requires-2
hold_some-requires-2 c =
    let given = c.requires.stands in
    let none : c.push_blocks-pushed.result.samples ≡ 0 = omega arith in
    record { stands = (given.0, c.push_blocks-pushed.ensures.kept none given.0 given.1 given.2, given.2) }

pub returns-clause-takes : goal.returns-clause-takes
returns-clause-takes c m h room =
    let none : c.push_blocks-pushed.result.samples ≡ 0 = omega arith in
    c.hold_some-2.ensures.takes m (c.push_blocks-pushed.ensures.kept none m h room) room
