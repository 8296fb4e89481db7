use Rattle.std.proofs.Common.{arith}
use Rattle.rice_fast.proofs.lemmas.encode.JoinedWords.{length-word_is}
use Rattle.rice_fast.proofs.encode.bit_buffer.BitBuffer.make_room.Goals as goal

pub returns-else-self-width-gt56-clause-fits : goal.returns-else-self-width-gt56-clause-fits
returns-else-self-width-gt56-clause-fits c = omega (arith, length-word_is c.self.inside.width c.self.inside.value c.args.self.now c.self.view_is, c.if-self-width-gt56.false)
