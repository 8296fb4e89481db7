use Rattle.std.proofs.Common.{arith}
use Rattle.rice_bits.proofs.lemmas.bits.{WordsAndNumbers.length-word, SinkBytes.length_viewed, JoinedBits.joined-puts}
use Rattle.rice_bits.proofs.bits.sink.BitSink.put_up_to_56_digits.Goals as goal

pub join_digits_in_memory-self-inside-requires-clause-room : goal.join_digits_in_memory-self-inside-requires-clause-room
join_digits_in_memory-self-inside-requires-clause-room g c = omega (arith, length_viewed _ _ _ _ c.self.invariant c.self.told c.self.view_is, c.requires.room, c.self.told)

pub returns : goal.returns
returns g c = joined-puts c.self.view_is c.join_digits_in_memory-self-inside.ensures (length-word c.args.width c.args.value) c.tick.ensures
