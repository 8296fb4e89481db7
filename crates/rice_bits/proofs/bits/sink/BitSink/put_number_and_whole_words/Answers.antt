use Rattle.std.proofs.{Common.arith, Common.length-append, lemmas.Grind.common_steps}
use Rattle.rice_bits.proofs.lemmas.{bits.WordsAndNumbers.length-word, read.WindowLemmas.length-words, bits.SinkBytes.length_viewed, bits.JoinedBits.joined-puts}
use Rattle.rice_bits.proofs.bits.sink.BitSink.put_number_and_whole_words.Goals as goal

pub join_number_and_whole_words-self-inside-requires-clause-room : goal.join_number_and_whole_words-self-inside-requires-clause-room
join_number_and_whole_words-self-inside-requires-clause-room g c = omega (arith, length_viewed _ _ _ _ c.self.invariant c.self.told c.self.view_is, c.requires.room, c.self.told)

pub returns : goal.returns
returns g c = grind (arith, common_steps, length-append, length-word, length-words, joined-puts)
