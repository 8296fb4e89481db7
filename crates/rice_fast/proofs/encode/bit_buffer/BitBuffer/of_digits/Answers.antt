use Rattle.rice_bits.proofs.lemmas.bits.WordsAndNumbers.{length-word}
use Rattle.rice_fast.proofs.encode.bit_buffer.BitBuffer.of_digits.Goals as goal

pub returns-clause-len : goal.returns-clause-len
returns-clause-len c = length-word c.args.width c.args.value
