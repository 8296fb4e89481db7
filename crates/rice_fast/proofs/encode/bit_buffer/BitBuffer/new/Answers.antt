use Rattle.rice_fast.proofs.Words.{ap, length, word-nil}
use Rattle.rice_fast.proofs.encode.bit_buffer.BitBuffer.new.Goals as goal

pub returns-clause-bits : goal.returns-clause-bits
returns-clause-bits c = word-nil 0

pub returns-clause-len : goal.returns-clause-len
returns-clause-len c = ap length (word-nil 0)
