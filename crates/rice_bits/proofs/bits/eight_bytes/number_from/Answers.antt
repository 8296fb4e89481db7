use Rattle.rice_bits.proofs.lemmas.read.WindowLemmas.{number-inside}
use Rattle.rice_bits.proofs.bits.eight_bytes.number_from.Goals as goal

pub returns-clause-bits : goal.returns-clause-bits
returns-clause-bits c =
    rw c.digits_after.ensures (number-inside c.args.bytes.now c.args.at c.load.result c.args.width c.requires.width c.requires.room c.load.ensures)
