use Rattle.rice_bits.proofs.lemmas.read.WindowLemmas.{bits-ahead}
use Rattle.rice_bits.proofs.bits.eight_bytes.at_least_57_bits_from.Goals as goal

pub returns : goal.returns
returns c = bits-ahead c.args.bytes.now c.args.at c.load.result c.requires c.load.ensures
