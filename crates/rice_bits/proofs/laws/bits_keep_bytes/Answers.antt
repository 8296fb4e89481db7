use Rattle.rice_bits.proofs.lemmas.bits.BytesAndBits.{whole-bits, each_byte}
use Rattle.rice_bits.proofs.laws.bits_keep_bytes.Goals as goal

pub returns : goal.returns
returns c bytes rest fit short = whole-bits bytes rest (each_byte bytes fit) short
