use Rattle.rice_bits.proofs.lemmas.bits.WordsAndNumbers.{word-number_of}
use Rattle.rice_bits.proofs.laws.numbers_keep_bits.Goals as goal

pub returns : goal.returns
returns c = word-number_of
