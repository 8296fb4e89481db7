use Rattle.rice_bits.proofs.lemmas.bits.WordsAndNumbers.{number_of-word}
use Rattle.rice_bits.proofs.laws.words_keep_numbers.Goals as goal

pub returns : goal.returns
returns c = number_of-word
