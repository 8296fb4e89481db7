use Rattle.std.proofs.Common.{refl}
use Rattle.rice_bits.proofs.lemmas.bits.WholeWords.{eight_words}
use Rattle.rice_bits.proofs.bits.whole_words.joined_words_of_8_digits.Goals as goal

pub returns : goal.returns
returns c = eight_words c.args.words.now c.args.at c.lowest_byte_of_each-eight.result _ c.swap_bytes.result c.requires c.lowest_byte_of_each-eight.ensures refl c.swap_bytes.ensures
