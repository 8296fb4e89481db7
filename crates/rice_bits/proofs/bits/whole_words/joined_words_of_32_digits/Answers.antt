use Rattle.std.proofs.Common.{rules}
use Rattle.rice_bits.proofs.lemmas.bits.WholeWords.{two_words}
use Rattle.rice_bits.proofs.bits.whole_words.joined_words_of_32_digits.Goals as goal

pub returns : goal.returns
returns c = two_words c.args.words.now c.args.at c.join.result c.requires (search rules) c.join.ensures
