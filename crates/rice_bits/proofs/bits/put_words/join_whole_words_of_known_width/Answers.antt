use Rattle.std.proofs.Common.{arith}
use Rattle.rice_bits.proofs.lemmas.bits.WholeWords.{last-joins}
use Rattle.rice_bits.proofs.bits.put_words.join_whole_words_of_known_width.Goals as goal

pub returns : goal.returns
returns c =
    last-joins c.args.count c.args.width c.requires.width c.requires.eights.0 (omega arith) (omega (arith, c.requires.count.1)) c.join_all_but_last_digits-all.ensures c.join_digits_in_memory.ensures
