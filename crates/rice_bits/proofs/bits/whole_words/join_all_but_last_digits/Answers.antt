use Rattle.std.proofs.{lemmas.Grind.common_steps, Common.arith}
use Rattle.rice_bits.proofs.lemmas.bits.WholeWords.{value-joins, words-joins}
use Rattle.rice_bits.proofs.bits.whole_words.join_all_but_last_digits.Goals as goal

pub loop-i-init : goal.loop-i-init
loop-i-init c = grind (arith, common_steps, value-joins)

pub loop-i-preserved : goal.loop-i-preserved
loop-i-preserved c = grind (arith, common_steps, words-joins)
