use Rattle.std.proofs.Common.{arith, ◌+◌, ◌∙◌, ap, length}
use Rattle.rice_code.proofs.{Words.common_steps, Words.drop_more, Words.low_word, Words.word, lemmas.encode.PartsInTurn.one_less_times}
use Rattle.rice_code.proofs.encode.fields.put_low.Goals as goal

pub loop-i-preserved : goal.loop-i-preserved
loop-i-preserved c = grind (arith, common_steps, drop_more, low_word, common_steps, one_less_times)
