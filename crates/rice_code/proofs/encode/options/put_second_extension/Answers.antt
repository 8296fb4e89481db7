use Rattle.std.proofs.Common.{arith}
use Rattle.rice_code.proofs.{lemmas.encode.OptionTexts.word_flag, lemmas.encode.OptionTexts.append_flagged, Words.common_steps}
use Rattle.rice_code.proofs.encode.options.put_second_extension.Goals as goal

pub returns : goal.returns
returns c = grind (arith, common_steps, word_flag, append_flagged)
