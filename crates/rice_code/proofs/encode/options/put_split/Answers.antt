use Rattle.std.proofs.Common.{arith}
use Rattle.rice_code.proofs.{lemmas.encode.OptionTexts.sent_are, lemmas.encode.OptionTexts.split_is_joined, Words.common_steps}
use Rattle.rice_code.proofs.encode.options.put_split.Goals as goal

pub put_low-requires-clause-room : goal.put_low-requires-clause-room
put_low-requires-clause-room c = grind (arith, common_steps, sent_are)

pub put_high-requires-clause-room : goal.put_high-requires-clause-room
put_high-requires-clause-room c = grind (arith, common_steps, sent_are)

pub returns : goal.returns
returns c = grind (arith, common_steps, sent_are, split_is_joined)
