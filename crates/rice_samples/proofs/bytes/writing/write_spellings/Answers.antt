use Rattle.std.proofs.{lemmas.Grind.common_steps, Common.arith, Common.get_or}
use Rattle.rice_samples.proofs.lemmas.bytes.{SamplesInTurn.one_len, SamplesInTurn.one_written, LevelPatterns.word_of_level}
use Rattle.rice_samples.proofs.bytes.writing.write_spellings.Goals as goal

pub loop-i-preserved : goal.loop-i-preserved
loop-i-preserved c = grind (arith, common_steps, get_or, one_len, word_of_level, one_written)
