use Rattle.std.proofs.{lemmas.Grind.common_steps, Common.arith}
use Rattle.rice_bits.proofs.lemmas.read.{ReaderLemmas.not_refused, ReaderLemmas.takes_passed, RefilledBytes.refills-buffered, WindowLemmas.length-window}
use Rattle.rice_bits.proofs.read.reader.BitReader.take_fs_if_soon.Goals as goal

pub tick-requires : goal.tick-requires
tick-requires g c = grind (arith, common_steps, length-window)

pub returns-clause-some : goal.returns-clause-some
returns-clause-some g c = grind (arith, common_steps, not_refused, takes_passed, refills-buffered)
