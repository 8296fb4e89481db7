use Rattle.std.proofs.{lemmas.List.length-take-le, lemmas.Grind.common_steps, Common.arith}
use Rattle.rice_bits.proofs.lemmas.read.{WindowLemmas.length-window, BlankBits.and-true}
use Rattle.rice_bits.proofs.read.reader.BitReader.align.Goals as goal

pub tick-requires : goal.tick-requires
tick-requires g c = grind (arith, common_steps, length-window)

pub returns-clause-bits : goal.returns-clause-bits
returns-clause-bits g c = grind (arith, common_steps, length-take-le, length-window)

pub returns-clause-rest : goal.returns-clause-rest
returns-clause-rest g c = grind (arith, common_steps, length-window, length-take-le, and-true)

pub returns-clause-steps : goal.returns-clause-steps
returns-clause-steps g c = grind (arith, common_steps, length-window)
