use Rattle.std.proofs.{lemmas.Grind.common_steps, Common.ap, Common.arith}
use Rattle.rice_bits.proofs.lemmas.{read.ReaderLemmas.not_refused, read.ReaderLemmas.takes_passed, read.RefilledBytes.refills-buffered, bits.WordsAndNumbers.length-word}
use Rattle.rice_bits.proofs.read.reader.BitReader.take_if_more_buffered.Goals as goal

pub returns-clause-some : goal.returns-clause-some
returns-clause-some g c = grind (arith, common_steps, not_refused, takes_passed, refills-buffered)

pub returns-clause-steps : goal.returns-clause-steps
returns-clause-steps g c =
    omega (arith, c.in_ok-number.ensures.some.1.taken, length-word c.args.width c.in_ok-number.number, ap (λ r. r.taken) c.self.view_is)
