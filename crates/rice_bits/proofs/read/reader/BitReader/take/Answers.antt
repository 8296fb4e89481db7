use Rattle.std.proofs.Common.{◌+◌, arith, ap, ◌∙◌}
use Rattle.rice_bits.proofs.lemmas.bits.WordsAndNumbers.{length-word}
use Rattle.rice_bits.proofs.read.reader.BitReader.take.Goals as goal

pub returns-in-Some-clause-taken : goal.returns-in-Some-clause-taken
returns-in-Some-clause-taken g c =
    c.in-Some.ensures.some.1.taken ∙ ap (λ n. c.args.self.now.taken + n) (length-word c.args.width c.in-Some.value)

pub returns-in-Some-clause-most : goal.returns-in-Some-clause-most
returns-in-Some-clause-most g c = omega (arith, c.in-Some.ensures.some.1.taken, length-word c.args.width c.in-Some.value)
