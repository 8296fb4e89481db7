use Rattle.std.proofs.Common.{arith, sym, ◌∙◌, refl}
use Rattle.std.proofs.lemmas.Grind.{common_steps}
use Rattle.rice_bits.proofs.lemmas.{read.RefilledBytes.refills_nothing, read.RefilledBytes.refills-supplied, bits.WordsAndNumbers.length-word, read.ReaderLemmas.takes_passed, read.BlankBits.and-true}
use Rattle.rice_bits.proofs.read.reader.BitReader.take_some_digits.Goals as goal

pub returns-in-Err-clause-err : goal.returns-in-Err-clause-err
returns-in-Err-clause-err g c = rw (← c.self.view_is) record {
  middle = g.I.Intake.left c.self.inside.intake;
  refills = refills_nothing _ _ c.in-Err.ensures.err.0;
  refuses = rw (c.in-Err.ensures.taken, c.in-Err.ensures.blank) c.in-Err.ensures.err.2;
  taken = omega (arith, c.in-Err.ensures.taken);
  blank = c.in-Err.ensures.blank ∙ sym (and-true _);
  buffered = c.in-Err.ensures.err.1;
  refusal = refl;
}

pub returns-clause-ok : goal.returns-clause-ok
returns-clause-ok g c = grind (arith, common_steps, length-word, takes_passed, refills-supplied)

pub returns-clause-steps : goal.returns-clause-steps
returns-clause-steps g c = grind (arith, common_steps, length-word)
