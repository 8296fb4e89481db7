use Rattle.std.proofs.Common.{arith, sym, ◌∙◌, refl}
use Rattle.std.proofs.lemmas.{List.length-replicate, Grind.common_steps}
use Rattle.rice_bits.proofs.lemmas.read.{RefilledBytes.refills_nothing, RefilledBytes.refills-supplied, WindowLemmas.length-window, ReaderLemmas.takes_passed, BlankBits.and-true}
use Rattle.rice_bits.proofs.read.reader.BitReader.take_some_of_sequence.Goals as goal

pub returns-in-Err-clause-err : goal.returns-in-Err-clause-err
returns-in-Err-clause-err g c = rw (← c.self.view_is) record {
  middle = g.I.Intake.left c.self.inside.intake;
  refills = refills_nothing _ _ c.in-Err.ensures.err.0;
  refuses = rw (c.in-Err.ensures.taken, c.in-Err.ensures.blank) c.in-Err.ensures.err.2;
  taken = omega (arith, c.in-Err.ensures.taken);
  blank = c.in-Err.ensures.blank ∙ sym (and-true _);
  buffered = c.in-Err.ensures.err.1;
  refusal = refl;
}

pub tick-requires : goal.tick-requires
tick-requires g c = grind (arith, common_steps, length-window)

pub tick-requires-2 : goal.tick-requires-2
tick-requires-2 g c = grind (arith, common_steps, length-window)

pub returns-clause-zeros : goal.returns-clause-zeros
returns-clause-zeros g c _ = grind (arith, common_steps, takes_passed, refills-supplied, length-replicate)
