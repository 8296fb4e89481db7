use Rattle.rice_code.proofs.lemmas.decode.SamplesRestored.{IsRestored}
use Rattle.rice_code.proofs.decode.restoring.restore_block.Given as goal

abbrev pub invariant-loop-i : goal.invariant-loop-i
invariant-loop-i l = IsRestored l.setting l.block l.p l.reference l.residuals l.i l.samples.items l.last
