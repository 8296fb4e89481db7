use Rattle.std.proofs.Common.{◌∙◌, ◌+◌, if◌then◌else◌, sym}
use Rattle.rice_code.proofs.bounds.added_bound.Goals as goal

pub returns-then-pads-clause-value : goal.returns-then-pads-clause-value
returns-then-pads-clause-value c = λ j. c.padded_bound-bits.ensures.value j + (if (sym c.if-pads.true ∙ c.pads.ensures) j then 7 else 0)
