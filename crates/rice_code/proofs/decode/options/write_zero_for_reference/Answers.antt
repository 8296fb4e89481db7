use Rattle.std.proofs.Common.{◌∙◌, sym}
use Rattle.std.proofs.lemmas.List.{take_more_set}
use Rattle.rice_code.proofs.lemmas.decode.OptionsRead.{zero-place}
use Rattle.rice_code.proofs.decode.options.write_zero_for_reference.Goals as goal

pub returns-then-is_some-clause-place : goal.returns-then-is_some-clause-place
returns-then-is_some-clause-place c = take_more_set c.args.residuals.now 0 0 c.requires ∙ zero-place c.args.reference (sym c.is_some.ensures ∙ c.if-is_some.true)
