use Rattle.rice_code.proofs.lemmas.cost.BlockBounds.{run_is_never_longer}
use Rattle.rice_code.proofs.laws.runs_are_never_longer.Goals as goal

pub returns : goal.returns
returns c = run_is_never_longer
