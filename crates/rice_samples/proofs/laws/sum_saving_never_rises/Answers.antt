use Rattle.rice_samples.proofs.lemmas.blocks.FallingSums.{sum_saving}
use Rattle.rice_samples.proofs.laws.sum_saving_never_rises.Goals as goal

pub returns : goal.returns
returns c = sum_saving
