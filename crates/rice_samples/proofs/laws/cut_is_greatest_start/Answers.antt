use Rattle.rice_samples.proofs.laws.cut_is_greatest_start.Goals as goal
use Rattle.rice_samples.proofs.lemmas.setting.CutLemmas.{cut_is_start, cut_is_greatest}

pub returns-clause-start : goal.returns-clause-start
returns-clause-start c = cut_is_start

pub returns-clause-greatest : goal.returns-clause-greatest
returns-clause-greatest c = cut_is_greatest
