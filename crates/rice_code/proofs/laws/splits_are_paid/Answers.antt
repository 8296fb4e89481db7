use Rattle.rice_code.proofs.lemmas.cost.BestSplitsPaid.{split_is_paid}
use Rattle.rice_code.proofs.laws.splits_are_paid.Goals as goal

pub returns : goal.returns
returns c = split_is_paid
