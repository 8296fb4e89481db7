use Rattle.rice_fast.proofs.lemmas.Pairs.{stands_for}
use Rattle.rice_fast.proofs.pairs.pair_of.Goals as goal

pub returns : goal.returns
returns c = stands_for c.args.code c.requires
