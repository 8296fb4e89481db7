use Rattle.rice_fast.proofs.Words.{◌++◌, ◌∙◌, ap, replicate, take}
use Rattle.rice_fast.proofs.lemmas.vectors.LaneRanks.{moved_twice}
use Rattle.rice_fast.proofs.vectors.lanes.Lanes.moved_by_eight.Goals as goal

pub returns : goal.returns
returns g c = c.moved_by_four-2.ensures ∙ (ap (λ v. take g.Self.Lanes.COUNT (replicate 4 0 ++ v)) c.moved_by_four.ensures ∙ moved_twice g.Self.Lanes.COUNT 4 4 (g.Self.Lanes.numbers c.args.self))
