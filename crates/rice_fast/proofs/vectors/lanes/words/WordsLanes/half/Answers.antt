use Rattle.rice_fast.proofs.Words.{◌∙◌, ◌/◌, ◌^◌, ℕ, zip2_splat}
use Rattle.rice_fast.proofs.vectors.lanes.words.WordsLanes.half.Goals as goal

pub returns : goal.returns
returns c = c.of.ensures ∙ zip2_splat (λ (d s : ℕ). d / 2 ^ s) c.args.self.lanes 8 1 c.args.self.len
