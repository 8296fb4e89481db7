use Rattle.rice_fast.proofs.Words.{ℕ, ◌/◌, ◌^◌, ◌∙◌, length-map, zip2_splat}
use Rattle.rice_fast.proofs.encode.byte_rows.row_cut.Goals as goal

pub returns-clause-value : goal.returns-clause-value
returns-clause-value c = zip2_splat (λ (d s : ℕ). d / 2 ^ s) c.args.row 16 c.args.k c.requires.lanes

pub returns-clause-len : goal.returns-clause-len
returns-clause-len c = rw (returns-clause-value c) (length-map c.args.row (λ (d : ℕ). d / 2 ^ c.args.k) ∙ c.requires.lanes)
