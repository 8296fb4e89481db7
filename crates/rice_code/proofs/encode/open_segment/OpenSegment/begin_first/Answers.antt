use Rattle.std.proofs.Common.{List, ℕ, subst, sym, None, pos}
use Rattle.rice_code.{proofs.lemmas.encode.OpenSegments.first_is_open, specs.encode.OpenSegment.IsOpen}
use Rattle.rice_code.proofs.encode.open_segment.OpenSegment.begin_first.Goals as goal

pub invariant_of-self : goal.invariant_of-self
invariant_of-self c =
    let s = c.self.inside.setting in
    let end = c.residuals_from-self-inside in
    let P : List ℕ → Type 0 = λ ds. IsOpen (record { setting = s; residuals = ds; reference = None; previous = pos 0; start = 0 }) end.result in
    subst P (sym c.clear.ensures) (first_is_open s end.result end.ensures.legal end.ensures.value)
