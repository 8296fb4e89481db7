use Rattle.std.proofs.Common.{ℕ, List, ◌∙◌, ◌*◌, ap, sym, subst, None}
use Rattle.rice_code.proofs.{lemmas.encode.OpenSegments.next_is_open, Words.blocks_left, Words.CoderState, Words.IsOpen}
use Rattle.rice_code.proofs.encode.open_segment.OpenSegment.begin_next.Goals as goal

pub invariant_of-self : goal.invariant_of-self
invariant_of-self c =
    let i = c.self.inside in
    let s = i.setting in
    let st : CoderState = record { setting = s; residuals = i.residuals; reference = i.reference; previous = i.previous; start = i.start } in
    let end = c.residuals_from-self-inside in
    let after = next_is_open st i.end end.result c.self.invariant (end.ensures.value ∙ ap (λ v. s.block * blocks_left s v) c.next_start-start.ensures) in
    let same : List ℕ → ℕ → CoderState = λ ds v. record { setting = s; residuals = ds; reference = None; previous = i.previous; start = v } in
    subst (λ (v : CoderState). IsOpen v end.result) (λ j. same (sym c.clear.ensures j) (sym c.next_start-start.ensures j)) after
