use Rattle.rice_fast.proofs.Words.{slice_set, ◌∙◌, cond, ◌&&◌, subst, sym, rules, w64, FitsSigned, Some, ◌++◌, ◌∷◌, [], to_z-of_z, pattern, rank, StandsAfter}
use Rattle.rice_fast.proofs.lemmas.encode.TakenSamples.{one_held, with_held}
use Rattle.rice_fast.proofs.encode.coder.BlockCoder.hold.Goals as goal

pub returns-clause-stands : goal.returns-clause-stands
returns-clause-stands c sink m xs h =
    let self = c.args.self.now in
    let s = self.setting in
    let x = c.args.x in
    let same = to_z-of_z w64 x c.ranges.x in
    let fits : FitsSigned w64 c.previous-previous.result = search rules in
    let before = to_z-of_z w64 c.previous-previous.result fits ∙ c.previous-previous.ensures.level h.stands.holds.below in
    let first = c.is_at_first-first.ensures in
    let residual = c.next_residual-residual.ensures ∙ λ i. cond s.preprocess (cond (first i) 0 (rank s (before i) (same i))) (pattern s (same i)) in
    let reference = c.note_reference.ensures ∙ λ i. cond (s.preprocess && first i) (Some (pattern s (same i))) self.reference in
    let one = one_held h (record {
      sample = c.requires.sample;
      room = c.requires.room;
      inside = c.requires.inside;
      residual_is = residual;
      reference_is = reference;
      below = c.level_of_sample-self.ensures.below;
      level_is = c.level_of_sample-self.ensures.value ∙ same;
    }) in
    subst (λ n. StandsAfter (with_held self c.note_reference.new.reference c.level_of_sample-self.result (slice_set self.part self.held c.next_residual-residual.result)) sink n m (xs ++ x ∷ []))
    (sym c.tick.ensures) one
