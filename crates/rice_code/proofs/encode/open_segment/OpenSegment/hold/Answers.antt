use Rattle.std.proofs.Common.{rules, ◌≡◌, ◌<◌, ◌&&◌, ℕ, Bool, true, false, Option, Some, subst, sym, w64}
use Rattle.rice_code.proofs.Words.{IfSome, if◌then◌else◌, IsSample, value_count, to_z-of_z, pattern_fits, CoderState}
use Rattle.rice_code.proofs.encode.open_segment.OpenSegment.hold.Goals as goal

-- the reference fits that was there, or the one that is noted
noted_fits : (b : Bool) (word : ℕ) (old new : Option ℕ) (count : ℕ) → new ≡ (if b then Some word else old) → word < count → IfSome old (λ v. v < count) → IfSome new (λ v. v < count)
noted_fits true word old new count e fits was = subst (λ r. IfSome r (λ v. v < count)) (sym e) fits
noted_fits false word old new count e fits was = subst (λ r. IfSome r (λ v. v < count)) (sym e) was

pub invariant_of-self : goal.invariant_of-self
invariant_of-self c =
    let state = c.self.invariant in
    let same = to_z-of_z w64 c.args.x c.ranges.x in
    let sample = subst (IsSample c.self.inside.setting) (sym same) (subst (λ (v : CoderState). IsSample v.setting c.args.x) (sym c.self.view_is) c.requires.sample) in
    record {
      legal = state.legal;
      place = state.place;
      begins = state.begins;
      few = search rules;
      previous = sample;
      reference = noted_fits (c.self.inside.setting.preprocess && c.is_first-first.result) _ c.self.inside.reference c.note_reference.new.reference
          (value_count c.self.inside.setting) c.note_reference.ensures (pattern_fits c.self.inside.setting _ state.legal.bits_from sample)
          state.reference;
      ends = state.ends;
    }
