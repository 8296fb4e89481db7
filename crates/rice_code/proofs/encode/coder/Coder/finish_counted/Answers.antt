use Rattle.std.proofs.Common.{◌∙◌, [], ap, inl, pos, subst, sym}
use Rattle.rice_code.proofs.lemmas.encode.{PushedCode.finish_sound, PushedCode.finish_adds, PushedCode.none_taken, PushedSamples.filled_has_steps}
use Rattle.rice_code.proofs.Words.{IsCoder, HasTaken, CoderState, state_between}
use Rattle.rice_code.proofs.encode.coder.Coder.finish_counted.Goals as goal

pub code-bits-requires : goal.code-bits-requires
code-bits-requires c = record {
  blocks = finish_sound c.self.inside.segment c.fill.new.self c.fill.ensures.value c.self.invariant;
  room = inl c.requires.room;
  meter = filled_has_steps _ c.self.view_is c.self.invariant c.fill.ensures.value c.requires.meter c.fill.ensures.steps;
}

pub invariant_of-self : goal.invariant_of-self
invariant_of-self c =
    let legal = c.self.invariant.taken.holds.legal in
    subst IsCoder (sym (c.begin_first.ensures ∙ ap (λ (v : CoderState). state_between v.setting 0 (pos 0)) c.fill.ensures.value))
    (record { samples = []; taken = none_taken c.self.inside.segment.setting legal })

pub returns-clause-adds : goal.returns-clause-adds
returns-clause-adds c xs h = finish_adds c.self.view_is c.fill.ensures.value c.code-bits.ensures c.fill.ensures.steps h

pub returns-clause-taken : goal.returns-clause-taken
returns-clause-taken c =
    let legal = c.self.invariant.taken.holds.legal in
    subst (λ (v : CoderState). HasTaken v []) (sym (c.begin_first.ensures ∙ ap (λ (v : CoderState). state_between v.setting 0 (pos 0)) c.fill.ensures.value))
    (none_taken c.self.inside.segment.setting legal)
