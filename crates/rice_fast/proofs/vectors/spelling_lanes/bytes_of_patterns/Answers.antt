use Rattle.rice_fast.proofs.Words.{◌≡◌, sym, ◌∙◌, inl, inr, refl, pick_l_whole}
use Rattle.rice_fast.proofs.lemmas.vectors.LanesOfWholeBytes.{kept_words, single_words, turned_words}
use Rattle.rice_fast.proofs.vectors.spelling_lanes.bytes_of_patterns.Goals as goal

pub returns-then-msb-clause-words : goal.returns-then-msb-clause-words
returns-then-msb-clause-words g c = kept_words c.args.setting.now.msb g.row.WIDTH c.args.patterns c.requires.width (sym c.msb.ensures ∙ c.if-msb.true) c.requires.lanes c.requires.fit

pub returns-then-this-eq1-clause-words : goal.returns-then-this-eq1-clause-words
returns-then-this-eq1-clause-words g c = single_words c.args.setting.now.msb g.row.WIDTH c.args.patterns c.if-this-eq1.true c.requires.lanes c.requires.fit

pub returns-then-this-eq2-clause-words : goal.returns-then-this-eq2-clause-words
returns-then-this-eq2-clause-words g c =
    rw c.if-this-eq2.true (turned_words c.args.setting.now.msb 2 8 c.args.patterns c.byte_pairs.result (sym c.msb.ensures ∙ c.if-msb.false) c.requires.lanes c.requires.fit c.byte_pairs.ensures)

pub returns-clause-words : goal.returns-clause-words
returns-clause-words g c =
    let four : g.row.WIDTH ≡ 4 = elim c.requires.width [
      | inl e ↦ absurd (c.if-this-eq1.false e)
      | inr other ↦ elim other [ inl e ↦ absurd (c.if-this-eq2.false e) | inr e ↦ e ]
    ] in
    rw four (turned_words c.args.setting.now.msb 4 4 c.args.patterns _ (sym c.msb.ensures ∙ c.if-msb.false) c.requires.lanes c.requires.fit
    (rw (← pick_l_whole 0 c.args.patterns 16 c.requires.lanes) refl))
