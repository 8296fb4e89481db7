use Rattle.rice_fast.proofs.Words.{◌^◌, ◌<◌, ◌∙◌, ap, map-id, subst, sym, All, flat_map, word}
use Rattle.rice_fast.proofs.lemmas.LaneLaws.{narrow_enough}
use Rattle.rice_fast.proofs.lanes.halves.longer_words_ahead.Goals as goal

pub overflow_cast-wide_words_ahead : goal.overflow_cast-wide_words_ahead
overflow_cast-wide_words_ahead c = narrow_enough c.args.width c.wide_words_ahead.result c.requires.width.1 c.wide_words_ahead.ensures.fit

pub returns-clause-fit : goal.returns-clause-fit
returns-clause-fit c =
    let words = c.wide_words_ahead in
    subst (All (λ v. v < 2 ^ c.args.width)) (sym (c.of.ensures ∙ map-id words.result)) words.ensures.fit

pub returns-clause-bits : goal.returns-clause-bits
returns-clause-bits c =
    let words = c.wide_words_ahead in
    ap (flat_map (word c.args.width)) (c.of.ensures ∙ map-id words.result) ∙ words.ensures.bits
