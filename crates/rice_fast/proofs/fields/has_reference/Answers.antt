use Rattle.rice_fast.proofs.Words.{◌≡◌, true, refl, sym, ◌∙◌, mod-eq_of_lt}
use Rattle.rice_fast.proofs.fields.has_reference.Goals as goal

pub returns-then-preprocess : goal.returns-then-preprocess
returns-then-preprocess c =
    let e : c.args.setting.now.preprocess ≡ true = sym c.preprocess.ensures ∙ c.if-preprocess.true in
    rw (e, mod-eq_of_lt c.requires.place) refl
