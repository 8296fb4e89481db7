use Rattle.rice_calls.proofs.Words.{rules, sym, ◌∙◌, subst, Asked, EncodesAsAsked}
use Rattle.rice_calls.proofs.lemmas.ReturnedSamples.{encode_suffices}
use Rattle.rice_calls.proofs.coding.encode.Goals as goal

pub returns-in-Ok : goal.returns-in-Ok
returns-in-Ok g c =
    let a = c.args in
    let b = c.encode_into in
    subst (λ (t : Asked). EncodesAsAsked t a.samples.now a.code.now b.new.code b.new.report b.result) (sym c.in-Ok.is ∙ c.legal.ensures.answer) (record {
      ok = search rules;
      refused = tt;
      room = search (rules, encode_suffices);
    })
