use Rattle.rice_calls.proofs.Words.{rules, sym, ◌∙◌, subst, Asked, DecodesAsAsked}
use Rattle.rice_calls.proofs.lemmas.ReturnedSamples.{decode_suffices}
use Rattle.rice_calls.proofs.coding.decode.Goals as goal

pub returns-in-Ok : goal.returns-in-Ok
returns-in-Ok g c =
    let a = c.args in
    let b = c.decode_into in
    subst (λ (t : Asked). DecodesAsAsked t a.count a.code.now a.samples.now b.new.samples b.new.report b.result) (sym c.in-Ok.is ∙ c.legal.ensures.answer) (record {
      ok = search rules;
      refused = tt;
      room = search (rules, decode_suffices);
    })
