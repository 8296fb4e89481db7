use Rattle.rice_calls.proofs.Words.{rules, sym, ◌∙◌, subst, IfOk, List, ℤ, IsSeam, Asked, PushesAsAsked}
use Rattle.rice_calls.proofs.lemmas.RoomOfPieceSuffices.{push_room_suffices}
use Rattle.rice_calls.proofs.feeding.push.Goals as goal

pub returns-in-Ok : goal.returns-in-Ok
returns-in-Ok g c =
    let a = c.args in
    let b = c.push_into in
    let same = (sym c.in-Ok.is ∙ c.legal.ensures.answer) in
    let stands = subst (λ (t : Asked). IfOk t (λ s. (xs : List ℤ) × IsSeam s c.args.feed.now.seam xs)) (sym same) c.requires in
    let room = (push_room_suffices c.in-Ok.setting c.in-Ok.ensures.legal stands.0 a.samples.now a.code.now b.new.code b.new.report b.result).0 in
    subst (λ (t : Asked). PushesAsAsked t a.samples.now a.code.now b.new.code a.feed.now b.new.feed b.new.report b.result) same (record {
      ok = λ xs stands_for. search (rules, b.ensures);
      room = room a.feed.now b.new.feed stands.1 (search (rules, b.ensures));
      refused = tt;
    })
