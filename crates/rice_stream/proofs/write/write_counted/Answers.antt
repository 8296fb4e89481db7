use Rattle.rice_stream.proofs.Words.{arith, ◌≡◌, ◌∙◌, ◌-◌, ◌+◌, ap, sym, subst, length, take, drop, length-drop, take-length, take-add, Appends, Appends-trans}
use Rattle.rice_stream.proofs.write.write_counted.Goals as goal

pub returns-in-Err-write_in_calls-clause-err : goal.returns-in-Err-write_in_calls-clause-err
returns-in-Err-write_in_calls-clause-err g c =
    let taken = g.O.Outlet.taken in
    let bytes = c.args.bytes.now in
    let n = c.in-Ok.count in
    let more = c.in-Err-write_in_calls.more in
    let whole : take (length bytes - n) (drop n bytes) ≡ drop n bytes = ap (λ k. take k (drop n bytes)) (sym (length-drop n bytes)) ∙ take-length (drop n bytes) in
    let err = c.in-Err-write_in_calls.ensures.err in
    let step = subst (λ l. Appends (taken c.put.new.self) (taken c.write_in_calls.new.outlet) l) (ap (take more) whole) err.1 in
    let joined = Appends-trans (taken c.args.outlet.now) (taken c.put.new.self) (taken c.write_in_calls.new.outlet) (take n bytes) (take more (drop n bytes)) c.in-Ok.ensures.bytes step in (
      omega (arith, err.0, ap length whole, length-drop n bytes),
      subst (λ l. Appends (taken c.args.outlet.now) (taken c.write_in_calls.new.outlet) l) (sym (take-add n more bytes)) joined,
      err.2 ∙ ap (λ k. k + 1) c.in-Ok.ensures.failures,
    )
