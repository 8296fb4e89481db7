use Rattle.rice_stream.proofs.Words.{arith, ◌≡◌, ◌+◌, ap, sym, ◌∙◌, subst, length, take, drop, length-drop, ◌-◌, take-length, take-add, Appends, Appends-trans, Appends-kept}
use Rattle.rice_stream.proofs.write.write_in_calls.Goals as goal

pub loop-done-preserved : goal.loop-done-preserved
loop-done-preserved g c =
    let taken = g.O.Outlet.taken in
    let bytes = c.args.bytes.now in
    let n = c.loop-done.done in
    let whole : take (length bytes - n) (drop n bytes) ≡ drop n bytes = ap (λ k. take k (drop n bytes)) (sym (length-drop n bytes)) ∙ take-length (drop n bytes) in
    let more : take c.in-Ok.count (take (length bytes - n) (drop n bytes)) ≡ take c.in-Ok.count (drop n bytes) = ap (take c.in-Ok.count) whole in
    let step = subst (λ l. Appends (taken c.loop-done.outlet) (taken c.put.new.self) l) more c.in-Ok.ensures.bytes in
    let joined = Appends-trans (taken c.args.outlet.now) (taken c.loop-done.outlet) (taken c.put.new.self) (take n bytes) (take c.in-Ok.count (drop n bytes)) c.loop-done.invariant.took step in
    record {
      within = omega (arith, c.in-Ok.ensures.count, c.loop-done.invariant.within, ap length whole, length-drop n bytes);
      took = subst (λ l. Appends (taken c.args.outlet.now) (taken c.put.new.self) l) (sym (take-add n c.in-Ok.count bytes)) joined;
      failures = c.in-Ok.ensures.failures ∙ c.loop-done.invariant.failures;
    }

pub returns-in-Err-clause-err : goal.returns-in-Err-clause-err
returns-in-Err-clause-err g c =
    let taken = g.O.Outlet.taken in
    let bytes = c.args.bytes.now in
    let n = c.loop-done.done in (
      c.loop-done-test.true,
      Appends-kept (taken c.args.outlet.now) (taken c.loop-done.outlet) (taken c.put.new.self) (take n bytes) c.loop-done.invariant.took c.in-Err.ensures.err,
      c.in-Err.ensures.failures ∙ ap (λ k. k + 1) c.loop-done.invariant.failures,
    )
