use Rattle.std.proofs.Common.{◌≡◌, ◌-◌, ◌≤◌, ap, arith, drop, length, sym, take, ◌∙◌}
use Rattle.std.proofs.lemmas.List.{length-take-le}
use Rattle.rice_stream.specs.BufferedBytes.{with_last}
use Rattle.rice_stream.proofs.lemmas.BufferOfInput.{front_is_carried}
use Rattle.rice_stream.proofs.input.Input.keep_last.Goals as goal

pub returns : goal.returns
returns c =
    let r = c.self.inside in
    let count = c.args.count in
    let len : length (take r.end r.buffer) ≡ r.end = length-take-le r.end r.buffer (omega (arith, c.self.invariant)) in
    let few : count ≤ r.end = omega (arith, len, c.requires, ap (λ b. length b.buffered) c.self.view_is) in
    let moved = front_is_carried r.end count r.buffer c.copy_within.new.self c.copy_within.ensures.after few (omega (arith, c.self.invariant)) in
    (λ i. record { buffered = (moved ∙ ap (λ n. drop (n - count) (take r.end r.buffer)) (sym len)) i; given = r.given }) ∙ ap (with_last count) c.self.view_is
