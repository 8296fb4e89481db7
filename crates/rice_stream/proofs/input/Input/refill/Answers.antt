use Rattle.rice_stream.proofs.Words.{◌≡◌, ℕ, ◌+◌, ◌-◌, List, [], ◌∷◌, ◌++◌, length, length-take-le, take, ap, refl, subst, ◌∙◌, arith, Consumes}
use Rattle.rice_stream.proofs.lemmas.BufferOfInput.{front_is, front_stays}
use Rattle.rice_stream.proofs.input.Input.refill.Goals as goal

-- one byte
single : (l : List ℕ) → length l ≡ 1 → (x : ℕ) × (l ≡ x ∷ [])
single (x ∷ []) e = (x, refl)
single _ e = absurd (omega arith)

pub returns-then-self-ge-MOST_INPUT-clause-err : goal.returns-then-self-ge-MOST_INPUT-clause-err
returns-then-self-ge-MOST_INPUT-clause-err g c =
    let r = c.self.inside in
    let buf = c.fill.new.buf in
    let count = c.in-Ok.count in
    let len : length (take count buf) ≡ count = length-take-le count buf (omega (arith, c.in-Ok.ensures.count)) in
    let byte = single (take count buf) (omega (arith, len, c.if-count-eq0.false, c.in-Ok.ensures.count, c.bytes_to_ask_for-most.ensures.last c.if-self-ge-MOST_INPUT.true)) in
    record {
      same = (λ i. record { buffered = front_stays r.end (r.end + c.bytes_to_ask_for-most.result - r.end) r.buffer buf (omega (arith, c.self.invariant)) i; given = r.given }) ∙ c.self.view_is;
      full = omega (arith, c.self.invariant.2, c.if-self-ge-MOST_INPUT.true, ap (λ r. r.given) c.self.view_is);
      last = byte.0;
      gave = subst (Consumes (g.I.Intake.left c.args.intake.now) (g.I.Intake.left c.fill.new.self)) byte.1 c.in-Ok.ensures.bytes;
    }

pub returns-clause-ok : goal.returns-clause-ok
returns-clause-ok g c =
    let r = c.self.inside in
    let buf = c.fill.new.buf in
    let count = c.in-Ok.count in
    record {
      bytes = take count buf;
      gave = c.in-Ok.ensures.bytes;
      number = length-take-le count buf (omega (arith, c.in-Ok.ensures.count));
      buffered = front_is r.end count (r.end + c.bytes_to_ask_for-most.result - r.end) r.buffer buf (omega (arith, c.self.invariant)) (omega (arith, c.in-Ok.ensures.count))
          ∙ ap (λ b. b.buffered ++ take count buf) c.self.view_is;
      given = ap (λ b. b.given + count) c.self.view_is;
    }
