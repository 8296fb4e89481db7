use Rattle.rice_stream.proofs.Words.{rules, length, ◌≢◌, ◌≡◌, ◌∙◌, ap, subst, word, SliceIn, Reader, Stops, Takes, ahead}
use Rattle.rice_stream.proofs.lemmas.PulledPieceSoFar.{never_refused, nothing_skipped, skipped_bits}
use Rattle.rice_stream.proofs.pulling.skip_bits.Goals as goal

pub returns-then-is_empty-clause-bits : goal.returns-then-is_empty-clause-bits
returns-then-is_empty-clause-bits c _ =
    ap ahead c.requires.fresh ∙ nothing_skipped c.args.skipped c.args.piece.now (let e : length c.args.piece.now ≡ 0 = search rules in e)

pub returns-in-Ok-clause-bits : goal.returns-in-Ok-clause-bits
returns-in-Ok-clause-bits c _ =
    let start = c.requires.fresh in
    skipped_bits c.args.reader.now.intake c.args.piece.now c.args.skipped c.in-Ok.field-0 c.take.new.self
    (subst (λ (r : Reader SliceIn). Takes r c.take.new.self (word c.args.skipped c.in-Ok.field-0)) start c.in-Ok.ensures.ok.1)

pub returns-in-Err-clause-never : goal.returns-in-Err-clause-never
returns-in-Err-clause-never c _ none =
    let start = c.requires.fresh in
    let err = c.in-Err.ensures.err (ap (λ (r : Reader SliceIn). r.refusal) start) in
    never_refused c.args.reader.now.intake c.args.piece.now c.in-Err.field-0 c.requires.few err.1
    (let e : length c.args.piece.now ≢ 0 = search rules in e) none
    (subst (λ (r : Reader SliceIn). Stops r c.take.new.self err.0 c.in-Err.field-0) start err.2)
