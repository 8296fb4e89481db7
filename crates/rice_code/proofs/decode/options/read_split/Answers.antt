use Rattle.std.proofs.Common.{arith, ◌≡◌, ◌≤◌, ◌∙◌, ap, ◌-◌, ◌/◌, ◌^◌, ◌++◌, drop, refl, subst, sym}
use Rattle.rice_code.proofs.Words.{All, flat_map, iff_false, value_count, err_from_is_err_and, word, fundamental_sequence, Split, sent_residuals, common_steps}
use Rattle.rice_code.proofs.lemmas.decode.OptionsRead.{sent_part, sent_placed, up_to_end, split_large, split_joined, split_cut, parts_small, cut_at_reference}
use Rattle.rice_code.proofs.decode.options.read_split.Goals as goal

pub returns-in_err-reference-clause-err : goal.returns-in_err-reference-clause-err
returns-in_err-reference-clause-err g c =
    let e = c.in_err-reference.ensures.err in
    let p = err_from_is_err_and c.from_residual.result c.from_residual.ensures.1 in
    rw (p.1, p.2) (cut_at_reference c.args.setting.now c.args.block (Split c.args.k)
    (λ x. flat_map (λ d. fundamental_sequence (d / 2 ^ c.args.k)) (sent_residuals x) ++ flat_map (word c.args.k) (sent_residuals x))
    (λ x. refl) (λ x form. form.0.reference) e.1 e.2 e.3)

pub returns-in_err-small-clause-err : goal.returns-in_err-small-clause-err
returns-in_err-small-clause-err g c =
    let first = c.write_zero_for_reference-first in
    let part = sent_part c.args.setting.now c.in_ok-reference.reference first.result first.new.residuals c.number_of_values-values.ensures.legal first.ensures.first
    (first.auto.residuals ∙ c.requires.size) in
    let p = err_from_is_err_and c.from_residual-in_err-small.result c.from_residual-in_err-small.ensures.1 in
    rw (p.1, p.2) (split_cut c.in_ok-reference.ensures.reference part.1 c.in_ok-reference.ensures.ok c.in_err-small.ensures.err)

pub returns-then-not-small-clause-ok : goal.returns-then-not-small-clause-ok
returns-then-not-small-clause-ok g c =
    let first = c.write_zero_for_reference-first in
    let part = sent_part c.args.setting.now c.in_ok-reference.reference first.result first.new.residuals c.number_of_values-values.ensures.legal first.ensures.first
    (first.auto.residuals ∙ c.requires.size) in
    split_large c.in_ok-reference.ensures.reference c.requires.k part.1 c.in_ok-reference.ensures.ok
    (rw (c.number_of_values-values.ensures.value, c.if-not-small.true) at c.in_ok-small.ensures.ok) refl (omega (arith, c.in_ok-reference.ensures.steps, c.in_ok-small.ensures.steps))

pub are_below_as_high_parts-sound-requires-clause-highs : goal.are_below_as_high_parts-sound-requires-clause-highs
are_below_as_high_parts-sound-requires-clause-highs g c = grind (arith, common_steps, up_to_end, parts_small)

pub returns-clause-ok : goal.returns-clause-ok
returns-clause-ok g c =
    let first = c.write_zero_for_reference-first in
    let part = sent_part c.args.setting.now c.in_ok-reference.reference first.result first.new.residuals c.number_of_values-values.ensures.legal first.ensures.first
    (first.auto.residuals ∙ c.requires.size) in
    let says = rw (up_to_end first.result c.read_sent.new.residuals, c.bits.ensures.value) at c.are_below_as_high_parts-sound.ensures in
    split_joined c.are_below_as_high_parts-sound.result
    (record { reference = c.in_ok-reference.ensures.reference; small = c.requires.k; parts = part.1 }) c.in_ok-reference.ensures.ok
    (rw c.number_of_values-values.ensures.value at c.in_ok-small.ensures.ok) c.if-not-small.false
    (omega (arith, c.in_ok-reference.ensures.steps, c.in_ok-small.ensures.steps))
    (sent_placed first.result c.in_ok-reference.reference first.new.residuals c.read_sent.new.residuals first.ensures.place c.in_ok-small.ensures.stay)
    says.0
    (iff_false says)
