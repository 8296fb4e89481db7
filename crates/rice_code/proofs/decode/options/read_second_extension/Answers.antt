use Rattle.std.proofs.Common.{◌+◌, ◌/◌, ◌∙◌, ap, refl}
use Rattle.rice_code.proofs.Words.{flat_map, iff_false, fundamental_sequence, pair_codes, err_from_is_err_and, SecondExtension}
use Rattle.rice_code.proofs.lemmas.decode.OptionsRead.{two_halves, second_extension_read, second_extension_cut, cut_at_reference}
use Rattle.rice_code.proofs.decode.options.read_second_extension.Goals as goal

pub returns-in_err-reference-clause-err : goal.returns-in_err-reference-clause-err
returns-in_err-reference-clause-err g c =
    let e = c.in_err-reference.ensures.err in
    let p = err_from_is_err_and c.from_residual.result c.from_residual.ensures.1 in
    rw (p.1, p.2) (cut_at_reference c.args.setting.now c.args.block SecondExtension (λ x. flat_map fundamental_sequence (pair_codes x.residuals))
    (λ x. refl) (λ x form. form.reference) e.1 e.2 e.3)

pub returns-in_err-read_pairs-clause-err : goal.returns-in_err-read_pairs-clause-err
returns-in_err-read_pairs-clause-err g c =
    let e = c.in_err-read_pairs.ensures.err in
    let p = err_from_is_err_and c.from_residual-in_err-read_pairs.result c.from_residual-in_err-read_pairs.ensures.1 in
    rw (p.1, p.2) (second_extension_cut
    c.in_ok-reference.ensures.reference (ap (λ n. n / 2 + n / 2) c.requires.size ∙ two_halves c.args.setting.now.block c.number_of_values-values.ensures.legal.block)
    c.in_ok-reference.ensures.ok e.1 e.2)

pub returns-clause-ok : goal.returns-clause-ok
returns-clause-ok g c =
    let says = rw c.number_of_values-values.ensures.value at c.are_sound-sound.ensures in
    second_extension_read c.are_sound-sound.result
    c.in_ok-reference.ensures.reference (ap (λ n. n / 2 + n / 2) c.requires.size ∙ two_halves c.args.setting.now.block c.number_of_values-values.ensures.legal.block)
    c.in_ok-reference.ensures.ok c.in_ok-read_pairs.ensures.ok c.in_ok-reference.ensures.steps
    says.0 (iff_false says)
