use Rattle.std.proofs.Common.{arith, ◌^◌, ◌<◌, ◌∙◌, refl}
use Rattle.rice_code.proofs.Words.{reference_place, flat_map, pow_pos, err_from_is_err_and, word, NoCompression, sent_residuals, common_steps}
use Rattle.rice_code.proofs.lemmas.decode.OptionsRead.{no_compression_read, residuals_after_reference, row_after_others, coded_part, no_compression_cut, cut_at_reference}
use Rattle.rice_code.proofs.decode.options.read_no_compression.Goals as goal

pub returns-in_err-reference-clause-err : goal.returns-in_err-reference-clause-err
returns-in_err-reference-clause-err g c =
    let s = c.args.setting.now in
    let e = c.in_err-reference.ensures.err in
    let p = err_from_is_err_and c.from_residual.result c.from_residual.ensures.1 in
    rw (p.1, p.2) (cut_at_reference s c.args.block NoCompression (λ x. flat_map (word s.bits) (sent_residuals x))
    (λ x. refl) (λ x form. form.0.reference) e.1 e.2 e.3)

pub returns-clause-ok : goal.returns-clause-ok
returns-clause-ok g c =
    let s = c.args.setting.now in
    let first = c.write_zero_for_reference-first in
    let part = coded_part s c.in_ok-reference.reference first.result first.new.residuals c.bits-width.ensures.legal first.ensures.first (first.auto.residuals ∙ c.requires.size) in
    let row = (rw c.bits-width.ensures.value at c.in_ok-read_words.ensures.ok) in
    no_compression_read c.in_ok-reference.ensures.reference part.1 (pow_pos s.bits) c.in_ok-reference.ensures.ok
    (row_after_others (λ v. v < 2 ^ s.bits) (reference_place c.in_ok-reference.reference) row
    (residuals_after_reference first.result c.in_ok-reference.reference first.new.residuals c.read_words.new.words first.ensures.place part.0))
    (omega (arith, c.in_ok-reference.ensures.steps, c.in_ok-read_words.ensures.steps))

pub returns-in_err-read_words-clause-err : goal.returns-in_err-read_words-clause-err
returns-in_err-read_words-clause-err g c = grind (arith, common_steps, coded_part, err_from_is_err_and, no_compression_cut)
