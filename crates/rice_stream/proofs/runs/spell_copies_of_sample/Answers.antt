use Rattle.std.proofs.Common.{◌≡◌, ◌*◌, ◌∙◌, ap, arith, length, replicate, sym, get_or, w64, to_z, of_z, to_z-of_z}
use Rattle.rice_stream.proofs.Words.{width, spelling, repeated}
use Rattle.rice_stream.proofs.lemmas.RunsWritten.{filled-byte, spellings-repeat}
use Rattle.rice_stream.proofs.runs.spell_copies_of_sample.Goals as goal

pub returns-then-pattern-eq1 : goal.returns-then-pattern-eq1
returns-then-pattern-eq1 c =
    let s = c.args.setting.now in
    let x = c.args.sample in
    let pattern = c.as_slice-pattern.result.now in
    let same : to_z w64 (of_z w64 x) ≡ x = to_z-of_z {w = w64} {z = x} c.ranges.sample in
    let is = c.as_slice-pattern.ensures.value ∙ (c.bytes_of-spelling.ensures.value ∙ ap (spelling s) same) in
    let one = c.if-pattern-eq1.true in
    let wide : width s ≡ 1 = sym c.bytes_of-spelling.ensures.len ∙ (ap length (sym c.as_slice-pattern.ensures.value) ∙ one) in
    let many : length c.args.bytes.now ≡ c.args.count = c.requires.len ∙ (ap (λ w. w * c.args.count) wide ∙ omega arith) in
    c.fill.ensures.after (λ y e. e) ∙ (ap (λ n. replicate n (get_or pattern 0 0)) many ∙ filled-byte s x c.args.count pattern is one)

pub returns : goal.returns
returns c =
    let s = c.args.setting.now in
    let x = c.args.sample in
    let same : to_z w64 (of_z w64 x) ≡ x = to_z-of_z {w = w64} {z = x} c.ranges.sample in
    let is = c.as_slice-pattern.ensures.value ∙ (c.bytes_of-spelling.ensures.value ∙ ap (spelling s) same) in
    c.repeat_bytes.ensures ∙ (ap (repeated c.args.count) is ∙ sym (spellings-repeat s c.args.count x))
