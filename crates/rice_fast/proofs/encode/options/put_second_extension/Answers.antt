use Rattle.rice_fast.proofs.Words.{ℕ, List, ◌+◌, ◌++◌, ◌∙◌, ap, arith, length, true, flat_map, word, fundamental_sequence, id_len, pair_codes, reference_bits, reference_len, pairs_len, word_flag}
use Rattle.rice_fast.proofs.Words.{append_flagged}
use Rattle.rice_fast.proofs.encode.options.put_second_extension.Goals as goal

pub returns : goal.returns
returns c =
    let s = c.args.setting.now in
    let ref = reference_bits s c.args.block.now.reference in
    let same = c.items-residuals.ensures.value ∙ c.residuals.ensures in
    let codes = λ (ds : List ℕ). flat_map fundamental_sequence (pair_codes ds) in
    let head = ap (λ n. word (n + 1) 1) c.id_len-id.ensures.value ∙ word_flag (id_len s) in
    let one = ap (λ z. c.args.sink.now ++ z) head in
    let two = c.begin_set-fields.ensures.bits ∙ (λ i. one i ++ reference_bits s (c.reference.ensures i)) in
    let three = c.put.ensures.bits ∙ (c.put_pairs-fields.ensures.bits ∙ (λ i. two i ++ codes (same i))) in
    let all = three ∙ append_flagged c.args.sink.now (word (id_len s) 0) ref (codes c.args.block.now.residuals) true in
    let len = ap length same in
    let pairs = ap pairs_len same in
    let len_ref = ap (reference_len s) c.reference.ensures in
    record {
      bits = all;
      len = omega (arith, len, pairs, len_ref, c.requires.sound.len);
      steps_from = omega (arith, len, pairs, len_ref, c.requires.sound.len, c.tick.ensures);
      steps_to = omega (arith, len, pairs, len_ref, c.requires.sound.len, c.tick.ensures);
    }
