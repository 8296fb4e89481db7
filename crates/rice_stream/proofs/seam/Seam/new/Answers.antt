use Rattle.rice_stream.proofs.Words.{arith, ◌≡◌, ◌≤◌, ◌∙◌, refl, ap, sym, drop, length, [], bits_in_bytes, word-nil, code, code_bits, complete_samples, least_steps, most_steps, none_taken}
use Rattle.rice_stream.proofs.lemmas.EncodingLemmas.{settled_nothing, code_nothing, sets_nothing}
use Rattle.rice_stream.proofs.seam.Seam.new.Goals as goal

pub returns : goal.returns
returns c =
    let s = c.args.setting.now in
    let legal = c.block-block.ensures.legal in
    let j : 1 ≤ s.block = grind (arith, legal.block) in
    let none = ap (code s) (settled_nothing s) ∙ code_nothing s j in
    let steps = sets_nothing s j in
    let bits : code_bits s (complete_samples s []) ≡ 0 = ap (code_bits s) (settled_nothing s) ∙ steps.0 in
    let least : least_steps s (complete_samples s []) ≡ 0 = ap (least_steps s) (settled_nothing s) ∙ steps.1 in
    let most : most_steps s (complete_samples s []) ≡ 0 = ap (most_steps s) (settled_nothing s) ∙ steps.2 in
    record {
      counts = record { setting = refl; stands = none_taken s legal; samples = refl; bits = sym bits; least = omega (arith, least); most = omega (arith, most) };
      waiting = word-nil 0 ∙ ap (λ l. drop (bits_in_bytes (length l)) l) (sym none);
      few = omega arith;
      fits = omega arith;
      limit = omega arith;
    }
