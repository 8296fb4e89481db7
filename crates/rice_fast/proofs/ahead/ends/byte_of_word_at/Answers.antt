use Rattle.rice_fast.proofs.Words.{◌*◌, ◌∙◌, ap, arith, drop, length, sym, take, bits_of, bits_of-eight}
use Rattle.rice_fast.proofs.lemmas.ahead.WordsInBytes.{byte_at}
use Rattle.rice_fast.proofs.ahead.ends.byte_of_word_at.Goals as goal

pub returns : goal.returns
returns c =
    let e = c.to_be_bytes.ensures in
    sym (byte_at c.args.place c.to_be_bytes.result (omega (arith, c.requires, ap length e))) ∙ ap (λ b. take 8 (drop (8 * c.args.place) b)) (ap bits_of e ∙ bits_of-eight c.args.front)
