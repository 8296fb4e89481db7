use Rattle.rice_fast.proofs.Words.{◌^◌, ◌<◌, ◌∙◌, ap, refl, subst, sym, All, flat_map, All-append, bits_of, word}
use Rattle.rice_fast.proofs.lemmas.{ahead.WordsInTwoBytes.narrow-fits, ahead.WordsInTwoBytes.narrow-is, ahead.WordsInTurn.words-joined}
use Rattle.rice_fast.proofs.ahead.words.sixteen_words_from.Goals as goal

pub overflow_cast-result : goal.overflow_cast-result
overflow_cast-result c =
    let first = c.eight_words_from-first in
    let second = c.eight_words_from-second in
    narrow-fits c.args.width first.result second.result c.requires.width first.ensures.len second.ensures.len first.ensures.fit second.ensures.fit

pub returns-clause-fit : goal.returns-clause-fit
returns-clause-fit c =
    let first = c.eight_words_from-first in
    let second = c.eight_words_from-second in
    subst (All (λ v. v < 2 ^ c.args.width)) (sym (narrow-is first.result second.result first.ensures.len second.ensures.len))
    (All-append (λ v. v < 2 ^ c.args.width) first.result second.result first.ensures.fit second.ensures.fit)

pub returns-clause-bits : goal.returns-clause-bits
returns-clause-bits c =
    let first = c.eight_words_from-first in
    let second = c.eight_words_from-second in
    ap (flat_map (word c.args.width)) (narrow-is first.result second.result first.ensures.len second.ensures.len)
    ∙ words-joined c.args.width (bits_of c.args.bytes.now) c.args.at 8 8 first.result second.result (record { place = refl; front = first.ensures.bits; after = second.ensures.bits })
