use Rattle.rice_fast.proofs.Words.{◌^◌, ◌<◌, ◌++◌, ◌∙◌, ap, arith, length-append, refl, subst, sym, All, flat_map, All-append, pick_l_whole, bits_of, word}
use Rattle.rice_fast.proofs.lemmas.ahead.WordsInTurn.{words-joined}
use Rattle.rice_fast.proofs.ahead.wide_words.wide_words_from.Goals as goal

pub returns-clause-fit : goal.returns-clause-fit
returns-clause-fit c =
    let first = c.four_words_from-first in
    let second = c.four_words_from-second in
    subst (All (λ v. v < 2 ^ c.args.width)) (sym (pick_l_whole 0 (first.result ++ second.result) 8 (omega (arith, first.ensures.len, second.ensures.len, length-append first.result second.result))))
    (All-append (λ v. v < 2 ^ c.args.width) first.result second.result first.ensures.fit second.ensures.fit)

pub returns-clause-bits : goal.returns-clause-bits
returns-clause-bits c =
    let first = c.four_words_from-first in
    let second = c.four_words_from-second in
    ap (flat_map (word c.args.width)) (pick_l_whole 0 (first.result ++ second.result) 8 (omega (arith, first.ensures.len, second.ensures.len, length-append first.result second.result)))
    ∙ words-joined c.args.width (bits_of c.args.bytes.now) c.args.at 4 4 first.result second.result (record { place = refl; front = first.ensures.bits; after = second.ensures.bits })
