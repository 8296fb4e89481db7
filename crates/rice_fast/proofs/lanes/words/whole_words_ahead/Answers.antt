use Rattle.rice_fast.proofs.Words.{◌≡◌, ◌*◌, ◌^◌, ◌<◌, ◌++◌, ◌∙◌, All-append, ap, arith, digits_l, length, length-append, number_l, pick_l_whole, refl}
use Rattle.rice_fast.proofs.lemmas.{ahead.WordsInTurn.words-joined, vectors.LanesOfWholeBytes.words_of_turned}
use Rattle.rice_fast.proofs.lanes.words.whole_words_ahead.Goals as goal

pub returns-clause-bits : goal.returns-clause-bits
returns-clause-bits c =
    let first = c.words_ahead-first in
    let second = c.words_ahead-second in
    let bytes = first.result ++ second.result in
    let len : length bytes ≡ 8 * 4 = omega (arith, length-append first.result second.result, first.ensures.len, second.ensures.len) in
    words_of_turned 8 bytes c.of.result.lanes len (All-append (λ v. v < 2 ^ 8) first.result second.result first.ensures.fit second.ensures.fit)
    (c.of.ensures ∙ (ap (λ xs. digits_l 4294967296 8 (number_l 256 xs)) c.byte_fours.ensures ∙ rw (← pick_l_whole 0 bytes 32 len) refl))
    ∙ words-joined 8 c.args.ahead.now c.args.skip 16 16 first.result second.result (record { place = refl; front = first.ensures.bits; after = second.ensures.bits })
