use Rattle.rice_bits.proofs.lemmas.bits.WholeWords.{four_words}
use Rattle.rice_bits.proofs.bits.whole_words.joined_words_of_16_digits.Goals as goal

pub returns : goal.returns
returns c =
    four_words c.args.words.now c.args.at c.requires
    (record { value = c.low_digits.ensures.value; fit = c.low_digits.ensures.fits }) (record { value = c.low_digits-2.ensures.value; fit = c.low_digits-2.ensures.fits })
    (record { value = c.low_digits-3.ensures.value; fit = c.low_digits-3.ensures.fits }) (record { value = c.low_digits-4.ensures.value; fit = c.low_digits-4.ensures.fits })
    (record { first_pair = c.join-first.ensures; last_pair = c.join-last.ensures; all = c.join.ensures })
