use Rattle.std.proofs.Common.{refl}
use Rattle.rice_bits.proofs.lemmas.bits.WholeWords.{seam_spelled}
use Rattle.rice_bits.proofs.bits.whole_words.digits_across_two_words.Goals as goal

pub returns : goal.returns
returns c = seam_spelled c.args.last c.args.next c.args.left _ c.requires.0 c.requires.1 c.ranges.next.fits refl
