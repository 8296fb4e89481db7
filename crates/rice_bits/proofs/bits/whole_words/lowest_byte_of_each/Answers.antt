use Rattle.std.proofs.Common.{◌∙◌, map-id, sym, subst}
use Rattle.std.specs.Simd.Lanes.{Each1}
use Rattle.rice_bits.proofs.lemmas.bits.WholeWords.{lowest_fit, lowest_bytes_by_mask}
use Rattle.rice_bits.proofs.bits.whole_words.lowest_byte_of_each.Goals as goal

pub overflow_cast-result : goal.overflow_cast-result
overflow_cast-result c = subst (Each1 _) (sym (lowest_bytes_by_mask c.args.words 8 c.requires)) (lowest_fit c.args.words)

pub returns : goal.returns
returns c = map-id _ ∙ lowest_bytes_by_mask c.args.words 8 c.requires
