use Rattle.std.proofs.Common.{◌∷◌, [], replicate, false, Some, None, refl, lit<, lit≤, pos}
use Rattle.rice_code.proofs.Words.{word, bits_of, BlockData, Split}
use Rattle.rice_code.proofs.lemmas.meaning.DecodingWitnesses.{Gives, all_below, gives_unsigned, zeros_end, decoded_by_one}
use Rattle.rice_base_tests.specs.Examples.{one_bit_defaults}
use Rattle.rice_tests.proofs.decoding_examples.decodes_the_greatest_split.Goals as goal

abbrev block : BlockData
block = record { reference = Some 0; residuals = 0 ∷ 1 ∷ replicate 6 0 }

gives : Gives one_bit_defaults (Split 5 block) (pos 0 ∷ replicate 7 (pos 1))
gives = gives_unsigned (0 ∷ replicate 7 1) refl (record { reference = record { there = refl; fits = lit< tt }; len = refl }, refl, lit≤ tt) tt (all_below 2 block.residuals refl) refl refl refl

pub returns : goal.returns
unfolding word bits_of
returns c = decoded_by_one gives [] (replicate 2 false) refl refl tt 2 (zeros_end one_bit_defaults None 1 2 tt)
