use Rattle.std.proofs.Common.{◌∷◌, [], replicate, false, None, refl, lit<, lit≤, pos}
use Rattle.rice_code.proofs.Words.{word, bits_of, BlockData, Split}
use Rattle.rice_code.proofs.lemmas.meaning.DecodingWitnesses.{Gives, all_below, gives_unsigned, decoded_by_one}
use Rattle.rice_base_tests.specs.Examples.{unprocessed_defaults}
use Rattle.rice_tests.proofs.decoding_examples.decodes_one_sample_and_zeros_as_fill.Goals as goal

abbrev block : BlockData
block = record { reference = None; residuals = 0xF0 ∷ replicate 7 0 }

gives : Gives unprocessed_defaults (Split 5 block) (pos 0xF0 ∷ replicate 7 (pos 0))
gives = gives_unsigned (0xF0 ∷ replicate 7 0) refl (record { reference = record { there = refl; fits = tt }; len = refl }, tt, lit≤ tt) tt (all_below 256 block.residuals refl) refl refl refl

pub returns : goal.returns
unfolding word bits_of
returns c =
    decoded_by_one gives [] (replicate 6 false) refl refl (lit< tt) 0 (lit≤ tt, refl)
