use Rattle.std.proofs.Common.{◌∷◌, [], replicate, false, Some, None, refl, lit<, lit≤, pos, map}
use Rattle.rice_code.proofs.Words.{range_with_len, word, bits_of, BlockData, Split}
use Rattle.rice_code.proofs.lemmas.meaning.DecodingWitnesses.{Gives, all_below, gives_unsigned, zeros_end, decoded_by_one}
use Rattle.rice_base_tests.specs.Examples.{defaults}
use Rattle.rice_tests.proofs.decoding_examples.decodes_a_greater_split_than_the_coder_takes.Goals as goal

abbrev block : BlockData
block = record { reference = Some 0; residuals = 0 ∷ 1 ∷ replicate 6 2 }

gives : Gives defaults (Split 1 block) (map pos (range_with_len 0 8))
gives = gives_unsigned (range_with_len 0 8) refl (record { reference = record { there = refl; fits = lit< tt }; len = refl }, refl, lit≤ tt) tt (all_below 256 block.residuals refl) refl refl refl

pub returns : goal.returns
unfolding word bits_of
returns c = decoded_by_one gives [] (replicate 1 false) refl
    refl tt 1 (zeros_end defaults None 1 1 tt)
