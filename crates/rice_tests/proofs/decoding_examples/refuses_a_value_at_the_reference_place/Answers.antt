use Rattle.std.proofs.Common.{◌≡◌, ◌∷◌, [], replicate, false, Some, None, refl, lit<, arith}
use Rattle.rice_code.proofs.Words.{word, bits_of, BlockData, SecondExtension, Large}
use Rattle.rice_code.proofs.lemmas.meaning.DecodingWitnesses.{begins_unsound, decoded_by_none}
use Rattle.rice_base_tests.specs.Examples.{defaults}
use Rattle.rice_tests.proofs.decoding_examples.refuses_a_value_at_the_reference_place.Goals as goal

abbrev block : BlockData
block = record { reference = Some 5; residuals = 1 ∷ replicate 7 0 }

pub returns : goal.returns
unfolding word bits_of
returns c = decoded_by_none defaults (bits_of (0x10 ∷ 0x57 ∷ 0x80 ∷ [])) None Large 17 (
  tt,
  begins_unsound (SecondExtension block) (replicate 7 false) (record { reference = record { there = refl; fits = lit< tt }; len = refl }) (λ sound. let first : 1 ≡ 0 = sound.0 in omega arith),
)
