use Rattle.std.proofs.Common.{◌<◌, ◌∷◌, [], replicate, false, Some, None, refl, lit<, lit≤, arith}
use Rattle.rice_code.proofs.Words.{recursion_from_All, word, bits_of, BlockData, Split, Large}
use Rattle.rice_code.proofs.lemmas.meaning.DecodingWitnesses.{begins_unsound, decoded_by_none}
use Rattle.rice_base_tests.specs.Examples.{defaults, one_bit_defaults}
use Rattle.rice_tests.proofs.decoding_examples.refuses_a_residual_too_large.Goals as goal

abbrev low : BlockData
low = record { reference = Some 0; residuals = 0 ∷ 2 ∷ replicate 6 0 }

abbrev high : BlockData
high = record { reference = Some 0; residuals = 0 ∷ 16 ∷ replicate 6 0 }

pub returns-clause-low : goal.returns-clause-low
unfolding word bits_of
returns-clause-low c = decoded_by_none one_bit_defaults (bits_of (0xCF ∷ 0xE2 ∷ 0x00 ∷ 0x00 ∷ 0x00 ∷ 0x00 ∷ [])) None Large 46 (
  tt,
  begins_unsound (Split 5 low) (replicate 2 false) (record { reference = record { there = refl; fits = lit< tt }; len = refl }, refl, lit≤ tt)
      (λ fit. let second : 2 < 2 = (recursion_from_All (λ d. d < 2) low.residuals fit).1.0 in omega arith),
)

pub returns-clause-high : goal.returns-clause-high
unfolding word bits_of
returns-clause-high c = decoded_by_none (record defaults { bits = 4 }) (bits_of (0x20 ∷ 0x00 ∷ 0x01 ∷ 0xFC ∷ [])) None Large 30 (
  tt,
  begins_unsound (Split 0 high) (replicate 2 false) (record { reference = record { there = refl; fits = lit< tt }; len = refl }, refl, lit≤ tt)
      (λ fit. let second : 16 < 16 = (recursion_from_All (λ d. d < 16) high.residuals fit).1.0 in omega arith),
)
