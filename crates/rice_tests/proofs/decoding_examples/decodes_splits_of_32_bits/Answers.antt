use Rattle.std.proofs.Common.{ℕ, ◌≤◌, ◌∷◌, [], ◌++◌, replicate, false, None, refl, lit≤, pos}
use Rattle.rice_code.proofs.Words.{word, bits_of, Parameters, BlockData, Split}
use Rattle.rice_code.proofs.lemmas.meaning.DecodingWitnesses.{Gives, all_below, gives_unsigned, zeros_end, decoded_by_one}
use Rattle.rice_base_tests.specs.Examples.{unprocessed_defaults}
use Rattle.rice_tests.proofs.decoding_examples.decodes_splits_of_32_bits.Goals as goal

abbrev wide : Parameters
wide = record unprocessed_defaults { bits = 32 }

abbrev block : BlockData
block = record { reference = None; residuals = replicate 7 0 ++ 1 ∷ [] }

gives : (k : ℕ) → k ≤ 29 → Gives wide (Split k block) (replicate 7 (pos 0) ++ pos 1 ∷ [])
gives k small = gives_unsigned block.residuals refl (record { reference = record { there = refl; fits = tt }; len = refl }, tt, small) tt (all_below 4294967296 block.residuals refl) refl refl refl

pub returns-clause-second : goal.returns-clause-second
unfolding word bits_of
returns-clause-second c = decoded_by_one (gives 1 (lit≤ tt)) [] (replicate 3 false) refl refl tt 3 (zeros_end wide None 1 3 tt)

pub returns-clause-greatest : goal.returns-clause-greatest
unfolding word bits_of
returns-clause-greatest c = decoded_by_one (gives 29 (lit≤ tt)) [] (replicate 3 false) refl refl tt 3 (zeros_end wide None 1 3 tt)
