use Rattle.std.proofs.Common.{◌≤◌, ◌∷◌, [], replicate, false, Some, None, refl, lit<, lit≤, arith}
use Rattle.rice_code.proofs.{lemmas.meaning.DecodingWitnesses.begins_unsound, lemmas.meaning.DecodingWitnesses.decoded_by_none, Words.word, Words.bits_of, Words.ZeroBlocks, Words.Past}
use Rattle.rice_base_tests.specs.Examples.{defaults}
use Rattle.rice_tests.proofs.decoding_examples.refuses_a_run_past_its_segment.Goals as goal

pub returns-clause-all : goal.returns-clause-all
unfolding word bits_of
returns-clause-all c = decoded_by_none defaults (bits_of (0x00 ∷ 0x02 ∷ [])) None Past 15 (
  tt,
  begins_unsound (ZeroBlocks (Some 0) 3) (replicate 1 false) (record { there = refl; fits = lit< tt }, lit≤ tt) (λ run. let inside : 3 ≤ 2 = run.0 in omega arith),
)

pub returns-clause-asked : goal.returns-clause-asked
unfolding word bits_of
returns-clause-asked c = decoded_by_none defaults (bits_of (0x00 ∷ 0x02 ∷ [])) (Some 8) Past 15 (
  lit< tt,
  begins_unsound (ZeroBlocks (Some 0) 3) (replicate 1 false) (record { there = refl; fits = lit< tt }, lit≤ tt) (λ run. let inside : 3 ≤ 2 = run.0 in omega arith),
)
