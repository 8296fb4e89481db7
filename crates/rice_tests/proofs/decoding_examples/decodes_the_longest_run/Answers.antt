use Rattle.std.proofs.Common.{◌≤◌, ◌∷◌, [], ◌++◌, replicate, false, Some, None, refl, lit<, lit≤, pos, arith}
use Rattle.rice_code.proofs.Words.{word, bits_of, ZeroBlocks, Past}
use Rattle.rice_code.proofs.lemmas.meaning.DecodingWitnesses.{Gives, gives_unsigned, zeros_end, decoded_by_one, begins_unsound, decoded_by_none}
use Rattle.rice_base_tests.specs.Examples.{defaults}
use Rattle.rice_tests.proofs.decoding_examples.decodes_the_longest_run.Goals as goal

gives : Gives (record defaults { interval = 64 }) (ZeroBlocks (Some 0) 63) (replicate 504 (pos 0))
gives = gives_unsigned (replicate 504 0) refl (record { there = refl; fits = lit< tt }, lit≤ tt) (lit≤ tt, lit≤ tt) tt refl refl refl

pub returns-clause-longest : goal.returns-clause-longest
unfolding word bits_of
returns-clause-longest c = decoded_by_one gives [] (replicate 4 false) refl refl tt 4 (zeros_end (record defaults { interval = 64 }) None 63 4 tt)

pub returns-clause-longer : goal.returns-clause-longer
unfolding word bits_of
returns-clause-longer c = decoded_by_none (record defaults { interval = 64 }) (bits_of (replicate 9 0x00 ++ 0x08 ∷ [])) None Past 77 (
  tt,
  begins_unsound (ZeroBlocks (Some 0) 64) (replicate 3 false) (record { there = refl; fits = lit< tt }, lit≤ tt) (λ run. let few : 64 ≤ 63 = run.1 in omega arith),
)
