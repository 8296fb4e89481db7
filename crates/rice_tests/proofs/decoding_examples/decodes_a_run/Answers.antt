use Rattle.std.proofs.Common.{[], replicate, false, Some, None, refl, lit<, lit≤, pos}
use Rattle.rice_code.proofs.Words.{word, bits_of, ZeroBlocks}
use Rattle.rice_code.proofs.lemmas.meaning.DecodingWitnesses.{Gives, gives_unsigned, zeros_end, decoded_by_one}
use Rattle.rice_base_tests.specs.Examples.{defaults}
use Rattle.rice_tests.proofs.decoding_examples.decodes_a_run.Goals as goal

gives : Gives defaults (ZeroBlocks (Some 5) 1) (replicate 8 (pos 5))
gives = gives_unsigned (replicate 8 5) refl (record { there = refl; fits = lit< tt }, lit≤ tt) (lit≤ tt, lit≤ tt) tt refl refl refl

pub returns-clause-all : goal.returns-clause-all
unfolding word bits_of
returns-clause-all c = decoded_by_one gives [] (replicate 3 false) refl refl tt 3 (zeros_end defaults None 1 3 tt)

pub returns-clause-asked : goal.returns-clause-asked
unfolding word bits_of
returns-clause-asked c = decoded_by_one gives [] (replicate 3 false) refl
    refl (lit< tt) 0 (lit≤ tt, refl)

pub returns-clause-one : goal.returns-clause-one
unfolding word bits_of
returns-clause-one c = decoded_by_one gives [] (replicate 3 false) refl refl (lit< tt) 0 (lit≤ tt, refl)
