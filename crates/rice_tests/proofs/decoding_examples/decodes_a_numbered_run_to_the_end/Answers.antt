use Rattle.std.proofs.Common.{[], replicate, false, Some, None, refl, lit<, lit≤, pos}
use Rattle.rice_code.proofs.Words.{word, bits_of, ZeroBlocks}
use Rattle.rice_code.proofs.lemmas.meaning.DecodingWitnesses.{Gives, gives_unsigned, zeros_end, decoded_by_one}
use Rattle.rice_base_tests.specs.Examples.{defaults}
use Rattle.rice_tests.proofs.decoding_examples.decodes_a_numbered_run_to_the_end.Goals as goal

gives : Gives (record defaults { interval = 5 }) (ZeroBlocks (Some 0) 5) (replicate 40 (pos 0))
gives = gives_unsigned (replicate 40 0) refl (record { there = refl; fits = lit< tt }, lit≤ tt) (lit≤ tt, lit≤ tt) tt refl refl refl

pub returns : goal.returns
unfolding word bits_of
returns c = decoded_by_one gives [] (replicate 6 false) refl refl tt 6 (zeros_end (record defaults { interval = 5 }) None 5 6 tt)
