use Rattle.std.proofs.Common.{[], replicate, false, Some, None, refl, lit<, lit≤, pos}
use Rattle.rice_code.proofs.Words.{word, bits_of, ZeroBlocks}
use Rattle.rice_code.proofs.lemmas.meaning.DecodingWitnesses.{Gives, gives_unsigned, zeros_end, decoded_by_one}
use Rattle.rice_base_tests.specs.Examples.{defaults}
use Rattle.rice_tests.proofs.decoding_examples.decodes_zeros_after_the_code.Goals as goal

gives : Gives defaults (ZeroBlocks (Some 5) 1) (replicate 8 (pos 5))
gives = gives_unsigned (replicate 8 5) refl (record { there = refl; fits = lit< tt }, lit≤ tt) (lit≤ tt, lit≤ tt) tt refl refl refl

pub returns : goal.returns
unfolding word bits_of
returns c = decoded_by_one gives [] (replicate 19 false) refl
    refl tt 19 (zeros_end defaults None 1 19 tt)
