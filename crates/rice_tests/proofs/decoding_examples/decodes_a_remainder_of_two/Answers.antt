use Rattle.std.proofs.Common.{[], replicate, false, Some, None, refl, lit<, pos}
use Rattle.rice_code.proofs.Words.{word, bits_of, RemainderOfSegment}
use Rattle.rice_code.proofs.lemmas.meaning.DecodingWitnesses.{Gives, gives_unsigned, zeros_end, decoded_by_one}
use Rattle.rice_base_tests.specs.Examples.{defaults}
use Rattle.rice_tests.proofs.decoding_examples.decodes_a_remainder_of_two.Goals as goal

gives : Gives defaults (RemainderOfSegment (Some 0)) (replicate 16 (pos 0))
gives = gives_unsigned (replicate 16 0) refl (record { there = refl; fits = lit< tt }) tt tt refl refl refl

pub returns : goal.returns
unfolding word bits_of
returns c = decoded_by_one gives [] (replicate 7 false) refl
    refl tt 7 (zeros_end defaults None 2 7 tt)
