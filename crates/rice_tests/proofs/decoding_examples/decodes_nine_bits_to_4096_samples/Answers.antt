use Rattle.std.proofs.Common.{[], replicate, false, None, refl, lit<, lit≤, pos}
use Rattle.rice_code.proofs.Words.{word, bits_of, RemainderOfSegment}
use Rattle.rice_code.proofs.lemmas.meaning.DecodingWitnesses.{Gives, gives_unsigned, zeros_end, decoded_by_one}
use Rattle.rice_base_tests.specs.Examples.{unprocessed_defaults}
use Rattle.rice_tests.proofs.decoding_examples.decodes_nine_bits_to_4096_samples.Goals as goal

gives : Gives (record unprocessed_defaults { block = 64; interval = 64 }) (RemainderOfSegment None) (replicate 4096 (pos 0))
gives = gives_unsigned (replicate 4096 0) refl (record { there = refl; fits = tt }) tt tt refl refl refl

pub returns-clause-all : goal.returns-clause-all
unfolding word bits_of
returns-clause-all c = decoded_by_one gives []
    (replicate 7 false) refl refl tt 7 (zeros_end (record unprocessed_defaults { block = 64; interval = 64 }) None 64 7 tt)

pub returns-clause-asked : goal.returns-clause-asked
unfolding word bits_of
returns-clause-asked c = decoded_by_one gives []
    (replicate 7 false) refl refl (lit< tt) 0 (lit≤ tt, refl)
