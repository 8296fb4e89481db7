use Rattle.std.proofs.Common.{◌∷◌, [], Some, refl, lit≤}
use Rattle.rice_code.proofs.{lemmas.meaning.DecodingWitnesses.decoded_by_none, Words.word, Words.bits_of, Words.Reached}
use Rattle.rice_base_tests.specs.Examples.{defaults}
use Rattle.rice_tests.proofs.decoding_examples.reads_nothing_if_none_are_asked_for.Goals as goal

pub returns : goal.returns
unfolding word bits_of
returns c = decoded_by_none defaults (bits_of (0xFF ∷ 0xFF ∷ [])) (Some 0) Reached 0 (lit≤ tt, refl)
