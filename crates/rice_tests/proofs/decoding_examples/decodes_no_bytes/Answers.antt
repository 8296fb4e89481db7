use Rattle.std.proofs.Common.{[], None}
use Rattle.rice_code.proofs.{lemmas.meaning.DecodingWitnesses.zeros_end, lemmas.meaning.DecodingWitnesses.decoded_by_none, Words.word, Words.bits_of, Words.Ended}
use Rattle.rice_base_tests.specs.Examples.{defaults}
use Rattle.rice_tests.proofs.decoding_examples.decodes_no_bytes.Goals as goal

pub returns : goal.returns
unfolding word bits_of
returns c = decoded_by_none defaults (bits_of ([])) None Ended 0 (zeros_end defaults None 0 0 tt)
