use Rattle.rice_bits.proofs.lemmas.bits.WordsReadInOneWay.{sequence_reads}
use Rattle.rice_bits.proofs.laws.sequences_are_read_in_one_way.Goals as goal

pub returns : goal.returns
returns c = sequence_reads
