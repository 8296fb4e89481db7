use Rattle.std.specs.Str.Parse.{ExplainsUnsignedError, HasUnsignedDigitsIfOk, ParsesUnsigned}
use Rattle.clap.specs.Words.{found_of, one_text}
use Rattle.aec_command.proofs.EntryLemmas.{reads_number}
use Rattle.aec_command.proofs.entries.number_of_32_bits.Goals as goal

pub returns : goal.returns
returns c =
    reads_number _ (λ bs r. ParsesUnsigned 32 10 bs r × ExplainsUnsignedError 10 bs r × HasUnsignedDigitsIfOk bs r) 32
    (one_text (found_of c.args.matches.now) c.args.id.now) c.get_one.result (λ u x g. g.0)
    c.get_one.ensures.none c.get_one.ensures.value
