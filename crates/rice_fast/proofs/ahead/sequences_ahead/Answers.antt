use Rattle.rice_fast.proofs.lemmas.{ahead.BitsAhead.there_after, ahead.SequencesAhead.sequences-from}
use Rattle.rice_fast.proofs.ahead.sequences_ahead.Goals as goal

pub returns : goal.returns
returns c =
    sequences-from c.args.count c.at_least_57_bits_from-front.result c.first_sequences.result c.from-at.ensures (there_after c.args.skip 64 c.args.ahead.now c.requires.there)
    c.at_least_57_bits_from-front.ensures c.first_sequences.ensures.begin
