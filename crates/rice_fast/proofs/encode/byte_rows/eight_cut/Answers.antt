use Rattle.rice_fast.proofs.lemmas.encode.HighParts.{cut_lanes_fit}
use Rattle.rice_fast.proofs.encode.byte_rows.eight_cut.Goals as goal

pub overflow_cast-eight : goal.overflow_cast-eight
overflow_cast-eight c = cut_lanes_fit c.args.items.now c.args.at 8 c.args.k c.requires.inside c.requires.small
