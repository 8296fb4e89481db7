use Rattle.rice_fast.proofs.lemmas.encode.HighParts.{cut_lanes_fit}
use Rattle.rice_fast.proofs.encode.byte_rows.sixteen_cut.Goals as goal

pub overflow_cast-result : goal.overflow_cast-result
overflow_cast-result c = cut_lanes_fit c.args.items.now c.args.at 16 c.args.k c.requires.inside c.requires.small
