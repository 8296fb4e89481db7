use Rattle.rice_fast.proofs.lemmas.ahead.GapsInLanes.{lanes-spell}
use Rattle.rice_fast.proofs.ahead.sequences.len_of_sequences.Goals as goal

pub returns-clause-inside : goal.returns-clause-inside
returns-clause-inside c = (lanes-spell c.args.front c.args.bytes c.args.count c.args.ends c.requires.bytes.1 c.requires.ends c.requires.some.0 c.requires.some.1 c.requires.there).0

pub returns-clause-bits : goal.returns-clause-bits
returns-clause-bits c = (lanes-spell c.args.front c.args.bytes c.args.count c.args.ends c.requires.bytes.1 c.requires.ends c.requires.some.0 c.requires.some.1 c.requires.there).1
