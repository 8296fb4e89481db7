use Rattle.rice_fast.proofs.lemmas.Rows.{lanes_lows}
use Rattle.rice_fast.proofs.rows.low_parts_of_row.Goals as goal

pub returns-clause-row : goal.returns-clause-row
returns-clause-row g c =
    let a = c.args in
    let words = c.words_ahead in
    (lanes_lows {buffered = a.ahead.now} {skip = a.skip} a.omitted a.count (g.L.Lanes.numbers words.result)
    c.requires.omitted c.requires.count.0 c.requires.count.1 (g.met.L.Lanes.len words.result) words.ensures.fit words.ensures.bits c.placed.ensures).0

pub returns-clause-low : goal.returns-clause-low
returns-clause-low g c =
    let a = c.args in
    let words = c.words_ahead in
    (lanes_lows {buffered = a.ahead.now} {skip = a.skip} a.omitted a.count (g.L.Lanes.numbers words.result)
    c.requires.omitted c.requires.count.0 c.requires.count.1 (g.met.L.Lanes.len words.result) words.ensures.fit words.ensures.bits c.placed.ensures).1
