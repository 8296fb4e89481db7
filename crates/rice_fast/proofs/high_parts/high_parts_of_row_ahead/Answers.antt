use Rattle.std.proofs.Common.{arith, ap, length-append, replicate, take, ◌++◌, ◌∙◌, ◌-◌}
use Rattle.rice_fast.proofs.lemmas.HighParts.{first_of, row-highs}
use Rattle.rice_fast.proofs.high_parts.high_parts_of_row_ahead.Goals as goal

pub returns-clause-some : goal.returns-clause-some
returns-clause-some c =
    let a = c.args in
    let found = c.in_ok-sequences in
    row-highs a.omitted a.count c.requires.omitted c.requires.count.0 found.ensures
    (first_of a.count 16 (replicate a.omitted 0 ++ found.sequences.numbers) c.placed-row.result.lanes
    (omega (arith, length-append (replicate a.omitted 0) found.sequences.numbers, found.ensures.lanes, c.requires.count.1))
    (c.placed-row.ensures ∙ ap (λ xs. take a.count (replicate a.omitted 0 ++ xs) ++ replicate (16 - a.count) 0) c.of.ensures))
