use Rattle.std.proofs.Common.{◌++◌}
use Rattle.rice_tests.proofs.pulling.pull_and_check_piece.Goals as goal

pub returns : goal.returns
returns c =
    let know = c.requires in
    let d = c.decode_more-why.ensures know.0 know.1 know.2 know.3 in
    (know.0, know.1 ++ d.bits, know.2 ++ d.samples, d.stands)
