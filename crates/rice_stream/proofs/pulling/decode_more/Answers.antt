use Rattle.rice_stream.proofs.lemmas.PulledPieceSoFar.{refuses_piece}
use Rattle.rice_stream.proofs.pulling.decode_more.Goals as goal

pub returns-then-is_too_long : goal.returns-then-is_too_long
returns-then-is_too_long c = λ o front given h.
    refuses_piece c.args.setting.now o front given c.args.piece.now c.args.stand.now c.args.samples.now h (c.is_too_long.ensures.long c.if-is_too_long.true)
