use Rattle.rice_stream.proofs.lemmas.PulledPieceSoFar.{refuses_piece}
use Rattle.rice_stream.proofs.engines.PlainEngines.decode_more.Goals as goal

pub returns : goal.returns
returns c = λ o front given h.
    refuses_piece c.args.setting.now o front given c.args.piece.now c.args.stand.now c.args.samples.now h (c.is_too_long.ensures.long c.if-not-is_too_long.false)
