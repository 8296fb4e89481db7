use Rattle.std.proofs.Common.{arith, length, sym, ◌∙◌}
use Rattle.std.proofs.Math.Seq.{take-length}
use Rattle.rice_bits.proofs.lemmas.device.OutletLemmas.{put_fills}
use Rattle.rice_bits.proofs.device.slice.SliceOutOutlet.put.Goals as goal

pub returns-then-bytes-room-clause-bytes : goal.returns-then-bytes-room-clause-bytes
returns-then-bytes-room-clause-bytes c =
    let self = c.args.self.now in
    let bytes = c.args.bytes.now in
    put_fills self.room.ghost_name self.at (length bytes) self.room.now bytes
    (omega (arith, self.within)) (c.copy_from_slice.ensures.after ∙ sym (take-length bytes)) (omega arith) (omega arith)
