use Rattle.std.proofs.Common.{arith}
use Rattle.rice_bits.proofs.lemmas.device.OutletLemmas.{put_fills}
use Rattle.rice_bits.proofs.device.memory.MemoryOutOutlet.put.Goals as goal

pub returns-clause-bytes : goal.returns-clause-bytes
returns-clause-bytes c =
    let self = c.args.self.now in
    put_fills self.room.ghost_name self.at c.min-count.result self.room.now c.args.bytes.now
    (omega (arith, self.within, self.fits)) c.copy_from_slice.ensures.after (omega (arith, c.min.ensures, c.min-count.ensures)) (omega arith)
