use Rattle.rice_stream.proofs.Words.{◌≡◌, ◌+◌, ◌-◌, ◌*◌, new_reader, DecodingProgress}
use Rattle.rice_stream.proofs.decoding.decode_blocks.Given as goal

abbrev pub invariant-decode_all : goal.invariant-decode_all
invariant-decode_all g l = record {
  runs : DecodingProgress l.setting l.asked (new_reader l.fn.intake (g.I.Intake.left l.fn.intake) (g.I.Intake.failed l.fn.intake))
      (g.O.Outlet.taken l.fn.outlet) (g.O.Outlet.taken l.outlet) l.decoder l.reader l.meter l.written;
  writes : g.O.Outlet.failed l.outlet ≡ g.O.Outlet.failed l.fn.outlet;
}

-- The samples of a run that are still to come are fewer with each block, and each bit brings at most so many.
abbrev pub decreases-decode_all : goal.decreases-decode_all
decreases-decode_all g l = 456 * (4503599627370496 - l.reader.taken) + l.decoder.run * l.decoder.setting.block
