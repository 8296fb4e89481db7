use Rattle.rice_stream.proofs.Words.{◌≡◌, ◌-◌}
use Rattle.rice_stream.specs.DecodingState.{IsReady, WritesBlocks, at_work}
use Rattle.rice_stream.proofs.block_pass.write_passed_blocks.Given as goal

abbrev pub invariant-pass_over : goal.invariant-pass_over
invariant-pass_over g l = record {
  ready : IsReady l.setting l.reader l.meter l.decoder;
  writes : WritesBlocks l.setting l.most (at_work l.fn.reader l.fn.meter l.fn.decoder (g.O.Outlet.taken l.fn.outlet)) (at_work l.reader l.meter l.decoder (g.O.Outlet.taken l.outlet)) l.written;
  counts : g.O.Outlet.failed l.outlet ≡ g.O.Outlet.failed l.fn.outlet;
}

abbrev pub decreases-pass_over : goal.decreases-pass_over
decreases-pass_over g l = l.most - l.written
