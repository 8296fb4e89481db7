use Rattle.rice_stream.proofs.Words.{length, ◌-◌, ◌≡◌, ◌≤◌, take, Appends}
use Rattle.rice_stream.proofs.write.write_in_calls.Given as goal

abbrev pub invariant-loop-done : goal.invariant-loop-done
invariant-loop-done g l = record {
  within : l.done ≤ length l.bytes;
  took : Appends (g.O.Outlet.taken l.fn.outlet) (g.O.Outlet.taken l.outlet) (take l.done l.bytes);
  failures : g.O.Outlet.failed l.outlet ≡ g.O.Outlet.failed l.fn.outlet;
}

abbrev pub decreases-loop-done : goal.decreases-loop-done
decreases-loop-done g l = length l.bytes - l.done
