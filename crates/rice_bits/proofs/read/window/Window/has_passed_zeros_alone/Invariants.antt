use Rattle.std.proofs.Common.{◌≡◌, ◌-◌, ◌≤◌, true}
use Rattle.std.specs.Prelude.{slice_range}
use Rattle.rice_bits.specs.{Reader.is_blank, Bits.bits_of}
use Rattle.rice_bits.proofs.read.window.Window.has_passed_zeros_alone.Given as goal

abbrev pub invariant-loop-seen : goal.invariant-loop-seen
invariant-loop-seen l = record {
  from : l.self.marked ≤ l.seen;
  within : l.seen ≤ l.self.at;
  blank : is_blank (slice_range (bits_of l.self.buffer) l.self.marked l.seen) ≡ true;
}

abbrev pub decreases-loop-seen : goal.decreases-loop-seen
decreases-loop-seen l = l.self.at - l.seen
