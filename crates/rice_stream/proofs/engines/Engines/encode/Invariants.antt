use Rattle.std.proofs.Common.{◌≡◌, ◌-◌, ◌^◌, ◌<◌, length}
use Rattle.rice_stream.proofs.Words.{width, EncodingValue, Sees, EncodingProgress}
use Rattle.rice_stream.proofs.engines.Engines.encode.Given as goal

abbrev pub invariant-encode_all : goal.invariant-encode_all
invariant-encode_all g l = record {
  value : EncodingValue;
  sees : Sees g.Self.Coder.TakesBytes.stands l.encoding value;
  runs : EncodingProgress l.setting (g.I.Intake.left l.fn.intake) (g.I.Intake.left l.intake) (g.O.Outlet.taken l.fn.outlet) (g.O.Outlet.taken l.outlet) value l.input;
  few : length l.input.buffered < width l.setting;
  reads : g.I.Intake.failed l.intake ≡ g.I.Intake.failed l.fn.intake;
  writes : g.O.Outlet.failed l.outlet ≡ g.O.Outlet.failed l.fn.outlet;
}

abbrev pub decreases-encode_all : goal.decreases-encode_all
decreases-encode_all g l = 2 ^ 48 - l.input.given
