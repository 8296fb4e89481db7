use Rattle.std.proofs.Common.{◌≡◌, ◌*◌, ◌≤◌, None}
use Rattle.rice_tests.proofs.decoder.decode.Given as goal

abbrev pub invariant-loop : goal.invariant-loop
invariant-loop g l = record {
  going : l.decoder.stopped ≡ None → l.reader.refusal ≡ None;
  room : l.meter ≤ 2 * l.reader.taken;
}
