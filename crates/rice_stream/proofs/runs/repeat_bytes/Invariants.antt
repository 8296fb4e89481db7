use Rattle.rice_stream.proofs.Words.{◌≡◌, ◌-◌, ◌*◌, ◌≤◌, length, take, repeated}
use Rattle.rice_stream.proofs.runs.repeat_bytes.Given as goal

abbrev pub invariant-repeat : goal.invariant-repeat
invariant-repeat l = record {
  some : 1 ≤ l.done;
  within : l.done ≤ l.count;
  len : length l.bytes ≡ l.width * l.count;
  copies : take (l.width * l.done) l.bytes ≡ repeated l.done l.pattern;
}

abbrev pub decreases-repeat : goal.decreases-repeat
decreases-repeat l = l.count - l.done
