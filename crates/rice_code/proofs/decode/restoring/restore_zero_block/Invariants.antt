use Rattle.std.proofs.Common.{◌≡◌, replicate}
use Rattle.rice_code.proofs.decode.restoring.restore_zero_block.Given as goal

abbrev pub invariant-loop : goal.invariant-loop
invariant-loop l = l.samples.items ≡ replicate l.counter l.first
