use Rattle.std.proofs.Common.{◌+◌, ◌-◌, ◌≡◌, ◌^◌, ◌<◌, ◌≤◌, length}
use Rattle.rice_bits.specs.{Reader.Takes, Bits.word}
use Rattle.rice_bits.proofs.read.reader.BitReader.take_with_refills.Given as goal

abbrev pub invariant-loop-left : goal.invariant-loop-left
invariant-loop-left g l = record {
  within : l.left ≤ l.width;
  below : l.value < 2 ^ (l.width - l.left);
  takes : Takes l.fn.self l.self (word (l.width - l.left) l.value);
  idle : l.width ≤ length l.fn.self.buffered → l.self.intake ≡ l.fn.self.intake;
  limit : l.self.taken ≤ 2 ^ 52;
  steps : l.meter + l.fn.self.taken ≡ l.fn.meter + l.self.taken;
}

abbrev pub decreases-loop-left : goal.decreases-loop-left
decreases-loop-left g l = l.left
