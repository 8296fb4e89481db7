use Rattle.std.proofs.Common.{◌+◌, ◌-◌, ◌≡◌, ◌^◌, ◌≤◌, replicate, false}
use Rattle.rice_bits.specs.Reader.{Takes, is_blank}
use Rattle.rice_bits.proofs.read.reader.BitReader.take_fs_with_refills.Given as goal

abbrev pub invariant-loop-count : goal.invariant-loop-count
invariant-loop-count g l = record {
  takes : Takes l.fn.self l.self (replicate l.zeros false);
  idle : is_blank l.fn.self.buffered ≡ false → l.self.intake ≡ l.fn.self.intake;
  limit : l.self.taken ≤ 2 ^ 52;
  steps : l.meter + l.fn.self.taken ≡ l.fn.meter + l.self.taken;
}

abbrev pub decreases-loop-count : goal.decreases-loop-count
decreases-loop-count g l = 2 ^ 52 - l.self.taken
