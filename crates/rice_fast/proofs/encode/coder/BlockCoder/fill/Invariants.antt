use Rattle.rice_fast.proofs.Words.{◌≡◌, ◌+◌, replicate, StandsAfter, StandsFor, Standing}
use Rattle.rice_fast.proofs.encode.coder.BlockCoder.fill.Given as goal

abbrev pub invariant-loop-i : goal.invariant-loop-i
invariant-loop-i l = record {
  stands : (m : Standing) → StandsFor l.fn.self l.fn.sink l.fn.meter m → StandsAfter l.self l.fn.sink l.meter m (replicate l.i m.coder.previous);
  setting : l.self.setting ≡ l.fn.self.setting;
  end : l.self.end ≡ l.fn.self.end;
  held : l.self.held ≡ l.fn.self.held + l.i;
  blocks : l.self.blocks ≡ l.fn.self.blocks;
}
