use Rattle.rice_fast.proofs.Words.{◌≡◌, ◌+◌, ◌-◌, ◌*◌, ◌≤◌, List, length, drop, ℤ, Reads, StandsAfter, StandsFor, HasRoomAt, Standing}
use Rattle.rice_fast.proofs.encode.coder.BlockCoder.push_blocks_of_size.Given as goal

abbrev pub invariant-loop-i : goal.invariant-loop-i
invariant-loop-i g l = record {
  stands : (m : Standing) → StandsFor l.fn.self l.fn.sink l.fn.meter m → HasRoomAt m
      → (xs : List ℤ) × (length xs ≡ l.known * l.i) × Reads l.fn.self.setting l.fn.bytes xs (drop (l.len * l.i) l.fn.bytes)
      × StandsAfter l.self l.sink l.meter m xs;
  setting : l.self.setting ≡ l.fn.self.setting;
  end : l.self.end ≡ l.fn.self.end;
  held : l.self.held ≡ 0;
  blocks : l.self.blocks ≡ l.fn.self.blocks + l.i;
  most : l.i ≤ l.most;
}

abbrev pub decreases-loop-i : goal.decreases-loop-i
decreases-loop-i g l = l.most - l.i
