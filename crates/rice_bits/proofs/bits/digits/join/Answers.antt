use Rattle.std.proofs.{lemmas.Nat.or_shifted, Common.mod-eq_of_lt}
use Rattle.rice_bits.proofs.bits.digits.join.Goals as goal

pub returns : goal.returns
returns c = rw (mod-eq_of_lt c.requires.high) (or_shifted c.args.high c.args.width c.args.low c.requires.low)
