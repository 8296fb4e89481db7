use Rattle.rice_fast.proofs.Words.{arith, sym, [], next_of_whole, coder_with}
use Rattle.rice_fast.proofs.encode.coder.BlockCoder.next_place.Goals as goal

pub returns-then-interval-le64-clause-start : goal.returns-then-interval-le64-clause-start
returns-then-interval-le64-clause-start c = sym (next_of_whole (coder_with c.args.self.now []) _ c.requires.0 (omega (arith, c.if-interval-le64.true, c.interval.ensures.value)))
