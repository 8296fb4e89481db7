use Rattle.std.proofs.Common.{◌+◌, ap, arith, drop, subst, length}
use Rattle.rice_bits.proofs.lemmas.read.WindowLemmas.{ahead_from, length-ahead}
use Rattle.rice_bits.specs.Window.{AreBitsFrom}
use Rattle.rice_bits.proofs.read.bits_ahead.BitsAhead.from.Goals as goal

pub overflow_add-result : goal.overflow_add-result
overflow_add-result c =
    let h = c.self.invariant in
    record { fits = omega (arith, c.requires, ap length c.self.view_is, length-ahead c.self.inside.bytes.now c.self.inside.at h, h) }

pub returns : goal.returns
returns c =
    let own = c.self.inside in
    subst (λ bits. AreBitsFrom own.bytes.now (own.at + c.args.skip) (drop c.args.skip bits)) c.self.view_is
    (ahead_from own.bytes.now own.at c.args.skip c.self.invariant (omega (arith, c.requires, ap length c.self.view_is)))
