use Rattle.std.proofs.Common.{◌∙◌, ap, arith, length, sym}
use Rattle.rice_bits.proofs.lemmas.read.WindowLemmas.{ahead_begins, length-ahead, length-window}
use Rattle.rice_bits.proofs.read.reader.BitReader.ahead.Goals as goal

pub invariant_of-result : goal.invariant_of-result
invariant_of-result g c = (let w = c.self.invariant.window in (w.size, omega (arith, w.ordered, w.fits)))

pub returns-clause-bits : goal.returns-clause-bits
returns-clause-bits g c = ahead_begins c.self.invariant.window (ap (λ r. r.buffered) c.self.view_is)

pub returns-clause-more : goal.returns-clause-more
returns-clause-more g c =
    let w = c.self.invariant.window in
    let all = ap length (sym (ap (λ r. r.buffered) c.self.view_is)) ∙ length-window c.self.inside.window w in
    omega (arith, all, length-ahead c.self.inside.window.buffer c.self.inside.window.at (w.size, omega (arith, w.ordered, w.fits)), w.size, w.ordered, w.fits)
