use Rattle.std.proofs.Common.{◌≡◌, ap, ◌∙◌, refl, None}
use Rattle.rice_bits.proofs.lemmas.read.{RefilledBytes.refills-buffered, ReaderLemmas.takes_passed}
use Rattle.rice_bits.proofs.read.reader.BitReader.pass.Goals as goal

pub returns-clause-takes : goal.returns-clause-takes
returns-clause-takes g c =
    let none : c.self.inside.refusal ≡ None = ap (λ r. r.refusal) c.self.view_is ∙ c.requires.going in
    let passes = c.pass.ensures.passes in
    rw (← c.self.view_is) (takes_passed _ _ (refills-buffered _ _ _ _ passes.split) refl refl none refl passes)
