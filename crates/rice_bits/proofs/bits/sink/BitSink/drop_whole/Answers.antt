use Rattle.std.proofs.Common.{◌≡◌, ◌%◌, ◌∙◌, ap, arith, length, refl}
use Rattle.rice_bits.proofs.lemmas.bits.SinkBytes.{gathered-dropped, length_viewed}
use Rattle.rice_bits.proofs.bits.sink.BitSink.drop_whole.Goals as goal

pub invariant_of-self : goal.invariant_of-self
invariant_of-self g c = (gathered-dropped c.self.inside.bytes c.move_byte_to_front.new.bytes g.row.N c.self.inside.bits c.move_byte_to_front.ensures.0 c.self.invariant
    c.self.told c.move_byte_to_front.ensures.1 c.move_byte_to_front.ensures.2).1

pub returns-clause-bits : goal.returns-clause-bits
returns-clause-bits g c =
    rw (← c.self.view_is) (gathered-dropped c.self.inside.bytes c.move_byte_to_front.new.bytes g.row.N c.self.inside.bits c.move_byte_to_front.ensures.0 c.self.invariant
    c.self.told c.move_byte_to_front.ensures.1 c.move_byte_to_front.ensures.2).0

pub returns-clause-len : goal.returns-clause-len
returns-clause-len g c =
    let before : length c.args.self.now ≡ c.self.inside.bits = length_viewed _ _ _ _ c.self.invariant c.self.told c.self.view_is in
    let same : length c.move_byte_to_front.new.bytes ≡ length c.self.inside.bytes = omega arith in
    length_viewed c.move_byte_to_front.new.bytes g.row.N (c.self.inside.bits % 8) _ (invariant_of-self g c) (same ∙ c.self.told) refl ∙ ap (λ n. n % 8) (omega (arith, before))
