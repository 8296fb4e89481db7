use Rattle.std.proofs.lemmas.Grind.{common_steps}
use Rattle.std.proofs.Common.{◌≡◌, ◌+◌, ◌-◌, ◌*◌, ◌++◌, ◌∙◌, false, ap, sym, arith, length, length-append, drop, take, replicate}
use Rattle.rice_bits.proofs.lemmas.bits.{WordsAndNumbers.length-fundamental_sequence, SinkBytes.gathered-one, SinkBytes.length_viewed}
use Rattle.rice_bits.specs.Bits.{bits_of, fundamental_sequence}
use Rattle.rice_bits.proofs.bits.sink.BitSink.put_fs.Goals as goal

pub join_one_at_bit-requires : goal.join_one_at_bit-requires
join_one_at_bit-requires g c = grind (arith, common_steps, length_viewed)

pub invariant_of-self : goal.invariant_of-self
invariant_of-self g c =
    let before : length c.args.self.now ≡ c.self.inside.bits = length_viewed _ _ _ _ c.self.invariant c.self.told c.self.view_is in
    let zeros : drop c.self.inside.bits (bits_of c.self.inside.bytes) ≡ replicate (8 * length c.self.inside.bytes - c.self.inside.bits) false =
    c.self.invariant.zeros ∙ ap (λ n. replicate (8 * n - c.self.inside.bits) false) (sym c.self.told) in
    let one = gathered-one c.self.inside.bytes c.join_one_at_bit.new.bytes c.self.inside.bits c.args.m (omega (arith, before, c.requires.room, c.self.told)) zeros c.join_one_at_bit.ensures in
    grind (arith, common_steps)

pub returns : goal.returns
returns g c =
    let before : length c.args.self.now ≡ c.self.inside.bits = length_viewed _ _ _ _ c.self.invariant c.self.told c.self.view_is in
    let zeros : drop c.self.inside.bits (bits_of c.self.inside.bytes) ≡ replicate (8 * length c.self.inside.bytes - c.self.inside.bits) false =
    c.self.invariant.zeros ∙ ap (λ n. replicate (8 * n - c.self.inside.bits) false) (sym c.self.told) in
    let put : take (c.self.inside.bits + (c.args.m + 1)) (bits_of c.join_one_at_bit.new.bytes) ≡ c.args.self.now ++ fundamental_sequence c.args.m = rw (← c.self.view_is)
    (gathered-one c.self.inside.bytes c.join_one_at_bit.new.bytes c.self.inside.bits c.args.m (omega (arith, before, c.requires.room, c.self.told)) zeros c.join_one_at_bit.ensures).0 in
    grind (arith, common_steps, length-append, length-fundamental_sequence)
