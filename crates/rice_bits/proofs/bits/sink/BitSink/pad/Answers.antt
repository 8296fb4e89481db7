use Rattle.std.proofs.Common.{◌+◌, ◌-◌, ◌*◌, ◌%◌, ◌∙◌, false, ap, arith, length, length-append, replicate}
use Rattle.std.proofs.lemmas.{List.length-replicate, Grind.common_steps}
use Rattle.rice_bits.proofs.lemmas.bits.{SinkBytes.length_viewed, SinkBytes.fewer_zeros_after, BytesAndBits.length-bits_of}
use Rattle.rice_bits.specs.Bits.{bits_of, bits_to_byte}
use Rattle.rice_bits.proofs.bits.sink.BitSink.pad.Goals as goal

pub invariant_of-self : goal.invariant_of-self
invariant_of-self g c =
    let n = c.self.inside.bits in
    record {
      room = omega (arith, c.self.invariant.room);
      zeros =
          (fewer_zeros_after (bits_of c.self.inside.bytes) n (n + (8 - n % 8) % 8) (8 * g.row.N)
          (omega (arith, c.self.told, length-bits_of c.self.inside.bytes)) (omega arith) (omega (arith, c.self.invariant.room))
          c.self.invariant.zeros).1;
      small = c.self.invariant.small;
    }

pub returns-clause-bits : goal.returns-clause-bits
returns-clause-bits g c = grind (arith, common_steps, length_viewed, fewer_zeros_after, length-bits_of)

pub returns-clause-len : goal.returns-clause-len
returns-clause-len g c =
    ap length (returns-clause-bits g c)
    ∙ (length-append c.args.self.now (replicate (bits_to_byte (length c.args.self.now)) false) ∙ ap (λ n. length c.args.self.now + n) (length-replicate (bits_to_byte (length c.args.self.now)) false))
