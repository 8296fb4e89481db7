use Rattle.rice_fast.proofs.Words.{arith, refl, ap, ◌+◌, ◌++◌, ◌∙◌, word, length-word}
use Rattle.rice_fast.proofs.lemmas.encode.JoinedWords.{length-word_is, more_fields, high_small, joined_bits}
use Rattle.rice_fast.proofs.encode.bit_buffer.BitBuffer.add.Goals as goal

pub join-self-inside-requires-clause-high : goal.join-self-inside-requires-clause-high
join-self-inside-requires-clause-high c =
    let i = c.self.inside in
    high_small i.width c.args.width i.value c.args.value c.self.invariant.digits c.requires.value (omega (arith, length-word_is i.width i.value _ c.self.view_is, c.make_room.ensures.fits))

pub invariant_of-self : goal.invariant_of-self
invariant_of-self c =
    let i = c.self.inside in
    more_fields c.args.width c.args.value c.self.invariant c.requires.value
    (omega (arith, length-word_is i.width i.value _ c.self.view_is, c.make_room.ensures.fits)) c.join-self-inside.ensures refl

pub returns : goal.returns
returns c =
    let i = c.self.inside in
    let held = length-word_is i.width i.value _ c.self.view_is in
    let len = length-word (i.width + c.args.width) c.join-self-inside.result in
    record {
      bits = joined_bits c.make_room.new.sink i.width i.value c.args.width c.args.value
          c.self.view_is c.requires.value c.join-self-inside.ensures refl
          ∙ ap (λ bits. bits ++ word c.args.width c.args.value) c.make_room.ensures.bits;
      len = omega (arith, held, len);
      steps = omega (arith, held, len);
    }
