use Rattle.rice_fast.proofs.Words.{◌++◌, ◌∙◌, ap, append-nil, append_assoc, arith, length, sym, flat_map, word, length-word, length_words}
use Rattle.rice_fast.proofs.encode.bit_buffer.BitBuffer.put_then_whole_words.Goals as goal

pub put_number_and_whole_words-requires : goal.put_number_and_whole_words-requires
put_number_and_whole_words-requires c =
    let held = sym (ap length c.self.view_is) ∙ length-word c.self.inside.width c.self.inside.value in
    let all = length_words c.args.width c.args.words.now in (
      omega arith,
      (
        (omega (arith, held, c.requires.bits), omega (arith, held, c.requires.bits)),
        (c.self.invariant.digits, (c.requires.width, (c.requires.eights, (omega (arith, held, all, c.requires.room.room), omega (arith, held, all, c.requires.room.steps))))),
      ),
    )

pub returns : goal.returns
returns c =
    let held = sym (ap length c.self.view_is) ∙ length-word c.self.inside.width c.self.inside.value in
    let all = length_words c.args.width c.args.words.now in
    let sink = c.args.sink.now in
    let words = flat_map (word c.args.width) c.args.words.now in
    let put = c.put_number_and_whole_words.ensures in
    record {
      bits = append-nil c.put_number_and_whole_words.new.self
          ∙ (put.bits ∙ (ap (λ v. sink ++ (v ++ words)) c.self.view_is ∙ sym (append_assoc sink c.args.self.now words)));
      len = omega (arith, held, all, put.len);
      steps = omega (arith, held, all, put.steps);
    }
