use Rattle.rice_fast.proofs.Words.{rules, arith, word-nil}
use Rattle.rice_fast.proofs.lemmas.encode.JoinedWords.{length-word_is}
use Rattle.rice_fast.proofs.encode.bit_buffer.BitBuffer.put.Goals as goal

pub put_up_to_56_digits-requires : goal.put_up_to_56_digits-requires
put_up_to_56_digits-requires c =
    let i = c.self.inside in
    let len = length-word_is i.width i.value c.args.self.now c.self.view_is in
    (search rules, (c.self.invariant.most, (c.self.invariant.digits, (omega (arith, len, c.requires.room), omega (arith, len, c.requires.steps)))))

pub returns-clause-empty : goal.returns-clause-empty
returns-clause-empty c = word-nil 0
