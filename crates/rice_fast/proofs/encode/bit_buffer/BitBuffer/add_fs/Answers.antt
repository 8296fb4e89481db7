use Rattle.rice_fast.proofs.Words.{◌++◌, ◌∙◌, ap, word-fs}
use Rattle.rice_fast.proofs.lemmas.encode.JoinedWords.{one_fits}
use Rattle.rice_fast.proofs.encode.bit_buffer.BitBuffer.add_fs.Goals as goal

pub add-requires-clause-value : goal.add-requires-clause-value
add-requires-clause-value c = one_fits c.args.m

pub returns-then-m-lt56 : goal.returns-then-m-lt56
returns-then-m-lt56 c = record {
  bits = c.add.ensures.bits ∙ ap (λ v. c.args.sink.now ++ c.args.self.now ++ v) (word-fs c.args.m);
  len = c.add.ensures.len;
  steps = c.add.ensures.steps;
}
