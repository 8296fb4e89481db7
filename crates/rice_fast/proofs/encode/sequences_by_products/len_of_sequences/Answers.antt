use Rattle.std.proofs.Common.{◌≤◌, arith}
use Rattle.rice_fast.proofs.lemmas.{vectors.NumbersInLanes.each_of, encode.JoinedSequences.len_of_row, encode.JoinedSequences.length-none_before, encode.JoinedSequences.length-one_before}
use Rattle.rice_fast.proofs.encode.sequences_by_products.len_of_sequences.Goals as goal

pub returns-then-from-eq0 : goal.returns-then-from-eq0
returns-then-from-eq0 c =
    let ms = c.args.numbers in
    let all = len_of_row ms c.args.from c.args.count c.requires.len (each_of (λ m. m ≤ 6) ms c.requires.small) (omega (arith, c.requires.from, c.requires.count)) c.requires.count.1 c.requires.zeros in
    omega (arith, all, length-none_before ms c.args.from c.if-from-eq0.true)

pub overflow_sub-result : goal.overflow_sub-result
overflow_sub-result c =
    let ms = c.args.numbers in
    let all = len_of_row ms c.args.from c.args.count c.requires.len (each_of (λ m. m ≤ 6) ms c.requires.small) (omega (arith, c.requires.from, c.requires.count)) c.requires.count.1 c.requires.zeros in
    omega (arith, all, length-one_before ms c.args.from (omega (arith, c.requires.from)) (omega (arith, c.requires.len)))

pub returns : goal.returns
returns c =
    let ms = c.args.numbers in
    let all = len_of_row ms c.args.from c.args.count c.requires.len (each_of (λ m. m ≤ 6) ms c.requires.small) (omega (arith, c.requires.from, c.requires.count)) c.requires.count.1 c.requires.zeros in
    omega (arith, all, length-one_before ms c.args.from (omega arith) (omega (arith, c.requires.len)))
