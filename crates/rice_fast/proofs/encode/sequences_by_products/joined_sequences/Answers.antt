use Rattle.std.proofs.Common.{◌≤◌, arith}
use Rattle.rice_fast.proofs.lemmas.{encode.JoinedSequences.digits_of_front, encode.JoinedSequences.digits_of_row, encode.JoinedSequences.row_is_short, vectors.NumbersInLanes.each_of}
use Rattle.rice_fast.proofs.encode.sequences_by_products.joined_sequences.Goals as goal

pub all_sequences_joined-requires-clause-few : goal.all_sequences_joined-requires-clause-few
all_sequences_joined-requires-clause-few c =
    let ms = c.args.numbers in
    row_is_short ms c.args.from c.args.count c.requires.from c.requires.count.0 c.requires.len (each_of (λ m. m ≤ 6) ms c.requires.small) c.requires.zeros c.requires.total c.requires.few

pub returns : goal.returns
returns c =
    digits_of_row c.args.numbers c.args.from c.args.count _ (omega (arith, c.requires.from, c.requires.count)) c.requires.zeros c.requires.total (omega (arith, c.requires.few))
    c.all_sequences_joined.ensures

pub returns-then-from-eq0 : goal.returns-then-from-eq0
returns-then-from-eq0 c = digits_of_front c.args.numbers c.args.from c.args.count _ c.if-from-eq0.true c.requires.zeros c.requires.total c.all_sequences_joined.ensures
