use Rattle.rice_fast.proofs.Words.{◌+◌, ◌*◌, ◌%◌, ◌^◌, ◌≤◌, ◌∙◌, ap, arith, replicate, zip2}
use Rattle.rice_fast.proofs.lemmas.{vectors.NumbersInLanes.each_of, encode.JoinedSequences.pairs_joined, encode.JoinedSequences.parted_sixteen, encode.JoinedSequences.weights_joined}
use Rattle.rice_fast.proofs.encode.sequences_by_products.joined_pairs.Goals as goal

pub returns-clause-values : goal.returns-clause-values
returns-clause-values c =
    let ws = c.args.weights in
    ap (λ second. zip2 (λ p q. (p + q) % 65536) second (replicate 8 1)) (parted_sixteen ws c.requires.len).1
    ∙ pairs_joined 65536 (2 ^ 7) 8 ws c.requires.len (omega arith) (each_of (λ w. w ≤ 2 ^ 7) ws c.requires.fit)

pub returns-clause-weights : goal.returns-clause-weights
returns-clause-weights c =
    let ws = c.args.weights in
    let parts = parted_sixteen ws c.requires.len in
    (λ i. zip2 (λ p q. p * q % 65536) (parts.0 i) (parts.1 i)) ∙ weights_joined 65536 (2 ^ 7) ws (omega arith) (each_of (λ w. w ≤ 2 ^ 7) ws c.requires.fit)
