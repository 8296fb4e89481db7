use Rattle.rice_fast.proofs.Words.{◌+◌, ◌*◌, ◌%◌, ◌^◌, ◌≤◌, ◌∙◌, arith, zip2}
use Rattle.rice_fast.proofs.lemmas.{vectors.NumbersInLanes.each_of, encode.JoinedSequences.parted_eight, encode.JoinedSequences.values_joined, encode.JoinedSequences.weights_joined}
use Rattle.rice_fast.proofs.encode.sequences_by_products.joined_fours.Goals as goal

pub returns-clause-values : goal.returns-clause-values
returns-clause-values c =
    let vs = c.args.values in
    let ws = c.args.weights in
    let v = parted_eight vs c.requires.len.0 in
    let w = parted_eight ws c.requires.len.1 in
    (λ i. zip2 (λ p q. (p + q) % 4294967296) (zip2 (λ p q. p * q % 4294967296) (v.0 i) (w.1 i)) (v.1 i))
    ∙ values_joined 4294967296 (2 ^ 14) (2 ^ 14) vs ws (omega arith) (each_of (λ v. v ≤ 2 ^ 14) vs c.requires.values) (each_of (λ w. w ≤ 2 ^ 14) ws c.requires.weights)

pub returns-clause-weights : goal.returns-clause-weights
returns-clause-weights c =
    let ws = c.args.weights in
    let w = parted_eight ws c.requires.len.1 in
    (λ i. zip2 (λ p q. p * q % 4294967296) (w.0 i) (w.1 i)) ∙ weights_joined 4294967296 (2 ^ 14) ws (omega arith) (each_of (λ w. w ≤ 2 ^ 14) ws c.requires.weights)
