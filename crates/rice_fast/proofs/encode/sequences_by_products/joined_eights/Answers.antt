use Rattle.rice_fast.proofs.Words.{◌+◌, ◌*◌, ◌%◌, ◌^◌, ◌≤◌, ◌∙◌, arith, zip2}
use Rattle.rice_fast.proofs.lemmas.{vectors.NumbersInLanes.each_of, encode.JoinedSequences.parted_four, encode.JoinedSequences.values_joined, encode.JoinedSequences.weights_joined}
use Rattle.rice_fast.proofs.encode.sequences_by_products.joined_eights.Goals as goal

pub returns-clause-values : goal.returns-clause-values
returns-clause-values c =
    let vs = c.args.values in
    let ws = c.args.weights in
    let v = parted_four vs c.requires.len.0 in
    let w = parted_four ws c.requires.len.1 in
    (λ i. zip2 (λ p q. (p + q) % 18446744073709551616) (zip2 (λ p q. p * q % 18446744073709551616) (v.0 i) (w.1 i)) (v.1 i))
    ∙ values_joined 18446744073709551616 (2 ^ 29) (2 ^ 28) vs ws (omega arith) (each_of (λ v. v ≤ 2 ^ 29) vs c.requires.values) (each_of (λ w. w ≤ 2 ^ 28) ws c.requires.weights)

pub returns-clause-weights : goal.returns-clause-weights
returns-clause-weights c =
    let ws = c.args.weights in
    let w = parted_four ws c.requires.len.1 in
    (λ i. zip2 (λ p q. p * q % 18446744073709551616) (w.0 i) (w.1 i)) ∙ weights_joined 18446744073709551616 (2 ^ 28) ws (omega arith) (each_of (λ w. w ≤ 2 ^ 28) ws c.requires.weights)
