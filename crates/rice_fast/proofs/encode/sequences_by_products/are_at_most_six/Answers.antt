use Rattle.std.proofs.Common.{◌≤◌, arith, replicate, w8}
use Rattle.rice_fast.proofs.lemmas.encode.JoinedSequences.{none_above, none_found_above}
use Rattle.rice_fast.proofs.lemmas.{vectors.NearVectors.excess_of_each, vectors.NearVectors.splat-fits, vectors.NumbersInLanes.all_of, vectors.NumbersInLanes.each_of}
use Rattle.rice_fast.proofs.encode.sequences_by_products.are_at_most_six.Goals as goal

pub returns : goal.returns
returns c =
    let ms = c.args.numbers in
    let over = excess_of_each w8 ms (replicate 16 6) c.fits-numbers.1 (splat-fits w8 16 6 (record { fits = omega arith })) in
    (λ test. all_of (λ m. m ≤ 6) ms (none_above 6 ms _ over c.requires test), λ all. none_found_above 6 ms _ over (each_of (λ m. m ≤ 6) ms all))
