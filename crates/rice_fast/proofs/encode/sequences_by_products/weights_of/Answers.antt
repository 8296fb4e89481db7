use Rattle.std.proofs.Common.{◌≤◌}
use Rattle.rice_fast.proofs.lemmas.{vectors.NumbersInLanes.each_of, encode.JoinedSequences.places_are_ok, encode.JoinedSequences.weights_swizzled}
use Rattle.rice_fast.proofs.encode.sequences_by_products.weights_of.Goals as goal

pub swizzle : goal.swizzle
swizzle c = places_are_ok c.args.numbers c.requires.len (each_of (λ m. m ≤ 6) c.args.numbers c.requires.small)

pub returns : goal.returns
returns c = weights_swizzled c.args.numbers c.requires.len (each_of (λ m. m ≤ 6) c.args.numbers c.requires.small)
