use Rattle.rice_fast.proofs.Words.{arith, ◌^◌, replicate, flat_map, fundamental_sequence}
use Rattle.rice_fast.proofs.lemmas.encode.JoinedSequences.{first_bounded, joined_weights_bounded, joined_values_bounded, ones_bounded, row_fits, sixteen_joined}
use Rattle.rice_fast.proofs.encode.sequences_by_products.all_sequences_joined.Goals as goal

pub joined_pairs-requires-clause-fit : goal.joined_pairs-requires-clause-fit
joined_pairs-requires-clause-fit c = first_bounded c.args.numbers c.requires.small c.weights_of-weights.ensures

pub joined_fours-requires-clause-values : goal.joined_fours-requires-clause-values
joined_fours-requires-clause-values c =
    let ws = c.weights_of-weights.result in
    let first = first_bounded c.args.numbers c.requires.small c.weights_of-weights.ensures in
    joined_values_bounded 1 (2 ^ 7) (2 ^ 14) (replicate 16 1) ws (omega arith) (ones_bounded 16) first c.joined_pairs.ensures.values

pub joined_fours-requires-clause-weights : goal.joined_fours-requires-clause-weights
joined_fours-requires-clause-weights c =
    let first = first_bounded c.args.numbers c.requires.small c.weights_of-weights.ensures in
    joined_weights_bounded (2 ^ 7) c.weights_of-weights.result first c.joined_pairs.ensures.weights

pub joined_eights-requires-clause-values : goal.joined_eights-requires-clause-values
joined_eights-requires-clause-values c =
    let ws = c.weights_of-weights.result in
    let first = first_bounded c.args.numbers c.requires.small c.weights_of-weights.ensures in
    let pairs = joined_values_bounded 1 (2 ^ 7) (2 ^ 14) (replicate 16 1) ws (omega arith) (ones_bounded 16) first c.joined_pairs.ensures.values in
    let weights = joined_weights_bounded (2 ^ 7) ws first c.joined_pairs.ensures.weights in
    joined_values_bounded (2 ^ 14) (2 ^ 14) (2 ^ 29) c.joined_pairs.result.0 c.joined_pairs.result.1 (omega arith) pairs weights c.joined_fours.ensures.values

pub joined_eights-requires-clause-weights : goal.joined_eights-requires-clause-weights
joined_eights-requires-clause-weights c =
    let first = first_bounded c.args.numbers c.requires.small c.weights_of-weights.ensures in
    let weights = joined_weights_bounded (2 ^ 7) c.weights_of-weights.result first c.joined_pairs.ensures.weights in
    joined_weights_bounded (2 ^ 14) c.joined_pairs.result.1 weights c.joined_fours.ensures.weights

pub overflow_mul-result : goal.overflow_mul-result
overflow_mul-result c =
    let all = sixteen_joined c.args.numbers c.requires.len c.weights_of-weights.ensures c.joined_pairs.ensures.values c.joined_pairs.ensures.weights
    c.joined_fours.ensures.values c.joined_fours.ensures.weights c.joined_eights.ensures.values c.joined_eights.ensures.weights in
    record { fits = omega (arith, row_fits (flat_map fundamental_sequence c.args.numbers) _ c.requires.few all) }

pub overflow_add-result : goal.overflow_add-result
overflow_add-result c =
    let all = sixteen_joined c.args.numbers c.requires.len c.weights_of-weights.ensures c.joined_pairs.ensures.values c.joined_pairs.ensures.weights
    c.joined_fours.ensures.values c.joined_fours.ensures.weights c.joined_eights.ensures.values c.joined_eights.ensures.weights in
    record { fits = omega (arith, row_fits (flat_map fundamental_sequence c.args.numbers) _ c.requires.few all) }

pub returns : goal.returns
returns c = sixteen_joined c.args.numbers c.requires.len c.weights_of-weights.ensures c.joined_pairs.ensures.values c.joined_pairs.ensures.weights
    c.joined_fours.ensures.values c.joined_fours.ensures.weights c.joined_eights.ensures.values c.joined_eights.ensures.weights
