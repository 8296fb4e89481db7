use Rattle.rice_fast.proofs.Words.{◌≡◌, ◌-◌, ◌≤◌, ◌++◌, ◌∙◌, ap, arith, drop, length, pair_codes, refl, replicate, take, take-take, zip2, length-drop, length-take-le}
use Rattle.rice_fast.proofs.lemmas.{Pairs.eight_of_lanes, vectors.NearVectors.none_above}
use Rattle.rice_fast.proofs.pairs.row_of_pairs.Goals as goal

pub eight_pairs-requires-clause-small : goal.eight_pairs-requires-clause-small
eight_pairs-requires-clause-small c =
    let codes = c.first-codes.result.lanes in
    let small = none_above 16 63 codes c.above.result.lanes (c.above.ensures ∙ ap (zip2 (λ d b. d - b) codes) c.splat.ensures) c.first-codes.result.len (c.if-not-is_zero.ensures refl) in
    λ i d lt. (let most = small i d lt in omega (arith, most))

pub returns : goal.returns
returns c =
    let a = c.args in
    let after = drop a.at a.codes.now in
    let many : 16 ≤ length after = omega (arith, c.requires.there, c.told-codes, length-drop a.at a.codes.now) in
    let row : c.of.result.lanes ≡ take 16 after = c.of.ensures ∙ take-take 16 (80 - a.at) after (omega (arith, c.requires.there)) in
    let there : a.count ≤ length (take 16 after) = omega (arith, c.requires.count, length-take-le 16 after many) in
    ap pair_codes c.of-2.ensures ∙ (c.eight_pairs.ensures.pairs
    ∙ (ap (take 8) (c.first-codes.ensures ∙ ap (λ xs. take a.count xs ++ replicate (16 - a.count) 0) row)
    ∙ (eight_of_lanes a.count (take 16 after) c.requires.count there ∙ ap (λ xs. xs ++ replicate (8 - a.count) 0) (take-take a.count 16 after (omega (arith, c.requires.count))))))
