use Rattle.rice_fast.proofs.Words.{[], ◌∷◌, ◌*◌, ◌^◌, ◌<◌, arith, refl, sym}
use Rattle.rice_fast.proofs.lemmas.encode.LowParts.{all_spelled, fours_of_eight, joined_digits, low_spell, pairs_of_eight, spelled_from}
use Rattle.rice_fast.proofs.lemmas.{encode.AddedBits.same_added, encode.AddedBits.same_room, vectors.NumbersInLanes.all_of}
use Rattle.rice_fast.proofs.encode.low_parts.put_eight_short.Goals as goal

pub joined_short_pairs-requires-clause-fit : goal.joined_short_pairs-requires-clause-fit
joined_short_pairs-requires-clause-fit c =
    let spelled = low_spell c.args.width c.args.eight.now c.requires.eight c.lowest_digits-low.ensures.value in
    all_of (λ v. v < 2 ^ c.args.width) c.lowest_digits-low.result spelled.fit

pub joined_fours-requires-clause-fit : goal.joined_fours-requires-clause-fit
joined_fours-requires-clause-fit c =
    let spelled = pairs_of_eight c.args.width c.args.eight.now c.requires.eight c.lowest_digits-low.ensures.value c.lowest_digits-low.ensures.len c.joined_short_pairs.ensures.value in
    all_of (λ v. v < 2 ^ (2 * c.args.width)) c.joined_short_pairs.result spelled.fit

pub add_numbers-requires-clause-fit : goal.add_numbers-requires-clause-fit
add_numbers-requires-clause-fit c =
    let low = c.lowest_digits-low.ensures in
    let spelled = fours_of_eight c.args.width c.args.eight.now c.requires.eight low.value low.len c.joined_short_pairs.ensures.value c.joined_short_pairs.ensures.len c.joined_fours.ensures.value in
    all_of (λ v. v < 2 ^ (4 * c.args.width)) c.joined_fours.result spelled.fit

pub add_numbers-requires-clause-room : goal.add_numbers-requires-clause-room
add_numbers-requires-clause-room c =
    let low = c.lowest_digits-low.ensures in
    let spelled = fours_of_eight c.args.width c.args.eight.now c.requires.eight low.value low.len c.joined_short_pairs.ensures.value c.joined_short_pairs.ensures.len c.joined_fours.ensures.value in
    same_room (sym (spelled_from c.args.from spelled refl c.requires.low.from (omega (arith, c.requires.eight)))) c.requires.low.room

pub returns-then-width-gt7 : goal.returns-then-width-gt7
returns-then-width-gt7 c =
    let low = c.lowest_digits-low.ensures in
    let spelled = fours_of_eight c.args.width c.args.eight.now c.requires.eight low.value low.len c.joined_short_pairs.ensures.value c.joined_short_pairs.ensures.len c.joined_fours.ensures.value in
    same_added (spelled_from c.args.from spelled refl c.requires.low.from (omega (arith, c.requires.eight))) c.add_numbers.ensures

pub join-all-requires-clause-high : goal.join-all-requires-clause-high
join-all-requires-clause-high c =
    let low = c.lowest_digits-low.ensures in
    let spelled = fours_of_eight c.args.width c.args.eight.now c.requires.eight low.value low.len c.joined_short_pairs.ensures.value c.joined_short_pairs.ensures.len c.joined_fours.ensures.value in
    (joined_digits (4 * c.args.width) c.joined_fours.result c.joined_fours.ensures.len (omega arith) spelled.fit).0

pub join-all-requires-clause-low : goal.join-all-requires-clause-low
join-all-requires-clause-low c =
    let low = c.lowest_digits-low.ensures in
    let spelled = fours_of_eight c.args.width c.args.eight.now c.requires.eight low.value low.len c.joined_short_pairs.ensures.value c.joined_short_pairs.ensures.len c.joined_fours.ensures.value in
    (joined_digits (4 * c.args.width) c.joined_fours.result c.joined_fours.ensures.len (omega arith) spelled.fit).1

pub add_numbers-requires-2-clause-fit : goal.add_numbers-requires-2-clause-fit
add_numbers-requires-2-clause-fit c =
    let low = c.lowest_digits-low.ensures in
    let fours = fours_of_eight c.args.width c.args.eight.now c.requires.eight low.value low.len c.joined_short_pairs.ensures.value c.joined_short_pairs.ensures.len c.joined_fours.ensures.value in
    let spelled = all_spelled c.joined_fours.result (8 * c.args.width) c.joined_fours.ensures.len (omega arith) fours c.join-all.ensures in
    all_of (λ v. v < 2 ^ (8 * c.args.width)) (c.join-all.result ∷ []) spelled.fit

pub add_numbers-requires-2-clause-room : goal.add_numbers-requires-2-clause-room
add_numbers-requires-2-clause-room c =
    let low = c.lowest_digits-low.ensures in
    let fours = fours_of_eight c.args.width c.args.eight.now c.requires.eight low.value low.len c.joined_short_pairs.ensures.value c.joined_short_pairs.ensures.len c.joined_fours.ensures.value in
    let spelled = all_spelled c.joined_fours.result (8 * c.args.width) c.joined_fours.ensures.len (omega arith) fours c.join-all.ensures in
    same_room (sym (spelled_from c.args.from spelled refl c.requires.low.from (omega (arith, c.requires.eight)))) c.requires.low.room

pub returns : goal.returns
returns c =
    let low = c.lowest_digits-low.ensures in
    let fours = fours_of_eight c.args.width c.args.eight.now c.requires.eight low.value low.len c.joined_short_pairs.ensures.value c.joined_short_pairs.ensures.len c.joined_fours.ensures.value in
    let spelled = all_spelled c.joined_fours.result (8 * c.args.width) c.joined_fours.ensures.len (omega arith) fours c.join-all.ensures in
    same_added (spelled_from c.args.from spelled refl c.requires.low.from (omega (arith, c.requires.eight))) c.add_numbers-2.ensures
