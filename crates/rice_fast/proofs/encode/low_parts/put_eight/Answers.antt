use Rattle.rice_fast.proofs.Words.{◌*◌, ◌^◌, ◌<◌, arith, refl, sym}
use Rattle.rice_fast.proofs.lemmas.encode.LowParts.{low_spell, pairs_of_eight, spelled_from}
use Rattle.rice_fast.proofs.lemmas.{encode.AddedBits.same_added, encode.AddedBits.same_room, vectors.NumbersInLanes.all_of}
use Rattle.rice_fast.proofs.encode.low_parts.put_eight.Goals as goal

pub joined_pairs-requires-clause-fit : goal.joined_pairs-requires-clause-fit
joined_pairs-requires-clause-fit g c =
    let spelled = low_spell c.args.width c.args.eight.now c.requires.eight c.lowest_digits-low.ensures.value in
    all_of (λ v. v < 2 ^ c.args.width) c.lowest_digits-low.result spelled.fit

pub add_numbers-requires-clause-fit : goal.add_numbers-requires-clause-fit
add_numbers-requires-clause-fit g c =
    let spelled = pairs_of_eight c.args.width c.args.eight.now c.requires.eight c.lowest_digits-low.ensures.value c.lowest_digits-low.ensures.len c.joined_pairs.ensures.value in
    all_of (λ v. v < 2 ^ (2 * c.args.width)) c.joined_pairs.result spelled.fit

pub add_numbers-requires-clause-room : goal.add_numbers-requires-clause-room
add_numbers-requires-clause-room g c =
    let spelled = pairs_of_eight c.args.width c.args.eight.now c.requires.eight c.lowest_digits-low.ensures.value c.lowest_digits-low.ensures.len c.joined_pairs.ensures.value in
    same_room (sym (spelled_from c.args.from spelled refl c.requires.low.from (omega (arith, c.requires.eight)))) c.requires.low.room

pub returns : goal.returns
returns g c =
    let spelled = pairs_of_eight c.args.width c.args.eight.now c.requires.eight c.lowest_digits-low.ensures.value c.lowest_digits-low.ensures.len c.joined_pairs.ensures.value in
    same_added (spelled_from c.args.from spelled refl c.requires.low.from (omega (arith, c.requires.eight))) c.add_numbers.ensures
