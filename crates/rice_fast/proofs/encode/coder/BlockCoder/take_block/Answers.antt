use Rattle.rice_fast.proofs.Words.{All, ℕ, List, ◌≡◌, ◌<◌, ◌∙◌, ◌++◌, ap, arith, drop, length, length-append, subst, sym, take, take-append-drop, HasResidualsOf, Parameters, value_count}
use Rattle.rice_fast.proofs.Words.{StandsAfter, BlockCoder}
use Rattle.rice_fast.proofs.lemmas.encode.StandingCoders.{none_held, none_held_in, part_fits, part_has_room, row_is_put, steps_for_block}
use Rattle.rice_fast.proofs.lemmas.encode.TakenSamples.{block_in_part}
use Rattle.rice_fast.proofs.encode.coder.BlockCoder.take_block.Goals as goal

-- a part of which the front is written anew is as long
as_long : (k : ℕ) (front part : List ℕ) → length front ≡ length (take k part) → length part ≡ 64 → length (front ++ drop k part) ≡ 64
as_long k front part same room = omega (arith, length-append front (drop k part), length-append (take k part) (drop k part), ap length (take-append-drop k part), same, room)

pub returns-in-None-residuals_of_bytes-clause-kept : goal.returns-in-None-residuals_of_bytes-clause-kept
returns-in-None-residuals_of_bytes-clause-kept g c e m xs h =
    none_held_in _ h c.requires.between (as_long c.known_or-size.result _ c.args.self.now.part c.residuals_of_bytes.ensures.len h.room)

pub tick-requires : goal.tick-requires
tick-requires g c =
    let given = c.requires.stands in
    omega (arith, steps_for_block given.2 given.3 c.requires.between c.requires.inside, c.known_or-size.ensures, c.block.ensures.value)

pub sum_of-whole-requires : goal.sum_of-whole-requires
sum_of-whole-requires g c =
    let given = c.requires.stands in
    let last = c.in-Some-residuals_of_bytes.last in
    let read = subst (λ (s : Parameters). HasResidualsOf s c.args.bytes.now c.in-Some.before.level c.residuals_of_bytes.new.residuals last) c.requires.setting
    c.in-Some-residuals_of_bytes.ensures.some in
    let known = c.known_or-size.ensures ∙ c.block.ensures.value in
    let held = block_in_part _ c.tick.new.self given.2 c.requires.between c.requires.inside c.requires.len c.in-Some.ensures.some read
    (omega (arith, c.tick.ensures, known)) in
    let fit = part_fits (part_has_room held.2 given.3 held.1 c.requires.inside) c.known_or-size.result known in
    let n = c.known_or-size.result in
    let part = take n (c.residuals_of_bytes.new.residuals ++ drop n c.args.self.now.part) in
    record { size = fit.0; fit = subst (λ (s : Parameters). All (λ d. d < value_count s) part) (sym c.requires.setting) fit.1 }

pub put_block-requires-clause-room : goal.put_block-requires-clause-room
put_block-requires-clause-room g c =
    let given = c.requires.stands in
    let last = c.in-Some-residuals_of_bytes.last in
    let read = subst (λ (s : Parameters). HasResidualsOf s c.args.bytes.now c.in-Some.before.level c.residuals_of_bytes.new.residuals last) c.requires.setting
    c.in-Some-residuals_of_bytes.ensures.some in
    let held = block_in_part _ c.tick.new.self given.2 c.requires.between c.requires.inside c.requires.len c.in-Some.ensures.some read
    (omega (arith, c.tick.ensures, c.known_or-size.ensures, c.block.ensures.value)) in
    part_has_room held.2 given.3 held.1 c.requires.inside

pub returns-in-Some-residuals_of_bytes-clause-takes : goal.returns-in-Some-residuals_of_bytes-clause-takes
unfolding part_has_room
returns-in-Some-residuals_of_bytes-clause-takes g c e m xs h room =
    let last = c.in-Some-residuals_of_bytes.last in
    let read = subst (λ (s : Parameters). HasResidualsOf s c.args.bytes.now c.in-Some.before.level c.residuals_of_bytes.new.residuals last) c.requires.setting
    c.in-Some-residuals_of_bytes.ensures.some in
    let held = block_in_part _ c.tick.new.self h c.requires.between c.requires.inside c.requires.len c.in-Some.ensures.some read
    (omega (arith, c.tick.ensures, c.known_or-size.ensures, c.block.ensures.value)) in
    let fit = part_has_room held.2 room held.1 c.requires.inside in
    let did = c.put_block.ensures in
    let new = c.put_block.new.self in
    let put = row_is_put new.run new.bits_ahead new.steps_ahead held.2 held.1 c.requires.inside (did.ahead fit) (did.meter fit) in
    let P : BlockCoder → Type 0 = λ v. StandsAfter v c.put_block.new.sink c.put_block.new.meter m (xs ++ read.samples) in
    (read.samples, read.reads, held.0, subst P (sym did.value) (none_held put c.requires.between (as_long c.known_or-size.result _ c.args.self.now.part c.residuals_of_bytes.ensures.len h.room)))
