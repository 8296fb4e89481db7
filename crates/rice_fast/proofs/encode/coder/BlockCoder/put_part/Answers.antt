use Rattle.rice_fast.proofs.Words.{◌≡◌, ◌∙◌, length, take, refl, subst, sym, StandsAfter, whole_part, BlockCoder}
use Rattle.rice_fast.proofs.lemmas.encode.StandingCoders.{none_held, other_part, part_as_row, part_counted, part_fits, part_has_room, row_is_put}
use Rattle.rice_fast.proofs.encode.coder.BlockCoder.put_part.Goals as goal

pub sum_of-whole-requires : goal.sum_of-whole-requires
sum_of-whole-requires c =
    let self = c.args.self.now in
    let h = c.requires.stands.2 in
    let row : length (whole_part self) ≡ self.setting.block = (λ i. length (take (sym c.requires.whole i) self.part)) ∙ (part_counted h ∙ c.requires.whole) in
    let fit = part_fits (part_has_room (part_as_row self.setting.block h (sym c.requires.whole)) c.requires.stands.3 row c.requires.inside) c.block-size.result c.block-size.ensures.value in
    record { size = fit.0; fit = fit.1 }

pub put_block-requires-clause-room : goal.put_block-requires-clause-room
put_block-requires-clause-room c =
    let self = c.args.self.now in
    let h = c.requires.stands.2 in
    let row : length (whole_part self) ≡ self.setting.block = (λ i. length (take (sym c.requires.whole i) self.part)) ∙ (part_counted h ∙ c.requires.whole) in
    part_has_room (part_as_row self.setting.block h (sym c.requires.whole)) c.requires.stands.3 row c.requires.inside

pub returns-clause-stands : goal.returns-clause-stands
unfolding part_has_room
returns-clause-stands c m xs h room =
    let self = c.args.self.now in
    let row : length (whole_part self) ≡ self.setting.block = (λ i. length (take (sym c.requires.whole i) self.part)) ∙ (part_counted h ∙ c.requires.whole) in
    let stands = part_as_row self.setting.block h (sym c.requires.whole) in
    let fit = part_has_room stands room row c.requires.inside in
    let did = c.put_block.ensures in
    let new = c.put_block.new.self in
    let put = row_is_put new.run new.bits_ahead new.steps_ahead stands row c.requires.inside (did.ahead fit) (did.meter fit) in
    let P : BlockCoder → Type 0 = λ v. StandsAfter (record v { held = 0 }) c.put_block.new.sink c.put_block.new.meter m xs in
    subst P (sym did.value) (none_held (other_part self.part 0 put) refl h.room)
