use Rattle.std.proofs.Common.{◌*◌, ◌≤◌, arith}
use Rattle.rice_fast.proofs.lemmas.vectors.LevelsInLanes.{greatest_fits, offset_fits, words_spelled}
use Rattle.rice_fast.proofs.vectors.level_lanes.levels_of_words.Goals as goal

pub splat-requires : goal.splat-requires
splat-requires g c =
    let s = c.args.setting.now in
    let width = c.width-width.ensures in
    let room : s.bits ≤ g.L.Lanes.bits = omega (arith, width.holds_bits, width.value, c.requires.width, c.requires.room) in
    rw c.offset-offset.ensures.value (offset_fits s g.L.Lanes.bits width.legal.bits_from room)

pub splat-requires-2 : goal.splat-requires-2
splat-requires-2 g c = greatest_fits c.greatest_level-greatest.result (8 * c.args.width) g.L.Lanes.bits c.greatest_level-greatest.ensures c.requires.room

pub returns : goal.returns
returns g c =
    let s = c.args.setting.now in
    let width = c.width-width.ensures in
    let vs = g.L.Lanes.numbers c.args.words in
    rw (c.and.ensures, c.plus.ensures, c.splat.ensures, c.splat-2.ensures)
    (words_spelled s g.L.Lanes.bits g.L.Lanes.COUNT c.args.width c.offset-offset.result c.greatest_level-greatest.result vs width.legal.bits_from
    (omega (arith, width.holds_bits, width.value, c.requires.width)) c.requires.width c.requires.room g.met.L.Lanes.most_bits c.offset-offset.ensures.value c.greatest_level-greatest.ensures
    (g.met.L.Lanes.len c.args.words) c.requires.fit)
