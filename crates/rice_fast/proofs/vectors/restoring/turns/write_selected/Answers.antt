use Rattle.rice_fast.proofs.Words.{◌+◌, ◌-◌, ◌/◌, ◌^◌, ◌<◌, ◌∙◌, ap, arith, length-set, if◌then◌else◌, length, map, nat_lt, refl, subst, sym, slice_set, length-map, map-set, way}
use Rattle.rice_fast.proofs.lemmas.vectors.RanksForTurns.{element, made, way_widened}
use Rattle.rice_fast.proofs.lemmas.vectors.RestoredLevels.{AreRestored, restored-more}
use Rattle.rice_fast.proofs.vectors.restoring.turns.write_selected.Goals as goal

pub selected-number-requires-clause-way : goal.selected-number-requires-clause-way
selected-number-requires-clause-way g c =
    let f = g.L.Lanes.number in
    let bits = g.L.Lanes.bits in
    let ranks = c.args.ranks.now in
    let inside : c.loop-i.i < length ranks = omega (arith, c.loop-i-test.true, c.requires.count) in
    let is = made f (way (2 ^ bits)) ranks c.args.ways.now c.loop-i.i c.index-ranks-i.result c.index-ways-i.result inside c.index-ranks-i.is c.value.ensures c.index-ways-i.is refl c.requires.ways in
    let here = element f ranks c.loop-i.i c.index-ranks-i.result inside c.index-ranks-i.is c.value.ensures in
    let most = c.requires.ranks c.loop-i.i 0 (omega (arith, inside, length-map ranks f)) in
    c.widened_way.ensures
    ∙ (ap (λ w. if nat_lt w (2 ^ (bits - 1)) then w else w + (2 ^ 32 - 2 ^ bits)) is
    ∙ way_widened bits c.value.result g.met.L.Lanes.two_values g.met.L.Lanes.most_bits (omega (arith, here, most, c.requires.greatest)))

pub selected-number-requires-clause-half : goal.selected-number-requires-clause-half
selected-number-requires-clause-half g c =
    made g.L.Lanes.number (λ d. (d + 1) / 2) c.args.ranks.now c.args.half_ranks.now c.loop-i.i c.index-ranks-i.result c.index-half_ranks-i.result
    (omega (arith, c.loop-i-test.true, c.requires.count)) c.index-ranks-i.is c.value.ensures c.index-half_ranks-i.is c.value-in-loop-i.ensures c.requires.half_ranks

pub selected-number-requires-clause-top : goal.selected-number-requires-clause-top
selected-number-requires-clause-top g c =
    made g.L.Lanes.number (λ d. c.args.greatest - ((d + 1) / 2 - 1)) c.args.ranks.now c.args.tops.now c.loop-i.i c.index-ranks-i.result c.index-tops-i.result
    (omega (arith, c.loop-i-test.true, c.requires.count)) c.index-ranks-i.is c.value.ensures c.index-tops-i.is c.value-in-loop-i-2.ensures c.requires.tops

pub selected-number-requires-clause-rank : goal.selected-number-requires-clause-rank
selected-number-requires-clause-rank g c =
    let f = g.L.Lanes.number in
    let ranks = c.args.ranks.now in
    let inside : c.loop-i.i < length ranks = omega (arith, c.loop-i-test.true, c.requires.count) in
    let here = element f ranks c.loop-i.i c.index-ranks-i.result inside c.index-ranks-i.is c.value.ensures in
    omega (arith, here, c.requires.ranks c.loop-i.i 0 (omega (arith, inside, length-map ranks f)))

pub loop-i-preserved : goal.loop-i-preserved
loop-i-preserved g c =
    let f = g.L.Lanes.number in
    let i = c.loop-i.i in
    let ds = map f c.args.ranks.now in
    let numbers = map f c.loop-i.numbers in
    let next = c.selected-number in
    let inside : i < length c.args.ranks.now = omega (arith, c.loop-i-test.true, c.requires.count) in
    let room : i < length ds = omega (arith, inside, length-map c.args.ranks.now f) in
    let here = element f c.args.ranks.now i c.index-ranks-i.result inside c.index-ranks-i.is c.value.ensures in
    let set = map-set f c.loop-i.numbers i c.number_of.result ∙ ap (slice_set numbers i) c.number_of.ensures in
    let more = restored-more (c.args.greatest + 1) (omega (arith, c.loop-i-test.true, c.loop-i.invariant.len, length-map c.loop-i.numbers f)) room
    c.loop-i.invariant.restored (omega (arith, next.ensures.fits)) refl (next.ensures.rank ∙ here) in
    record {
      len = length-set c.loop-i.numbers i c.number_of.result ∙ c.loop-i.invariant.len;
      restored = subst (λ xs. AreRestored (c.args.greatest + 1) c.args.p (i + 1) next.result xs ds) (sym set) more;
    }
