use Rattle.rice_fast.proofs.Words.{◌≡◌, ◌+◌, ◌*◌, ◌/◌, ap, arith, length, refl, sym, flat_map, slice_range, word}
use Rattle.rice_fast.proofs.lemmas.encode.AddedBits.{added_to_end, added_up_to, range_added, room_for_first, room_for_range, room_to_end, same_added, same_room, bits_of_parts, head_slice}
use Rattle.rice_fast.proofs.encode.low_parts.put_eights.Goals as goal

pub put_eight-requires-clause-low : goal.put_eight-requires-clause-low
put_eight-requires-clause-low g c =
    let f = word c.args.width in
    let xs = c.args.items.now in
    let from = c.args.from in
    let n = length xs in
    let first = flat_map f (slice_range xs from 8) in
    record {
      width = c.requires.low.width;
      from = c.requires.low.from;
      room = same_room (ap (flat_map f) (sym (head_slice xs from 8 (omega (arith, c.requires.low.from)))))
          (room_for_first first (flat_map f (slice_range xs 8 n)) (same_room (bits_of_parts f xs from 8 n (omega (arith, c.requires.low.from)) c.requires.long)
          (room_to_end f xs from n refl c.requires.low.room)));
    }

pub loop-i-init : goal.loop-i-init
loop-i-init g c = record {
  after = omega arith;
  adds = same_added (ap (flat_map (word c.args.width)) (head_slice c.args.items.now c.args.from 8 (omega (arith, c.requires.low.from)))) c.put_eight.ensures;
}

pub put_eight-requires-in-loop-i-clause-low : goal.put_eight-requires-in-loop-i-clause-low
put_eight-requires-in-loop-i-clause-low g c =
    let f = word c.args.width in
    let l = c.loop-i in
    let xs = c.args.items.now in
    let n = length xs in
    record {
      width = c.requires.low.width;
      from = omega arith;
      room = room_for_range f xs c.args.from (8 * l.i) (8 * l.i + 8) n (omega (arith, c.requires.low.from, l.invariant.after)) (omega arith) (omega arith) refl
          (room_to_end f xs c.args.from n refl c.requires.low.room) l.invariant.adds;
    }

pub loop-i-preserved : goal.loop-i-preserved
loop-i-preserved g c =
    let f = word c.args.width in
    let l = c.loop-i in
    let xs = c.args.items.now in
    let next : 8 * l.i + 8 ≡ 8 * (l.i + 1) = omega arith in
    record {
      after = omega (arith, l.invariant.after);
      adds = added_up_to f xs c.args.from (8 * l.i + 8) (8 * (l.i + 1)) next
          (range_added f xs c.args.from (8 * l.i) (8 * l.i + 8) (omega (arith, c.requires.low.from, l.invariant.after)) (omega arith) refl l.invariant.adds c.put_eight-in-loop-i.ensures);
    }

pub put_some-requires-clause-room : goal.put_some-requires-clause-room
put_some-requires-clause-room g c =
    let f = word c.args.width in
    let l = c.loop-i in
    let xs = c.args.items.now in
    let n = length xs in
    let end : l.i ≡ n / 8 = omega (arith, l.auto.i-end, c.loop-i-test.false, c.requires.long) in
    room_for_range f xs c.args.from (8 * l.i) n n (omega (arith, c.requires.low.from, l.invariant.after)) (omega (arith, end)) (omega arith) (ap (λ i. flat_map f (slice_range xs (8 * i) n)) (sym end))
    (room_to_end f xs c.args.from n refl c.requires.low.room) l.invariant.adds

pub returns-then-items-ne0 : goal.returns-then-items-ne0
returns-then-items-ne0 g c =
    let f = word c.args.width in
    let l = c.loop-i in
    let xs = c.args.items.now in
    let n = length xs in
    let end : l.i ≡ n / 8 = omega (arith, l.auto.i-end, c.loop-i-test.false, c.requires.long) in
    added_to_end f xs c.args.from n refl
    (range_added f xs c.args.from (8 * l.i) n (omega (arith, c.requires.low.from, l.invariant.after)) (omega (arith, end))
    (ap (λ i. flat_map f (slice_range xs (8 * i) n)) (sym end)) l.invariant.adds c.put_some.ensures)

pub returns-else-items-ne0 : goal.returns-else-items-ne0
returns-else-items-ne0 g c =
    let l = c.loop-i in
    added_to_end (word c.args.width) c.args.items.now c.args.from (8 * l.i) (omega (arith, l.auto.i-end, c.loop-i-test.false, c.if-items-ne0.false, c.requires.long)) l.invariant.adds
