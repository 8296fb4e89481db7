use Rattle.rice_fast.proofs.Words.{◌≡◌, ◌+◌, ◌-◌, ◌*◌, ◌∙◌, ap, arith, min, sym, flat_map, slice_range, fundamental_sequence}
use Rattle.rice_fast.proofs.lemmas.encode.AddedBits.{added_up_to, range_added, room_for_first, room_for_range, same_added, same_room, bits_of_parts}
use Rattle.rice_fast.proofs.lemmas.encode.HighParts.{row_slice, row_zeros}
use Rattle.rice_fast.proofs.encode.high_parts.put_high.Goals as goal

pub put_row-fields-requires-clause-zeros : goal.put_row-fields-requires-clause-zeros
put_row-fields-requires-clause-zeros g c =
    row_zeros 0 c.args.len c.args.numbers.now c.told-numbers (omega arith) (omega arith) c.requires.len.1 c.requires.zeros c.row_at.ensures.value (c.min.ensures ∙ omega arith)

pub put_row-fields-requires-clause-room : goal.put_row-fields-requires-clause-room
put_row-fields-requires-clause-room g c =
    let f = fundamental_sequence in
    let xs = c.args.numbers.now in
    let from = c.args.from in
    let n = c.min.result in
    let few : n ≡ min c.args.len 16 = c.min.ensures in
    let row = ap (flat_map f) (sym (row_slice 0 from n xs (omega (arith, few, c.requires.from, c.requires.len)) (omega (arith, few)) c.row_at.ensures.value)) in
    let all = bits_of_parts f xs from n c.args.len (omega (arith, few, c.requires.from, c.requires.len)) (omega (arith, few)) in
    let start : 0 + from ≡ from = omega arith in
    let end : 0 + n ≡ n = omega arith in
    same_room ((λ j. flat_map f (slice_range xs (sym start j) (sym end j))) ∙ row) (room_for_first (flat_map f (slice_range xs from n)) (flat_map f (slice_range xs n c.args.len))
    (same_room all c.requires.room))

pub loop-i-init : goal.loop-i-init
loop-i-init g c =
    let f = fundamental_sequence in
    let xs = c.args.numbers.now in
    let from = c.args.from in
    let n = c.min.result in
    let few : n ≡ min c.args.len 16 = c.min.ensures in
    let start : 0 + from ≡ from = omega arith in
    let end : 0 + n ≡ min c.args.len (16 * 1) = omega (arith, few) in
    record {
      after = omega arith;
      adds = same_added (ap (flat_map f) (row_slice 0 from n xs (omega (arith, few, c.requires.from, c.requires.len)) (omega (arith, few)) c.row_at.ensures.value)
          ∙ (λ j. flat_map f (slice_range xs (start j) (end j)))) c.put_row-fields.ensures;
    }

pub put_row-fields-requires-in-loop-i-clause-zeros : goal.put_row-fields-requires-in-loop-i-clause-zeros
put_row-fields-requires-in-loop-i-clause-zeros g c =
    let l = c.loop-i in
    row_zeros l.i c.args.len c.args.numbers.now c.told-numbers (omega arith) (omega (arith, c.requires.len)) c.requires.len.1 c.requires.zeros c.row_at-row.ensures.value c.min-in-loop-i.ensures

pub put_row-fields-requires-in-loop-i-clause-room : goal.put_row-fields-requires-in-loop-i-clause-room
put_row-fields-requires-in-loop-i-clause-room g c =
    let f = fundamental_sequence in
    let l = c.loop-i in
    let xs = c.args.numbers.now in
    let n = c.min-in-loop-i.result in
    let few : n ≡ min (c.args.len - 16 * l.i) 16 = c.min-in-loop-i.ensures in
    let before : min c.args.len (16 * l.i) ≡ 16 * l.i + 0 = omega (arith, c.requires.len) in
    let row = ap (flat_map f) (row_slice l.i 0 n xs (omega arith) (omega (arith, few)) c.row_at-row.ensures.value) ∙ ap (λ a. flat_map f (slice_range xs a (16 * l.i + n))) (sym before) in
    room_for_range f xs c.args.from (min c.args.len (16 * l.i)) (16 * l.i + n) c.args.len (omega (arith, c.requires.from, c.requires.len, l.invariant.after)) (omega (arith, before))
    (omega (arith, few, c.requires.len)) row
    c.requires.room l.invariant.adds

pub loop-i-preserved : goal.loop-i-preserved
loop-i-preserved g c =
    let f = fundamental_sequence in
    let l = c.loop-i in
    let xs = c.args.numbers.now in
    let n = c.min-in-loop-i.result in
    let few : n ≡ min (c.args.len - 16 * l.i) 16 = c.min-in-loop-i.ensures in
    let before : min c.args.len (16 * l.i) ≡ 16 * l.i + 0 = omega (arith, c.requires.len) in
    let next : 16 * l.i + n ≡ min c.args.len (16 * (l.i + 1)) = omega (arith, few, before) in
    let row = ap (flat_map f) (row_slice l.i 0 n xs (omega arith) (omega (arith, few)) c.row_at-row.ensures.value) ∙ ap (λ a. flat_map f (slice_range xs a (16 * l.i + n))) (sym before) in
    record {
      after = omega (arith, l.invariant.after);
      adds = added_up_to f xs c.args.from (16 * l.i + n) (min c.args.len (16 * (l.i + 1))) next
          (range_added f xs c.args.from (min c.args.len (16 * l.i)) (16 * l.i + n) (omega (arith, c.requires.from, c.requires.len, l.invariant.after)) (omega arith)
          row l.invariant.adds c.put_row-fields-in-loop-i.ensures);
    }

pub returns : goal.returns
returns g c =
    let l = c.loop-i in
    let end : min c.args.len (16 * l.i) ≡ c.args.len = omega (arith, c.loop-i-test.false, c.requires.len) in
    added_up_to fundamental_sequence c.args.numbers.now c.args.from (min c.args.len (16 * l.i)) c.args.len end l.invariant.adds
