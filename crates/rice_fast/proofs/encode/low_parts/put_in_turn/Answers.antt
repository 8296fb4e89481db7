use Rattle.rice_fast.proofs.Words.{arith, length, refl, ◌+◌, ◌∙◌, sym, word, low_word}
use Rattle.rice_fast.proofs.lemmas.encode.AddedBits.{added_to_end, bits_of_one, bits_of_none, none_added, range_added, room_for_range, room_to_end, same_added, word_added}
use Rattle.rice_fast.proofs.encode.low_parts.put_in_turn.Goals as goal

pub loop-i-init : goal.loop-i-init
loop-i-init c = record { after = omega arith; adds = same_added (sym (bits_of_none (word c.args.width) c.args.some.now c.args.from)) none_added }

pub add-requires-clause-room : goal.add-requires-clause-room
add-requires-clause-room c =
    let l = c.loop-i in
    let xs = c.args.some.now in
    let f = word c.args.width in
    let room = room_for_range f xs c.args.from l.i l.i (length xs) l.invariant.after (omega arith) (omega (arith, l.auto.i-end)) (sym (bits_of_none f xs l.i))
    (room_to_end f xs c.args.from (length xs) refl c.requires.room) l.invariant.adds in
    record { room = omega (arith, room.room); steps = omega (arith, room.steps) }

pub loop-i-preserved : goal.loop-i-preserved
loop-i-preserved c =
    let l = c.loop-i in
    let xs = c.args.some.now in
    let f = word c.args.width in
    let low = low_word c.args.width _ c.low_digits.result c.low_digits.ensures.value in
    record {
      after = omega (arith, l.invariant.after);
      adds = range_added f xs c.args.from l.i (l.i + 1) l.invariant.after (omega arith) (low ∙ sym (bits_of_one f xs l.i (omega arith))) l.invariant.adds
          (word_added c.args.width c.low_digits.result c.add.ensures);
    }

pub returns : goal.returns
returns c =
    let l = c.loop-i in
    added_to_end (word c.args.width) c.args.some.now c.args.from l.i (omega (arith, l.auto.i-end, c.loop-i-test.false, c.requires.from)) l.invariant.adds
