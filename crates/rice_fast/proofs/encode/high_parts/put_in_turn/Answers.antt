use Rattle.rice_fast.proofs.Words.{arith, ◌+◌, sym, fundamental_sequence}
use Rattle.rice_fast.proofs.lemmas.encode.AddedBits.{added_up_to, bits_of_one, bits_of_none, none_added, range_added, room_for_range, room_for_sequence, same_added, sequence_added}
use Rattle.rice_fast.proofs.encode.high_parts.put_in_turn.Goals as goal

pub loop-i-init : goal.loop-i-init
loop-i-init c = record { after = omega arith; adds = same_added (sym (bits_of_none fundamental_sequence c.args.numbers.now c.args.from)) none_added }

pub add_fs-requires : goal.add_fs-requires
add_fs-requires c =
    let l = c.loop-i in
    let xs = c.args.numbers.now in
    let one = sym (bits_of_one fundamental_sequence xs l.i (omega (arith, c.told-numbers, c.requires.to))) in
    room_for_sequence _ (room_for_range fundamental_sequence xs c.args.from l.i (l.i + 1) c.args.to l.invariant.after (omega arith) (omega arith) one c.requires.room l.invariant.adds)

pub loop-i-preserved : goal.loop-i-preserved
loop-i-preserved c =
    let l = c.loop-i in
    let xs = c.args.numbers.now in
    let one = sym (bits_of_one fundamental_sequence xs l.i (omega (arith, c.told-numbers, c.requires.to))) in
    record {
      after = omega (arith, l.invariant.after);
      adds = range_added fundamental_sequence xs c.args.from l.i (l.i + 1) l.invariant.after (omega arith) one l.invariant.adds (sequence_added _ c.add_fs.ensures);
    }

pub returns : goal.returns
returns c =
    let l = c.loop-i in
    added_up_to fundamental_sequence c.args.numbers.now c.args.from l.i c.args.to (omega (arith, l.auto.i-end, c.loop-i-test.false, c.requires.from)) l.invariant.adds
