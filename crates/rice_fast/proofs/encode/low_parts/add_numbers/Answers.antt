use Rattle.rice_fast.proofs.Words.{◌≡◌, ◌+◌, ◌-◌, ◌++◌, ◌∙◌, ap, arith, append_assoc, append-nil, drop, get_or, length, sym, flat_map, slice_range, word}
use Rattle.rice_fast.proofs.lemmas.encode.AddedBits.{bits_of_none, bits_of_one, bits_of_parts, both_added, room_for_first, room_for_second, room_for_word, same_added, same_room, word_added}
use Rattle.rice_fast.proofs.lemmas.encode.LowParts.{first_of_words}
use Rattle.rice_fast.proofs.encode.low_parts.add_numbers.Goals as goal

pub add_number-requires-clause-room : goal.add_number-requires-clause-room
add_number-requires-clause-room g c =
    let a = c.args in
    let vs = a.numbers.now in
    let first = word (a.width - a.skipped) c.last_digits-first.result in
    let rest = flat_map (word a.width) (slice_range vs 1 (length vs)) in
    let all = first_of_words a.width a.skipped vs c.requires.skipped c.requires.some ∙ ap (λ v. v ++ rest) (sym c.last_digits-first.ensures.bits) in
    room_for_word (a.width - a.skipped) c.last_digits-first.result (room_for_first first rest (same_room all c.requires.room))

pub loop-i-init : goal.loop-i-init
loop-i-init g c =
    let a = c.args in
    let vs = a.numbers.now in
    let first = c.last_digits-first.ensures.bits in
    let none = bits_of_none (word a.width) vs 1 in
    record {
      after = omega arith;
      adds = same_added (first ∙ (sym (append-nil (drop a.skipped (word a.width (get_or vs 0 0)))) ∙ ap (λ v. drop a.skipped (word a.width (get_or vs 0 0)) ++ v) (sym none)))
          (word_added _ _ c.add_number.ensures);
    }

pub add_number-requires-in-loop-i-clause-room : goal.add_number-requires-in-loop-i-clause-room
add_number-requires-in-loop-i-clause-room g c =
    let a = c.args in
    let l = c.loop-i in
    let vs = a.numbers.now in
    let f = word a.width in
    let first = drop a.skipped (f (get_or vs 0 0)) in
    let done = flat_map f (slice_range vs 1 l.i) in
    let next = f (get_or vs l.i 0) in
    let rest = flat_map f (slice_range vs (l.i + 1) (length vs)) in
    let left = bits_of_parts f vs l.i (l.i + 1) (length vs) (omega arith) (omega arith) ∙ ap (λ v. v ++ rest) (bits_of_one f vs l.i (omega arith)) in
    let all = first_of_words a.width a.skipped vs c.requires.skipped c.requires.some
    ∙ (ap (λ v. first ++ v) (bits_of_parts f vs 1 l.i (length vs) l.invariant.after (omega arith)) ∙ (sym (append_assoc first done _) ∙ ap (λ v. (first ++ done) ++ v) left)) in
    room_for_word a.width (get_or vs l.i 0) (room_for_first next rest (room_for_second (first ++ done) (next ++ rest) (same_room all c.requires.room) l.invariant.adds))

pub loop-i-preserved : goal.loop-i-preserved
loop-i-preserved g c =
    let a = c.args in
    let l = c.loop-i in
    let vs = a.numbers.now in
    let f = word a.width in
    let first = drop a.skipped (f (get_or vs 0 0)) in
    let done = flat_map f (slice_range vs 1 l.i) in
    let next = f (get_or vs l.i 0) in
    let more = bits_of_parts f vs 1 l.i (l.i + 1) l.invariant.after (omega arith) ∙ ap (λ v. done ++ v) (bits_of_one f vs l.i (omega arith)) in
    record {
      after = omega (arith, l.invariant.after);
      adds = same_added (append_assoc first done next ∙ ap (λ v. first ++ v) (sym more)) (both_added (first ++ done) next l.invariant.adds (word_added _ _ c.add_number-in-loop-i.ensures));
    }

pub returns : goal.returns
returns g c =
    let a = c.args in
    let l = c.loop-i in
    let vs = a.numbers.now in
    let first = drop a.skipped (word a.width (get_or vs 0 0)) in
    let end : l.i ≡ length vs = omega (arith, l.auto.i-end, c.loop-i-test.false, c.requires.some) in
    same_added (ap (λ i. first ++ flat_map (word a.width) (slice_range vs 1 i)) end ∙ sym (first_of_words a.width a.skipped vs c.requires.skipped c.requires.some)) l.invariant.adds
