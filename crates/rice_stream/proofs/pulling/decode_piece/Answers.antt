use Rattle.rice_stream.proofs.Words.{rules, arith, refl, w64, FitsSigned, ℤ, ◌≡◌, ◌+◌, ◌*◌, ◌++◌, ◌∙◌, ap, sym, subst, length, length-drop, take, drop, Option, Ok, IfSome, ◌%◌, to_z-of_z}
use Rattle.rice_stream.proofs.Words.{length-take-le, length-bits_of, width, spellings, bits_of, DecodesMore, GoesOnAt, TakesNext, ahead, state_of, Pause, Stand}
use Rattle.rice_stream.proofs.lemmas.PulledPieceSoFar.{ends_so, failed_once, has_none, has_room, more_so_far, never_too_long, none_so_far, nothing_ahead, refused_so}
use Rattle.std.proofs.Common.{◌-◌, ◌≤◌, length-take, mul-le-mul_right, mul-pos}
use Rattle.rice_stream.proofs.lemmas.BlocksPassed.{passed_so_far, same_room}
use Rattle.rice_code.specs.declared.decode.call_results.CodeFault.TheVariants as faults
use Rattle.rice_stream.specs.declared.stand.Pause.TheVariants as pauses
use Rattle.rice_stream.proofs.pulling.decode_piece.Goals as goal

pub decode_all-init : goal.decode_all-init
decode_all-init g c =
    let stand = c.args.stand.now in
    let piece = c.args.piece.now in
    let reader = c.skip_bits.ensures in
    let took = c.if-not-skip_bits.false in
    let k = stand.bits % 8 in
    let fits : FitsSigned w64 stand.previous = search rules in
    record {
      state = c.at-decoder.ensures ∙ ap (λ (z : ℤ). state_of c.args.setting.now (record stand { previous = z })) (to_z-of_z w64 stand.previous fits);
      reads = record {
        going = reader.going took;
        failed = reader.failed took;
        reported = reader.reported took;
        taken = omega (arith, reader.taken took);
        limit = omega (arith, c.requires.fits, ap length (reader.bits took), length-drop k (bits_of piece), length-bits_of piece);
      };
      aligned = λ lt. omega (arith, reader.aligned took lt);
      within = omega arith;
      len = refl;
      so_far = λ o front given h. none_so_far piece c.args.samples.now h (reader.bits took);
    }

pub returns-then-here-eq0 : goal.returns-then-here-eq0
returns-then-here-eq0 g c = λ o front given h.
    let i = c.decode_all.invariant in
    let so = i.so_far o front given h in
    ends_so pauses.Blank so (
      has_room c.args.setting.now (length so.samples) c.width.ensures.value c.block.ensures.value c.decode_all-test.true i.within so.count i.len,
      c.if-here-eq0.true,
      nothing_ahead c.args.setting.now c.args.stand.now c.decode_all.here.block c.args.piece.now so.bits (ahead c.decode_all.reader) (let e : length c.args.piece.now ≡ 0 = search rules in e) so.parts,
    ) (λ no. c.requires.fits)

pub write_next_of_run-len-requires-clause-come : goal.write_next_of_run-len-requires-clause-come
write_next_of_run-len-requires-clause-come g c =
    let know = c.requires.stand in
    let i = c.decode_all.invariant in
    let so = i.so_far know.0 know.1 know.2 know.3 in
    record { stand = (know.0, know.1 ++ so.bits, know.2 ++ so.samples, so.stands); state = i.state; reads = i.reads; aligned = search rules }

pub decode_all-preserved-then-is_repeating : goal.decode_all-preserved-then-is_repeating
decode_all-preserved-then-is_repeating g c =
    let i = c.decode_all.invariant in
    let says = c.write_next_of_run-len.ensures in
    let k = says.gives in
    let on = k.more.goes_on in
    record {
      state = on.state;
      reads = on.reads;
      aligned = λ lt. on.aligned (i.aligned lt);
      within = omega (arith, says.len, says.room);
      len = says.len ∙ i.len;
      so_far = λ o front given h.
          let so = i.so_far o front given h in
          more_so_far so (k.more.gives o (front ++ so.bits) (given ++ so.samples) so.stands) k.len_is k.wrote;
    }

pub write_blocks_to-len-requires : goal.write_blocks_to-len-requires
write_blocks_to-len-requires g c =
    let know = c.requires.stand in
    let i = c.decode_all.invariant in
    let so = i.so_far know.0 know.1 know.2 know.3 in
    record { stand = (know.0, know.1 ++ so.bits, know.2 ++ so.samples, so.stands); state = i.state; reads = i.reads; aligned = search rules }

pub decode_all-preserved-then-samples-at : goal.decode_all-preserved-then-samples-at
decode_all-preserved-then-samples-at g c =
    let i = c.decode_all.invariant in
    let says = c.write_blocks_to-len.ensures in
    let long = same_room c.decode_all.at c.decode_all.samples c.write_blocks_to-len.new.room i.within says.len in
    record {
      state = says.come.state;
      reads = says.come.reads;
      aligned = λ lt. says.gives.more.goes_on.aligned (i.aligned lt);
      within = omega (arith, long, says.room, i.within, length-take (length c.decode_all.samples - c.decode_all.at) (drop c.decode_all.at c.decode_all.samples));
      len = long ∙ i.len;
      so_far = λ o front given h. passed_so_far (i.so_far o front given h) says.gives i.within;
    }

pub decode_all-smaller : goal.decode_all-smaller
decode_all-smaller g c =
    let i = c.decode_all.invariant in
    let says = c.write_blocks_to-len.ensures in
    let long = same_room c.decode_all.at c.decode_all.samples c.write_blocks_to-len.new.room i.within says.len in
    let some : 1 ≤ c.width.result * c.block.result = mul-pos (omega (arith, c.width.ensures.range)) (omega (arith, c.block.ensures.range)) in
    omega (arith, some, long, c.copy_at.auto.samples, c.if-samples-at.false)

pub decode_all-preserved : goal.decode_all-preserved
decode_all-preserved g c =
    let s = c.args.setting.now in
    let i = c.decode_all.invariant in
    let passed = c.write_blocks_to-len in
    let long = same_room c.decode_all.at c.decode_all.samples passed.new.room i.within passed.ensures.len in
    let new = c.give_next_block-given.new in
    let r = passed.new.reader in
    let here = passed.result.0 in
    let next = c.in-Some.next in
    let says = c.in-Ok.ensures in
    let k = subst (λ (v : Option Stand). IfSome v (λ next. GoesOnAt s here next new.decoder r new.reader × (length says.samples ≡ s.block)
    × (take (width s * s.block) new.bytes ≡ spellings s says.samples))) c.in-Some.is says.goes_on in
    let n = c.width.result * c.block.result in
    let size : n ≡ width s * s.block = λ j. c.width.ensures.value j * c.block.ensures.value j in
    let len : n ≡ width s * length says.samples = size ∙ ap (λ m. width s * m) (sym k.1) in
    let bytes : take n new.bytes ≡ spellings s says.samples = ap (λ m. take m new.bytes) size ∙ k.2 in
    let whole : length (take n new.bytes) ≡ n = length-take-le n new.bytes (search rules) in
    let out = take c.decode_all.at c.decode_all.samples ++ (passed.new.room ++ drop (length c.decode_all.samples - c.decode_all.at) (drop c.decode_all.at c.decode_all.samples)) in
    let at = c.decode_all.at + passed.result.1 in
    record {
      state = k.0.state;
      reads = k.0.reads;
      aligned = λ lt. k.0.aligned (passed.ensures.gives.more.goes_on.aligned (i.aligned lt));
      within = omega (arith, c.copy_at.auto.samples, c.if-samples-at.false, long, passed.ensures.room, i.within);
      len = c.copy_at.auto.samples ∙ long ∙ i.len;
      so_far = λ o front given h.
          let so = passed_so_far (i.so_far o front given h) passed.ensures.gives i.within in
          more_so_far so
          (subst (λ (v : Option Stand). TakesNext s o (front ++ so.bits) (given ++ so.samples) here r new.reader says.samples (Ok v)) c.in-Some.is
          (says.takes o (front ++ so.bits) (given ++ so.samples) so.stands)) len
          (c.copy_at.ensures ∙ (λ j. take at out ++ (bytes j ++ drop (at + whole j) out)));
    }

pub returns-in-None : goal.returns-in-None
returns-in-None g c = λ o front given h.
    let i = c.decode_all.invariant in
    let passed = c.write_blocks_to-len in
    let long = same_room c.decode_all.at c.decode_all.samples passed.new.room i.within passed.ensures.len in
    let so = passed_so_far (i.so_far o front given h) passed.ensures.gives i.within in
    let s = c.args.setting.now in
    let says = c.in-Ok.ensures in
    let t = subst (λ (v : Option Stand). TakesNext s o (front ++ so.bits) (given ++ so.samples) passed.result.0 passed.new.reader c.give_next_block-given.new.reader says.samples (Ok v)) c.in-None.is
    (says.takes o (front ++ so.bits) (given ++ so.samples) so.stands) in
    ends_so pauses.Blank so (
      has_room s (length so.samples) c.width.ensures.value c.block.ensures.value (omega (arith, c.if-samples-at.false)) (omega (arith, long, passed.ensures.room, i.within)) so.count (long ∙ i.len),
      t.0,
      t.1,
    ) (λ no. c.requires.fits)

pub pause_of-requires-clause-read : goal.pause_of-requires-clause-read
pause_of-requires-clause-read g c = λ read.
    let know = c.requires.stand in
    let i = c.decode_all.invariant in
    let passed = c.write_blocks_to-len in
    let so = passed_so_far (i.so_far know.0 know.1 know.2 know.3) passed.ensures.gives i.within in
    let says = c.in-Err.ensures in
    let failed = failed_once c.args.setting.now know.0 (know.1 ++ so.bits) (know.2 ++ so.samples) passed.result.0 passed.new.reader c.give_next_block-given.new.reader
    says.samples (record { fault_is = read; takes = says.takes know.0 (know.1 ++ so.bits) (know.2 ++ so.samples) so.stands }) in
    omega (arith, failed, c.into_inner-intake-in-Err.ensures.failed)

pub pause_of-requires-clause-long : goal.pause_of-requires-clause-long
pause_of-requires-clause-long g c = λ long.
    let know = c.requires.stand in
    let i = c.decode_all.invariant in
    let passed = c.write_blocks_to-len in
    let so = passed_so_far (i.so_far know.0 know.1 know.2 know.3) passed.ensures.gives i.within in
    let says = c.in-Err.ensures in
    never_too_long c.args.setting.now know.0 (know.1 ++ so.bits) (know.2 ++ so.samples) passed.result.0 passed.new.reader c.give_next_block-given.new.reader
    says.samples (record { fault_is = long; takes = says.takes know.0 (know.1 ++ so.bits) (know.2 ++ so.samples) so.stands })

pub returns-in-Err : goal.returns-in-Err
returns-in-Err g c = λ o front given h.
    let s = c.args.setting.now in
    let i = c.decode_all.invariant in
    let passed = c.write_blocks_to-len in
    let long = same_room c.decode_all.at c.decode_all.samples passed.new.room i.within passed.ensures.len in
    let so = passed_so_far (i.so_far o front given h) passed.ensures.gives i.within in
    let says = c.in-Err.ensures in
    let takes = says.takes o (front ++ so.bits) (given ++ so.samples) so.stands in
    let never : c.in-Err.fault ≡ faults.Read → ⊥ = λ read.
    let failed = failed_once s o (front ++ so.bits) (given ++ so.samples) passed.result.0 passed.new.reader c.give_next_block-given.new.reader
    says.samples (record { fault_is = read; takes = takes }) in
    absurd (omega (arith, failed, c.into_inner-intake-in-Err.ensures.failed)) in
    let out = take c.decode_all.at c.decode_all.samples ++ (passed.new.room ++ drop (length c.decode_all.samples - c.decode_all.at) (drop c.decode_all.at c.decode_all.samples)) in
    let room = has_room s (length so.samples) c.width.ensures.value c.block.ensures.value (omega (arith, c.if-samples-at.false)) (omega (arith, long, passed.ensures.room, i.within))
    so.count (long ∙ i.len) in
    subst (λ (p : Pause). DecodesMore s o front given c.args.piece.now c.args.stand.now c.args.samples.now out passed.result.0 p) (sym c.pause_of.ensures)
    (refused_so says.samples passed.new.reader c.give_next_block-given.new.reader c.in-Err.fault so room takes never (c.requires.fits))

pub returns : goal.returns
returns g c = λ o front given h.
    let i = c.decode_all.invariant in
    let so = i.so_far o front given h in
    ends_so pauses.Full so (has_none c.args.setting.now (length so.samples)
    c.width.ensures.value c.block.ensures.value c.decode_all-test.false i.within so.count i.len) (λ no. c.requires.fits)

-- the bytes of a block are among those of the largest
pub slice_bounds-copy_at-end : goal.slice_bounds-copy_at-end
slice_bounds-copy_at-end g c =
    let w = c.width.result in
    let b = c.block.result in
    let wide : w * b ≤ 4 * b = mul-le-mul_right b (omega (arith, c.width.ensures.range)) in
    sym (length-take-le (w * b) c.give_next_block-given.new.bytes (omega (arith, wide, c.block.ensures.range, c.give_next_block-given.array_long)))
