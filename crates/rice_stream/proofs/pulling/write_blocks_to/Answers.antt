use Rattle.rice_stream.proofs.Words.{arith, ◌≡◌, ◌+◌, ◌*◌, ◌/◌, ◌≤◌, ◌++◌, ◌∙◌, ap, length, refl, sym, subst, drop, take-append-drop, Some, Room, Appends, spellings, length-spellings, width}
use Rattle.std.proofs.Math.Nat.{mul-div-le}
use Rattle.rice_bits.specs.Devices.{slice_state}
use Rattle.rice_stream.proofs.lemmas.BlocksPassed.{each_stands, never_fails, passed_to, stand_is_ready, stands_before}
use Rattle.rice_stream.proofs.pulling.write_blocks_to.Goals as goal

pub write_blocks-requires-clause-ready : goal.write_blocks-requires-clause-ready
write_blocks-requires-clause-ready g c = stand_is_ready c.requires.stand.3 c.requires.state c.requires.reads (omega (arith, c.tick.ensures, c.new-meter.ensures))

pub stand_after-next-requires-clause-before : goal.stand_after-next-requires-clause-before
stand_after-next-requires-clause-before g c =
    let counted : c.tick.new.self ≡ c.args.stand.now.steps = omega (arith, c.tick.ensures, c.new-meter.ensures) in
    let before = stands_before (Some (slice_state c.new-out.result)) c.requires counted in
    let w = c.in-Ok.ensures.written in
    omega (arith, (each_stands w.blocks c.requires.stand.3 before w.each).forward, c.taken-before.ensures.value)

pub unreachable-requires : goal.unreachable-requires
unreachable-requires g c =
    let counted : c.tick.new.self ≡ c.args.stand.now.steps = omega (arith, c.tick.ensures, c.new-meter.ensures) in
    let before = stands_before (Some (slice_state c.new-out.result)) c.requires counted in
    let w = c.width-width.result in
    let fits : width c.args.setting.now * (length c.args.room.now / w) ≤ length c.args.room.now =
    subst (λ n. n * (length c.args.room.now / w) ≤ length c.args.room.now) c.width-width.ensures.value (mul-div-le (length c.args.room.now) w) in
    never_fails c.requires.stand.3 before c.in-Err.ensures.fails (ap Some c.new-out.ensures.state) refl fits (c.taken-taken.ensures.full (omega (arith, c.in-Err.ensures.err)))

pub returns-clause-gives : goal.returns-clause-gives
returns-clause-gives g c =
    let s = c.args.setting.now in
    let counted : c.tick.new.self ≡ c.args.stand.now.steps = omega (arith, c.tick.ensures, c.new-meter.ensures) in
    let before = stands_before (Some (slice_state c.new-out.result)) c.requires counted in
    let w = c.in-Ok.ensures.written in
    let stands = each_stands w.blocks c.requires.stand.3 before w.each in
    let out = c.write_blocks.new.outlet in
    let bytes = spellings s stands.samples in
    let fills = subst (λ (r : Room). Appends (Some r) (Some (slice_state out)) bytes) c.new-out.ensures.state stands.put in
    let len : c.width-width.result * c.in-Ok.count ≡ width s * length stands.samples = (λ i. c.width-width.ensures.value i * (w.count_is ∙ sym stands.len) i) in
    let size : length bytes ≡ 0 + c.width-width.result * c.in-Ok.count = omega (arith, length-spellings s stands.samples, len) in
    record {
      samples = stands.samples;
      more = (passed_to stands w.count_is c.taken-before.ensures.value c.stand_after-next.ensures.numbers).0;
      len_is = len;
      wrote = c.in-Ok.room-1-own.given.1.1 (sym fills.borrow) ∙ sym (take-append-drop out.at out.room.now) ∙ (λ i. fills.bytes i ++ fills.rest i)
          ∙ ap (λ n. bytes ++ drop n c.args.room.now) size;
    }

pub returns-clause-come : goal.returns-clause-come
returns-clause-come g c =
    let know = c.requires.stand in
    let counted : c.tick.new.self ≡ c.args.stand.now.steps = omega (arith, c.tick.ensures, c.new-meter.ensures) in
    let before = stands_before (Some (slice_state c.new-out.result)) c.requires counted in
    let w = c.in-Ok.ensures.written in
    let stands = each_stands w.blocks know.3 before w.each in
    let next = passed_to stands w.count_is c.taken-before.ensures.value c.stand_after-next.ensures.numbers in
    let gives = next.0.gives know.0 know.1 know.2 know.3 in
    record { stand = (know.0, know.1 ++ gives.bits, know.2 ++ stands.samples, gives.stands); state = next.0.goes_on.state; reads = next.0.goes_on.reads; aligned = next.1 }
