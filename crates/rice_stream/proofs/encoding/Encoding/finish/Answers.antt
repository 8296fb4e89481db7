use Rattle.rice_stream.proofs.Words.{arith, ◌≡◌, ◌+◌, ◌≤◌, length, ap, subst, sym, List, ℕ, Parameters, Follows, padded_bits, whole_bytes, code, code_bits, output, early_output}
use Rattle.rice_stream.proofs.Words.{complete_code, complete_samples, fill_count, AddsCode}
use Rattle.rice_stream.proofs.lemmas.EncodingLemmas.{all_small, has_room, samples_end, standing_of, Follows-trans, part_follows}
use Rattle.rice_stream.proofs.lemmas.BytesOfGrowingCode.{more_bytes}
use Rattle.rice_stream.proofs.encoding.Encoding.finish.Goals as goal

pub finish-bits-requires : goal.finish-bits-requires
finish-bits-requires g c =
    let r = c.requires.ready in
    (standing_of r.0, r.1.standing, has_room r.2 r.3 (g.O.Outlet.taken c.args.outlet.now) r.0 r.4 r.5 r.6)

pub overflow_add-report : goal.overflow_add-report
overflow_add-report g c =
    let r = c.requires.ready in
    let s = r.2 in
    let xs = r.4 in
    let k = r.5.counts in
    let adds = c.finish-bits.ensures (standing_of r.0) xs r.1.standing (has_room s r.3 (g.O.Outlet.taken c.args.outlet.now) r.0 xs r.5 r.6) k.stands in
    let same = subst (λ (t : Parameters). code_bits t xs ≡ code_bits t (complete_samples t xs) + c.finish-bits.result) k.setting adds.bits in
    omega (arith, all_small s r.0.coder xs k.setting k.stands, same, k.bits, r.1.bits, r.6)

pub returns-in-Ok-clause-did : goal.returns-in-Ok-clause-did
returns-in-Ok-clause-did g c v s old xs sees h =
    let now = g.O.Outlet.taken c.args.outlet.now in
    let new = g.O.Outlet.taken c.write_whole.new.outlet in
    let f = c.finish-bits in
    let few : length xs ≤ 281474976710656 = omega (arith, sees.samples, h.counts.samples, c.requires.ready.1.samples, c.requires.ready.5.counts.samples, c.requires.ready.6) in
    let adds : AddsCode v.coder.setting (complete_samples v.coder.setting xs) xs v.sink f.new.sink f.result (fill_count v.coder.setting (length xs)) v.meter c.steps.result =
    subst (AddsCode v.coder.setting (complete_samples v.coder.setting xs) xs v.sink f.new.sink f.result (fill_count v.coder.setting (length xs)) v.meter)
    (sym c.steps.ensures.value) (f.ensures (standing_of v) xs sees.standing (has_room s old now v xs h few) h.counts.stands) in
    let r = samples_end h adds (ap (λ n. n + f.result) (sym sees.bits)) (sym sees.samples) c.pad.ensures.bits in
    let sink = c.pad.new.self in
    let more = more_bytes (complete_code s xs) (padded_bits (code s xs)) sink (sym r.1) in
    (r.0, subst (λ (l : List ℕ). Follows old new l) (sym more) (Follows-trans old now new (early_output s xs) (whole_bytes sink) h.took c.in-Ok.ensures.ok.0))

pub returns-in-Err-clause-did : goal.returns-in-Err-clause-did
returns-in-Err-clause-did g c v s old xs sees h =
    let now = g.O.Outlet.taken c.args.outlet.now in
    let new = g.O.Outlet.taken c.write_whole.new.outlet in
    let f = c.finish-bits in
    let few : length xs ≤ 281474976710656 = omega (arith, sees.samples, h.counts.samples, c.requires.ready.1.samples, c.requires.ready.5.counts.samples, c.requires.ready.6) in
    let adds : AddsCode v.coder.setting (complete_samples v.coder.setting xs) xs v.sink f.new.sink f.result (fill_count v.coder.setting (length xs)) v.meter c.steps.result =
    subst (AddsCode v.coder.setting (complete_samples v.coder.setting xs) xs v.sink f.new.sink f.result (fill_count v.coder.setting (length xs)) v.meter)
    (sym c.steps.ensures.value) (f.ensures (standing_of v) xs sees.standing (has_room s old now v xs h few) h.counts.stands) in
    let r = samples_end h adds (ap (λ n. n + f.result) (sym sees.bits)) (sym sees.samples) c.pad.ensures.bits in
    let sink = c.pad.new.self in
    (r.0, part_follows old now new (early_output s xs) (whole_bytes sink) (output s xs) h.took c.in-Err.ensures.err.0 (more_bytes (complete_code s xs) (padded_bits (code s xs)) sink (sym r.1)))
