use Rattle.std.proofs.Common.{arith, refl, ◌≡◌, ◌+◌, ◌*◌, ◌≤◌, ◌%◌, ◌++◌, ◌∙◌, ap, sym, subst, length}
use Rattle.rice_stream.proofs.Words.{width, some_width, after, encoding_at, EncodesRest}
use Rattle.rice_stream.proofs.lemmas.Seams.{encoding_is_resumed, few_all, rest_stops, rest_cut, rest_all, takes_few}
use Rattle.rice_stream.proofs.lemmas.{EncodingEnds.push_fails, EncodingEnds.push_within, EncodingEnds.within_early, EncodingEnds.within_all, EncodingLemmas.settled_by}
use Rattle.rice_stream.proofs.engines.Engines.encode_rest.Goals as goal

pub bytes_left-requires-clause-samples : goal.bytes_left-requires-clause-samples
bytes_left-requires-clause-samples g c =
    omega (arith, c.requires.seam.1.counts.samples, few_all (width c.args.setting.now) (length c.requires.seam.0) 0 (some_width c.args.setting.now) (omega (arith, c.requires.seam.1.limit)))

pub put_bits_of_seam-requires : goal.put_bits_of_seam-requires
put_bits_of_seam-requires g c = (c.args.setting.now, c.requires.seam.0, c.requires.seam.1, c.resume-encoding.ensures)

-- all bytes are more than there may be
pub returns-then-bytes-bytes_left-clause-did : goal.returns-then-bytes-bytes_left-clause-did
returns-then-bytes-bytes_left-clause-did g c xs h =
    let s = c.args.setting.now in
    let now = g.O.Outlet.taken c.args.outlet.now in
    let seam = c.args.seam.now in
    let size : c.width-width.result * seam.samples ≡ width s * length xs = (λ i. c.width-width.ensures.value i * h.counts.samples i) in
    subst (EncodesRest s xs c.args.bytes.now now now c.stopped.result.report) (sym c.stopped.ensures.fault) (
      record { passes = omega (arith, size, c.bytes_left.ensures.value, c.if-bytes-bytes_left.true); untouched = refl },
      c.stopped.ensures.reported (encoding_at s seam) s xs (c.put_bits_of_seam.ensures s c.resume-encoding.ensures) (encoding_is_resumed s seam xs now h).counts,
    )

pub returns-then-bytes-bytes_left-clause-bounds : goal.returns-then-bytes-bytes_left-clause-bounds
returns-then-bytes-bytes_left-clause-bounds g c =
    let s = c.args.setting.now in
    let seam = c.args.seam.now in
    let xs = c.requires.seam.0 in
    let k = c.requires.seam.1.counts in
    within_early s c.stopped.result.report xs (settled_by s (encoding_at s seam) xs k) (c.stopped.ensures.reported (encoding_at s seam) s xs (c.put_bits_of_seam.ensures s c.resume-encoding.ensures) k)

pub push_bytes-requires : goal.push_bytes-requires
push_bytes-requires g c =
    let s = c.args.setting.now in
    let xs = c.requires.seam.0 in
    let few = c.bytes_left.ensures.few (omega (arith, c.width-width.ensures.range)) in record {
      ready = record {
        value = encoding_at s c.args.seam.now;
        sees = c.put_bits_of_seam.ensures s c.resume-encoding.ensures;
        start = after s xs (g.O.Outlet.taken c.args.outlet.now);
        before = xs;
        holds = encoding_is_resumed s c.args.seam.now xs (g.O.Outlet.taken c.args.outlet.now) c.requires.seam.1;
        few = omega (arith, few, c.if-bytes-bytes_left.false, c.requires.seam.1.counts.samples);
      };
      writes = c.requires.writes;
    }

-- the bytes are not all taken
pub returns-in-Err-clause-did : goal.returns-in-Err-clause-did
returns-in-Err-clause-did g c xs h =
    let s = c.args.setting.now in
    let new = g.O.Outlet.taken c.push_bytes.new.outlet in
    let o = c.stopped-in-Err in
    let q = c.in-Err.ensures.did _ _ _ (c.put_bits_of_seam.ensures _ c.resume-encoding.ensures) (encoding_is_resumed _ _ _ _ h) in
    let size : c.width-width.result * c.args.seam.now.samples ≡ width s * length xs = (λ i. c.width-width.ensures.value i * h.counts.samples i) in
    let limit : width s * length xs + length c.args.bytes.now ≤ 281474976710656 = omega (arith, size, h.limit, c.bytes_left.ensures.value, c.if-bytes-bytes_left.false) in
    rest_stops s (g.O.Outlet.taken c.args.outlet.now) new q.0 o.result.report xs c.args.bytes.now limit c.in-Err.fault o.result.fault o.ensures.fault (λ ys k. o.ensures.reported q.0 s ys q.1 k) q.2

pub returns-in-Err-clause-failures : goal.returns-in-Err-clause-failures
returns-in-Err-clause-failures g c =
    let new = g.O.Outlet.taken c.push_bytes.new.outlet in
    let xs = c.requires.seam.0 in
    let q = c.in-Err.ensures.did _ _ _ (c.put_bits_of_seam.ensures _ c.resume-encoding.ensures) (encoding_is_resumed _ _ _ _ c.requires.seam.1) in
    push_fails new q.0 xs c.args.bytes.now (g.O.Outlet.failed c.push_bytes.new.outlet) refl refl (record { pushed = q.2; fails = c.in-Err.ensures.failures }) c.stopped-in-Err.ensures.fault

pub returns-in-Err-clause-bounds : goal.returns-in-Err-clause-bounds
returns-in-Err-clause-bounds g c =
    let now = g.O.Outlet.taken c.args.outlet.now in
    let new = g.O.Outlet.taken c.push_bytes.new.outlet in
    let q = c.in-Err.ensures.did _ _ _ (c.put_bits_of_seam.ensures _ c.resume-encoding.ensures) (encoding_is_resumed _ _ _ _ c.requires.seam.1) in
    push_within (after c.args.setting.now c.requires.seam.0 now) new q.0 c.in-Err.fault c.requires.seam.0 c.args.bytes.now
    (λ ys k. c.stopped-in-Err.ensures.reported q.0 c.args.setting.now ys q.1 k) q.2

-- a sample is cut
pub returns-then-bytes-width-gt0-clause-did : goal.returns-then-bytes-width-gt0-clause-did
returns-then-bytes-width-gt0-clause-did g c xs h =
    let s = c.args.setting.now in
    let now = g.O.Outlet.taken c.args.outlet.now in
    let new = g.O.Outlet.taken c.push_bytes.new.outlet in
    let bytes = c.args.bytes.now in
    let o = c.stopped-then-bytes-width-gt0 in
    let q = c.in-Ok.ensures.did _ _ _ (c.put_bits_of_seam.ensures _ c.resume-encoding.ensures) (encoding_is_resumed _ _ _ _ h) in
    let same : length bytes % c.width-width.result ≡ length bytes % width s = ap (λ w. length bytes % w) c.width-width.ensures.value in
    let size : c.width-width.result * c.args.seam.now.samples ≡ width s * length xs = (λ i. c.width-width.ensures.value i * h.counts.samples i) in
    let limit : width s * length xs + length bytes ≤ 281474976710656 = omega (arith, size, h.limit, c.bytes_left.ensures.value, c.if-bytes-bytes_left.false) in
    rest_cut s now new q.0 o.result.report xs bytes limit c.taken-index.result o.result.fault o.ensures.fault (c.taken-index.ensures ∙ sym q.1.samples) (λ ys k. o.ensures.reported q.0 s ys q.1 k) q.2
    (omega (arith, same, c.if-bytes-width-gt0.true))

pub returns-then-bytes-width-gt0-clause-bounds : goal.returns-then-bytes-width-gt0-clause-bounds
returns-then-bytes-width-gt0-clause-bounds g c =
    let s = c.args.setting.now in
    let q = c.in-Ok.ensures.did _ _ _ (c.put_bits_of_seam.ensures _ c.resume-encoding.ensures) (encoding_is_resumed _ _ _ _ c.requires.seam.1) in
    let ys = c.requires.seam.0 ++ q.2.more in
    let k = q.2.holds.counts in
    within_early s c.stopped-then-bytes-width-gt0.result.report ys (settled_by s q.0 ys k) (c.stopped-then-bytes-width-gt0.ensures.reported q.0 s ys q.1 k)

-- all is taken
pub finish-requires : goal.finish-requires
finish-requires g c =
    let s = c.args.setting.now in
    let new = g.O.Outlet.taken c.push_bytes.new.outlet in
    let xs = c.requires.seam.0 in
    let q = c.in-Ok.ensures.did _ _ _ (c.put_bits_of_seam.ensures _ c.resume-encoding.ensures) (encoding_is_resumed _ _ _ _ c.requires.seam.1) in
    let few = c.bytes_left.ensures.few (omega (arith, c.width-width.ensures.range)) in record {
      ready = (
        q.0,
        q.1,
        s,
        after s xs (g.O.Outlet.taken c.args.outlet.now),
        xs ++ q.2.more,
        q.2.holds,
        takes_few s (after s xs (g.O.Outlet.taken c.args.outlet.now)) new q.0 xs c.args.bytes.now (omega (arith, few, c.if-bytes-bytes_left.false, c.requires.seam.1.counts.samples)) q.2,
      );
      writes = omega (arith, c.requires.writes, c.in-Ok.ensures.failures);
    }

pub returns-clause-did : goal.returns-clause-did
returns-clause-did g c xs h =
    let s = c.args.setting.now in
    let mid = g.O.Outlet.taken c.push_bytes.new.outlet in
    let new = g.O.Outlet.taken c.finish.new.outlet in
    let bytes = c.args.bytes.now in
    let q = c.in-Ok.ensures.did _ _ _ (c.put_bits_of_seam.ensures _ c.resume-encoding.ensures) (encoding_is_resumed _ _ _ _ h) in
    let same : length bytes % c.width-width.result ≡ length bytes % width s = ap (λ w. length bytes % w) c.width-width.ensures.value in
    let did = c.finish.ensures.did q.0 s (after s xs (g.O.Outlet.taken c.args.outlet.now)) (xs ++ q.2.more) q.1 q.2.holds in
    let size : c.width-width.result * c.args.seam.now.samples ≡ width s * length xs = (λ i. c.width-width.ensures.value i * h.counts.samples i) in
    let limit : width s * length xs + length bytes ≤ 281474976710656 = omega (arith, size, h.limit, c.bytes_left.ensures.value, c.if-bytes-bytes_left.false) in
    rest_all s (g.O.Outlet.taken c.args.outlet.now) mid q.0 c.finish.result.report xs bytes limit c.finish.result.fault q.2 new (omega (arith, same, c.if-bytes-width-gt0.false)) did.0 did.1

pub returns-clause-bounds : goal.returns-clause-bounds
returns-clause-bounds g c =
    let s = c.args.setting.now in
    let q = c.in-Ok.ensures.did _ _ _ (c.put_bits_of_seam.ensures _ c.resume-encoding.ensures) (encoding_is_resumed _ _ _ _ c.requires.seam.1) in
    let ys = c.requires.seam.0 ++ q.2.more in
    let did = c.finish.ensures.did q.0 s (after s c.requires.seam.0 (g.O.Outlet.taken c.args.outlet.now)) ys q.1 q.2.holds in
    within_all s c.finish.result.report ys (settled_by s q.0 ys q.2.holds.counts) did.0
