use Rattle.std.proofs.Common.{arith, ◌≡◌, ◌+◌, ◌-◌, ◌*◌, ◌/◌, ◌≤◌, ◌++◌, length, take, subst, ℕ, Err}
use Rattle.rice_stream.proofs.Words.{length-take, err_from_is_err_and, width, cut, some_width, TakesAll, Pushes, after, encoding_at}
use Rattle.rice_stream.proofs.lemmas.Seams.{all_whole, cut_grows, encoding_is_resumed, few_all, fit_in, goes_on, more_stops}
use Rattle.rice_stream.proofs.engines.Engines.encode_more.Goals as goal

pub overflow_sub-count : goal.overflow_sub-count
overflow_sub-count g c =
    let seam = c.args.seam.now in
    let h = c.requires.seam.1 in
    let n = seam.samples + length c.args.bytes.now / c.width-width.result in
    omega (arith, c.in_whole_segments.ensures.value, cut_grows c.args.setting.now seam c.requires.seam.0 n h (omega (arith, h.counts.samples)), h.counts.samples)

pub bytes_left-requires-clause-samples : goal.bytes_left-requires-clause-samples
bytes_left-requires-clause-samples g c =
    let s = c.args.setting.now in
    let h = c.requires.seam.1 in
    omega (arith, h.counts.samples, few_all (width s) (length c.requires.seam.0) 0 (some_width s) (omega (arith, h.limit)))

pub put_bits_of_seam-requires : goal.put_bits_of_seam-requires
put_bits_of_seam-requires g c = (c.args.setting.now, c.requires.seam.0, c.requires.seam.1, c.resume-encoding.ensures)

pub push_bytes-requires : goal.push_bytes-requires
push_bytes-requires g c =
    let s = c.args.setting.now in
    let now = g.O.Outlet.taken c.args.outlet.now in
    let seam = c.args.seam.now in
    let xs = c.requires.seam.0 in
    let h = c.requires.seam.1 in
    let few = c.bytes_left.ensures.few (omega (arith, c.width-width.ensures.range)) in record {
      ready = record {
        value = encoding_at s seam;
        sees = c.put_bits_of_seam.ensures s c.resume-encoding.ensures;
        start = after s xs now;
        before = xs;
        holds = encoding_is_resumed s seam xs now h;
        few = omega (arith, few, c.if-bytes-bytes_left.false, h.counts.samples, length-take (c.width-width.result * (c.in_whole_segments.result - seam.samples)) c.args.bytes.now);
      };
      writes = c.requires.writes;
    }

pub seam-requires : goal.seam-requires
seam-requires g c =
    let s = c.args.setting.now in
    let now = g.O.Outlet.taken c.args.outlet.now in
    let new = g.O.Outlet.taken c.push_bytes.new.outlet in
    let seam = c.args.seam.now in
    let bytes = c.args.bytes.now in
    let xs = c.requires.seam.0 in
    let h = c.requires.seam.1 in
    let w = c.width-width.result in
    let count = c.in_whole_segments.result - seam.samples in
    let q = c.in_ok-push_bytes.ensures.did (encoding_at s seam) (after s xs now) xs (c.put_bits_of_seam.ensures s c.resume-encoding.ensures) (encoding_is_resumed s seam xs now h) in
    let t = subst (λ (w : ℕ). TakesAll s (after s xs now) new q.0 xs (take (w * count) bytes)) c.width-width.ensures.value q.2 in
    let per : length bytes / w ≡ length bytes / width s = (λ i. length bytes / c.width-width.ensures.value i) in
    let total : cut s (seam.samples + length bytes / w) ≡ cut s (length xs + length bytes / width s) = (λ i. cut s (h.counts.samples i + per i)) in
    let grows = cut_grows s seam xs (length xs + length bytes / width s) h (omega arith) in (
      q.0,
      q.1,
      s,
      after s xs now,
      new,
      xs ++ t.more,
      t.holds,
      all_whole bytes count h t (omega (arith, c.in_whole_segments.ensures.value, total, grows, h.counts.samples))
          (fit_in (width s) (length bytes) count (omega (arith, c.in_whole_segments.ensures.limit, per))),
    )

pub returns-clause-did : goal.returns-clause-did
returns-clause-did g c xs h =
    let s = c.args.setting.now in
    let now = g.O.Outlet.taken c.args.outlet.now in
    let new = g.O.Outlet.taken c.push_bytes.new.outlet in
    let seam = c.args.seam.now in
    let bytes = c.args.bytes.now in
    let w = c.width-width.result in
    let count = c.in_whole_segments.result - seam.samples in
    let q = c.in_ok-push_bytes.ensures.did (encoding_at s seam) (after s xs now) xs (c.put_bits_of_seam.ensures s c.resume-encoding.ensures) (encoding_is_resumed s seam xs now h) in
    let t = subst (λ (w : ℕ). TakesAll s (after s xs now) new q.0 xs (take (w * count) bytes)) c.width-width.ensures.value q.2 in
    let size : w * seam.samples ≡ width s * length xs = (λ i. c.width-width.ensures.value i * h.counts.samples i) in
    let limit : width s * length xs + length bytes ≤ 281474976710656 = omega (arith, size, h.limit, c.bytes_left.ensures.value, c.if-bytes-bytes_left.false) in
    let per : length bytes / w ≡ length bytes / width s = (λ i. length bytes / c.width-width.ensures.value i) in
    let total : cut s (seam.samples + length bytes / w) ≡ cut s (length xs + length bytes / width s) = (λ i. cut s (h.counts.samples i + per i)) in
    let grows = cut_grows s seam xs (length xs + length bytes / width s) h (omega arith) in
    let is : length xs + count ≡ cut s (length xs + length bytes / width s) = omega (arith, c.in_whole_segments.ensures.value, total, grows, h.counts.samples) in
    let fits = fit_in (width s) (length bytes) count (omega (arith, c.in_whole_segments.ensures.limit, per)) in
    goes_on bytes count h t is fits limit (c.seam.ensures q.0 s (after s xs now) new (xs ++ t.more) q.1 t.holds (all_whole bytes count h t is fits))

pub returns-in_err-push_bytes-clause-did : goal.returns-in_err-push_bytes-clause-did
returns-in_err-push_bytes-clause-did g c xs h =
    let s = c.args.setting.now in
    let now = g.O.Outlet.taken c.args.outlet.now in
    let new = g.O.Outlet.taken c.push_bytes.new.outlet in
    let seam = c.args.seam.now in
    let bytes = c.args.bytes.now in
    let w = c.width-width.result in
    let count = c.in_whole_segments.result - seam.samples in
    let fault = c.in_err-push_bytes.field-0.0 in
    let q = c.in_err-push_bytes.ensures.did (encoding_at s seam) (after s xs now) xs (c.put_bits_of_seam.ensures s c.resume-encoding.ensures) (encoding_is_resumed s seam xs now h) in
    let stops = subst (λ (w : ℕ). Pushes {T = Unit {0}} s (after s xs now) new q.0 xs (take (w * count) bytes) (Err fault)) c.width-width.ensures.value q.2 in
    let size : w * seam.samples ≡ width s * length xs = (λ i. c.width-width.ensures.value i * h.counts.samples i) in
    let limit : width s * length xs + length bytes ≤ 281474976710656 = omega (arith, size, h.limit, c.bytes_left.ensures.value, c.if-bytes-bytes_left.false) in
    let per : length bytes / w ≡ length bytes / width s = (λ i. length bytes / c.width-width.ensures.value i) in
    let total : cut s (seam.samples + length bytes / w) ≡ cut s (length xs + length bytes / width s) = (λ i. cut s (h.counts.samples i + per i)) in
    let grows = cut_grows s seam xs (length xs + length bytes / width s) h (omega arith) in
    let p = err_from_is_err_and c.from_residual.result c.from_residual.ensures.1 in
    rw (p.1, p.2) (more_stops s now new q.0 xs bytes count fault (record {
      few = limit;
      count_is = omega (arith, c.in_whole_segments.ensures.value, total, grows, h.counts.samples);
      enough = fit_in (width s) (length bytes) count (omega (arith, c.in_whole_segments.ensures.limit, per));
      pushes = stops;
    }))
