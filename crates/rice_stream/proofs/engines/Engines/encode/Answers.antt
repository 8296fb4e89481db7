use Rattle.std.proofs.Common.{arith, ◌≡◌, ◌==◌, ◌%◌, ◌<◌, ◌≤◌, List, [], ◌∷◌, length, length-append, true, false, Err, refl, ap, sym, ◌∙◌, subst, ℕ, Some}
use Rattle.rice_stream.proofs.Words.{Consumes-nil, nat_tests, Parameters, width, narrow_width, some_width, afresh, IsEncodingOf, Pushes, TakesAll, with_last, EncodesBetween, SampleCut, IsSeam}
use Rattle.rice_stream.proofs.Words.{encoding_at, Seam}
use Rattle.rice_stream.proofs.lemmas.{EncodingLemmas.nothing_early, EncodingLemmas.settled_by, Seams.encoding_is_resumed}
use Rattle.rice_stream.proofs.lemmas.EncodingEnds.{within_early, within_all, few_given, refills_on, takes_on, rest_is}
use Rattle.rice_stream.proofs.lemmas.EncodingEnds.{drawing_ends, drawing_fails, cut_ends, finish_ends, pushing_ends, push_fails, push_within}
use Rattle.rice_stream.proofs.engines.Engines.encode.Goals as goal

-- bytes of which there are none,
empty : (l : List ℕ) → true ≡ (length l == 0) → l ≡ []
empty [] e = refl
empty (x ∷ l) e = absurd (let none : length (x ∷ l) ≡ 0 = grind (arith, nat_tests, e) in omega (arith, none))

-- or some
filled : (l : List ℕ) → false ≡ (length l == 0) → 0 < length l
filled l e = grind (arith, nat_tests, e)

-- a block has samples
some_block : (s : Parameters) {seam : Seam} → IsSeam s seam [] → 1 ≤ s.block
some_block s h = let legal = h.counts.stands.holds.legal in grind (arith, legal.block)

pub resume-encoding-requires : goal.resume-encoding-requires
resume-encoding-requires g c = ([], c.new-seam.ensures)

pub put_bits_of_seam-requires : goal.put_bits_of_seam-requires
put_bits_of_seam-requires g c = (c.args.setting.now, [], c.new-seam.ensures, c.resume-encoding.ensures)

pub encode_all-init : goal.encode_all-init
encode_all-init g c =
    let s = c.args.setting.now in
    let now = g.O.Outlet.taken c.args.outlet.now in
    let seam = c.new-seam.result in
    record {
      value = encoding_at s seam;
      sees = c.put_bits_of_seam.ensures s c.resume-encoding.ensures;
      runs = record {
        bytes = [];
        samples = [];
        reads = record { split = ap (λ r. r.buffered) (sym c.new-input.ensures); legal = λ k d lt. absurd (omega arith) };
        count = ap (λ r. r.given) c.new-input.ensures;
        gave = Consumes-nil (g.I.Intake.left c.args.intake.now);
        holds = subst (λ l. IsEncodingOf s (record { before = l; state = now }) now (encoding_at s seam) []) (nothing_early s (some_block s c.new-seam.ensures))
            (encoding_is_resumed s seam [] now c.new-seam.ensures);
      };
      few = omega (arith, ap (λ r. length r.buffered) c.new-input.ensures, some_width s);
      reads = refl;
      writes = refl;
    }

pub refill-requires-clause-few : goal.refill-requires-clause-few
refill-requires-clause-few g c = omega (arith, c.encode_all.invariant.few, narrow_width c.args.setting.now)

-- the intake gives no more
pub returns-in-Err-clause-call : goal.returns-in-Err-clause-call
returns-in-Err-clause-call g c =
    let i = c.encode_all.invariant in
    drawing_ends c.refill.new.self c.in-Err.fault i.runs i.few c.in-Err.ensures.err c.in-Err.ensures.limit
    (λ xs k. c.stopped.ensures.reported i.value c.args.setting.now xs i.sees k) c.stopped.ensures.fault

pub returns-in-Err-clause-failures : goal.returns-in-Err-clause-failures
returns-in-Err-clause-failures g c =
    let i = c.encode_all.invariant in
    drawing_fails c.in-Err.fault (g.I.Intake.failed c.refill.new.intake) _ _ _ _ c.in-Err.ensures.err c.stopped.ensures.fault c.in-Err.ensures.failures i.reads i.writes

pub returns-in-Err-clause-bounds : goal.returns-in-Err-clause-bounds
returns-in-Err-clause-bounds g c =
    let s = c.args.setting.now in
    let i = c.encode_all.invariant in
    let k = i.runs.holds.counts in
    within_early s c.stopped.result.report i.runs.samples (settled_by s i.value i.runs.samples k) (c.stopped.ensures.reported i.value s i.runs.samples i.sees k)

-- all is given
pub finish-requires : goal.finish-requires
finish-requires g c =
    let i = c.encode_all.invariant in
    let start = g.O.Outlet.taken c.args.outlet.now in
    let runs = refills_on i.runs c.in-Ok.ensures.ok in
    record {
      ready = (i.value, i.sees, c.args.setting.now, afresh start, runs.samples, runs.holds, omega (arith, few_given runs, c.in-Ok.ensures.limit));
      writes = omega (arith, c.requires.writes, i.writes);
    }

pub returns-then-is_empty-clause-call : goal.returns-then-is_empty-clause-call
returns-then-is_empty-clause-call g c =
    let s = c.args.setting.now in
    let i = c.encode_all.invariant in
    let runs = refills_on i.runs c.in-Ok.ensures.ok in
    let did = c.finish.ensures.did i.value s (afresh (g.O.Outlet.taken c.args.outlet.now)) runs.samples i.sees runs.holds in
    finish_ends runs (c.in-Ok.ensures.end c.if-count-eq0.true) (sym c.buffered.ensures ∙ empty c.buffered.result.now c.if-is_empty.ensures) c.in-Ok.ensures.limit did.0 did.1

pub returns-then-is_empty-clause-bounds : goal.returns-then-is_empty-clause-bounds
returns-then-is_empty-clause-bounds g c =
    let s = c.args.setting.now in
    let i = c.encode_all.invariant in
    let runs = i.runs in
    let did = c.finish.ensures.did i.value s (afresh (g.O.Outlet.taken c.args.outlet.now)) runs.samples i.sees runs.holds in
    within_all s c.finish.result.report runs.samples (settled_by s i.value runs.samples runs.holds.counts) did.0

-- a sample is cut
pub returns-then-count-eq0-clause-call : goal.returns-then-count-eq0-clause-call
returns-then-count-eq0-clause-call g c =
    let s = c.args.setting.now in
    let i = c.encode_all.invariant in
    let d = c.in-Ok.ensures.ok in
    let runs = refills_on i.runs d in
    let o = c.stopped-then-count-eq0 in
    let few : length c.refill.new.self.buffered < width s = omega (arith, i.few, ap length d.buffered, length-append c.encode_all.input.buffered d.bytes, d.number, c.if-count-eq0.true) in
    let some : 0 < length c.refill.new.self.buffered = omega (arith, filled c.buffered.result.now c.if-is_empty.ensures, ap length c.buffered.ensures) in
    subst (EncodesBetween s (g.I.Intake.left c.args.intake.now) (g.I.Intake.left c.refill.new.intake) (g.O.Outlet.taken c.args.outlet.now) (g.O.Outlet.taken c.encode_all.outlet) o.result.report)
    (sym (o.ensures.fault ∙ ap (λ n. Some (SampleCut n)) (c.taken-index.ensures ∙ sym i.sees.samples)))
    (cut_ends runs few c.in-Ok.ensures.limit (λ xs k. o.ensures.reported i.value s xs i.sees k) some (c.in-Ok.ensures.end c.if-count-eq0.true))

pub returns-then-count-eq0-clause-bounds : goal.returns-then-count-eq0-clause-bounds
returns-then-count-eq0-clause-bounds g c =
    let s = c.args.setting.now in
    let i = c.encode_all.invariant in
    let k = i.runs.holds.counts in
    within_early s c.stopped-then-count-eq0.result.report i.runs.samples (settled_by s i.value i.runs.samples k) (c.stopped-then-count-eq0.ensures.reported i.value s i.runs.samples i.sees k)

pub push_bytes-requires : goal.push_bytes-requires
push_bytes-requires g c =
    let i = c.encode_all.invariant in
    let runs = refills_on i.runs c.in-Ok.ensures.ok in
    record {
      ready = record {
        value = i.value;
        sees = i.sees;
        start = afresh (g.O.Outlet.taken c.args.outlet.now);
        before = runs.samples;
        holds = runs.holds;
        few = omega (arith, few_given runs, c.in-Ok.ensures.limit, ap length c.buffered-in-encode_all.ensures);
      };
      writes = omega (arith, c.requires.writes, i.writes);
    }

-- the bytes are not all taken
pub returns-in-Err-push_bytes-clause-call : goal.returns-in-Err-push_bytes-clause-call
returns-in-Err-push_bytes-clause-call g c =
    let s = c.args.setting.now in
    let i = c.encode_all.invariant in
    let start = g.O.Outlet.taken c.args.outlet.now in
    let new = g.O.Outlet.taken c.push_bytes.new.outlet in
    let runs = refills_on i.runs c.in-Ok.ensures.ok in
    let q = c.in-Err-push_bytes.ensures.did i.value (afresh start) runs.samples i.sees runs.holds in
    let o = c.stopped-in-Err-push_bytes in
    let fault = c.in-Err-push_bytes.fault in
    let stops = subst (λ (l : List ℕ). Pushes {T = Unit {0}} s (afresh start) new q.0 runs.samples l (Err fault)) c.buffered-in-encode_all.ensures q.2 in
    pushing_ends fault runs stops c.in-Ok.ensures.buffered c.in-Ok.ensures.limit (λ xs k. o.ensures.reported q.0 s xs q.1 k) o.ensures.fault

pub returns-in-Err-push_bytes-clause-failures : goal.returns-in-Err-push_bytes-clause-failures
returns-in-Err-push_bytes-clause-failures g c =
    let i = c.encode_all.invariant in
    let runs = refills_on i.runs c.in-Ok.ensures.ok in
    let q = c.in-Err-push_bytes.ensures.did i.value (afresh (g.O.Outlet.taken c.args.outlet.now)) runs.samples i.sees runs.holds in
    push_fails (g.O.Outlet.taken c.push_bytes.new.outlet) q.0 runs.samples c.buffered-in-encode_all.result.now (g.O.Outlet.failed c.push_bytes.new.outlet)
    (c.in-Ok.ensures.failures ∙ i.reads) i.writes (record { pushed = q.2; fails = c.in-Err-push_bytes.ensures.failures }) c.stopped-in-Err-push_bytes.ensures.fault

pub returns-in-Err-push_bytes-clause-bounds : goal.returns-in-Err-push_bytes-clause-bounds
returns-in-Err-push_bytes-clause-bounds g c =
    let s = c.args.setting.now in
    let i = c.encode_all.invariant in
    let start = g.O.Outlet.taken c.args.outlet.now in
    let runs = refills_on i.runs c.in-Ok.ensures.ok in
    let q = c.in-Err-push_bytes.ensures.did i.value (afresh start) runs.samples i.sees runs.holds in
    push_within (afresh start) (g.O.Outlet.taken c.push_bytes.new.outlet) q.0 c.in-Err-push_bytes.fault runs.samples c.buffered-in-encode_all.result.now
    (λ xs k. c.stopped-in-Err-push_bytes.ensures.reported q.0 s xs q.1 k) q.2

pub encode_all-preserved : goal.encode_all-preserved
encode_all-preserved g c =
    let s = c.args.setting.now in
    let i = c.encode_all.invariant in
    let start = g.O.Outlet.taken c.args.outlet.now in
    let new = g.O.Outlet.taken c.push_bytes.new.outlet in
    let runs = refills_on i.runs c.in-Ok.ensures.ok in
    let r = c.refill.new.self in
    let q = c.in_default.ensures.did i.value (afresh start) runs.samples i.sees runs.holds in
    let t = subst (λ (l : List ℕ). TakesAll s (afresh start) new q.0 runs.samples l) c.buffered-in-encode_all.ensures q.2 in
    let kept : c.keep_last.new.self ≡ with_last (length r.buffered % width s) r =
    c.keep_last.ensures ∙ (λ i. with_last (length (c.buffered-in-encode_all-2.ensures i) % c.width-width.ensures.value i) r) in
    let rest = (rest_is s r.buffered t.rest t.more t.reads t.ends).1 in
    record {
      value = q.0;
      sees = q.1;
      runs = takes_on runs t kept;
      few = omega (arith, ap (λ r. length r.buffered) kept, ap length rest, t.ends);
      reads = c.in-Ok.ensures.failures ∙ i.reads;
      writes = c.in_default.ensures.failures ∙ i.writes;
    }
