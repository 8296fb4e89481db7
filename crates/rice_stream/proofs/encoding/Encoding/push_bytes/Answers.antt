use Rattle.rice_stream.proofs.Words.{arith, ◌≡◌, ◌+◌, ◌-◌, ◌*◌, ◌≤◌, ◌++◌, [], List, ℕ, ℤ, length, take, drop, refl, ap, sym, ◌∙◌, subst, append_assoc, append-nil, length-append, length-drop}
use Rattle.rice_stream.proofs.Words.{take_rest, drop-drop, Parameters, width, Reads, IsNoSpelling, some_width, reads_then, IsEncodingOf, MeetsFailure}
use Rattle.rice_stream.proofs.lemmas.{EncodingLemmas.fails_after, SamplesOfFirstBytes.few_more}
use Rattle.rice_stream.proofs.encoding.Encoding.push_bytes.Goals as goal

-- what is read of them, of all bytes
read_from : (s : Parameters) (bytes : List ℕ) (at n w : ℕ) (ys : List ℤ) → Reads s (take (length bytes - at) (drop at bytes)) ys (drop (width s * n) (take (length bytes - at) (drop at bytes)))
    → w ≡ width s → Reads s (drop at bytes) ys (drop (at + w * n) bytes)
read_from s bytes at n w ys r e =
    let here = subst (λ (l : List ℕ). Reads s l ys (drop (width s * n) l)) (take_rest bytes at) r in
    let after = drop-drop (width s * n) at bytes ∙ ap (λ w. drop (at + w * n) bytes) (sym e) in
    subst (Reads s (drop at bytes) ys) after here

-- what the first samples of the bytes from a place on are, of all bytes
taken_from : (s : Parameters) (bytes : List ℕ) (at n w : ℕ) (more ys : List ℤ) → Reads s bytes more (drop at bytes) → Reads s (take (length bytes - at) (drop at bytes)) ys
    (drop (width s * n) (take (length bytes - at) (drop at bytes))) → w ≡ width s → Reads s bytes (more ++ ys) (drop (at + w * n) bytes)
taken_from s bytes at n w more ys before r e = reads_then s bytes (drop at bytes) (drop (at + w * n) bytes) more ys before (read_from s bytes at n w ys r e)

pub loop-at-init : goal.loop-at-init
loop-at-init g c = record {
  within = omega arith;
  part = λ v old xs sees h. (
    v,
    sees,
    [],
    record { split = refl; legal = λ k d lt. absurd (omega arith) },
    subst (λ (l : List ℤ). IsEncodingOf c.args.setting.now old (g.O.Outlet.taken c.args.outlet.now) v l) (sym (append-nil xs)) h,
  );
  failures = refl;
}

pub push_some-requires : goal.push_some-requires
push_some-requires g c =
    let s = c.args.setting.now in
    let bytes = c.args.bytes.now in
    let at = c.loop-at.at in
    let can = c.requires.ready in
    let p = c.loop-at.invariant.part can.value can.start can.before can.sees can.holds in
    let few = few_more s p.2 bytes (drop at bytes) p.3 (some_width s) in
    let size = ap length (take_rest bytes at) in
    record {
      ready = record {
        value = p.0;
        sees = p.1;
        start = can.start;
        before = can.before ++ p.2;
        holds = p.4;
        few = omega (arith, can.few, length-append can.before p.2, size, few);
      };
      some = omega (arith, size, length-drop at bytes, c.loop-at-test.true, c.width-width.ensures.value);
      writes = omega (arith, c.requires.writes, c.loop-at.invariant.failures);
    }

pub returns-in-Ok-eq0-clause-did : goal.returns-in-Ok-eq0-clause-did
returns-in-Ok-eq0-clause-did g c v old xs sees h =
    let s = c.args.setting.now in
    let bytes = c.args.bytes.now in
    let at = c.loop-at.at in
    let w = c.width-width.result in
    let p = c.loop-at.invariant.part v old xs sees h in
    let q = c.in-Ok-eq0.ensures.did p.0 old (xs ++ p.2) p.1 p.4 in
    let wide : width s ≤ length (drop at bytes) = omega (arith, length-drop at bytes, c.loop-at-test.true, c.width-width.ensures.value) in
    let n = c.in-Ok-eq0.field-0 in
    let nothing : w * n ≡ 0 = ap (λ n. w * n) c.in-Ok-eq0.field-0-test ∙ (let z : w * 0 ≡ 0 = omega arith in z) in
    let here : at ≡ at + w * n = omega (arith, nothing) in
    let same : drop at bytes ≡ drop (at + w * n) bytes = ap (λ k. drop k bytes) here in
    let none = subst (IsNoSpelling s) (take_rest bytes at) (q.2.1 c.in-Ok-eq0.field-0-test) in (
      q.0,
      q.1,
      (
        record {
          more = p.2 ++ q.2.0.more;
          rest = drop (at + w * n) bytes;
          reads = taken_from s bytes at n w p.2 q.2.0.more p.3 q.2.0.reads c.width-width.ensures.value;
          ends = subst (λ (l : List ℕ). (width s ≤ length l) × IsNoSpelling s l) same (wide, none);
          holds = subst (λ l. IsEncodingOf s old (g.O.Outlet.taken c.push_some.new.outlet) q.0 l) (append_assoc xs p.2 q.2.0.more) q.2.0.holds;
        },
        sym q.1.samples,
      ),
    )

pub returns-in-Err-clause-did : goal.returns-in-Err-clause-did
returns-in-Err-clause-did g c v old xs sees h =
    let p = c.loop-at.invariant.part v old xs sees h in
    let q = c.in-Err.ensures.did p.0 old (xs ++ p.2) p.1 p.4 in
    (q.0, q.1, fails_after p.3 (subst (λ l. MeetsFailure c.args.setting.now old (g.O.Outlet.taken c.push_some.new.outlet) q.0 (xs ++ p.2) l) (take_rest c.args.bytes.now c.loop-at.at) q.2))

pub loop-at-preserved : goal.loop-at-preserved
loop-at-preserved g c =
    let s = c.args.setting.now in
    let bytes = c.args.bytes.now in
    let at = c.loop-at.at in
    let i = c.loop-at.invariant in
    let w = c.width-width.result in
    let n = c.in-Ok.count in
    let size : w * n ≡ width s * n = ap (λ w. w * n) c.width-width.ensures.value in
    record {
      within = omega (arith, size, c.in-Ok.ensures.within, ap length (take_rest bytes at), length-drop at bytes, i.within);
      part = λ v old xs sees h. (let p = i.part v old xs sees h in
          let q = c.in-Ok.ensures.did p.0 old (xs ++ p.2) p.1 p.4 in (
            q.0,
            q.1,
            p.2 ++ q.2.0.more,
            taken_from s bytes at n w p.2 q.2.0.more p.3 q.2.0.reads c.width-width.ensures.value,
            subst (λ l. IsEncodingOf s old (g.O.Outlet.taken c.push_some.new.outlet) q.0 l) (append_assoc xs p.2 q.2.0.more) q.2.0.holds,
          ));
      failures = c.in-Ok.ensures.calm ∙ i.failures;
    }

pub returns-clause-did : goal.returns-clause-did
returns-clause-did g c v old xs sees h =
    let bytes = c.args.bytes.now in
    let at = c.loop-at.at in
    let p = c.loop-at.invariant.part v old xs sees h in
    (p.0, p.1, record { more = p.2; rest = drop at bytes; reads = p.3; ends = omega (arith, length-drop at bytes, c.loop-at-test.false, c.width-width.ensures.value); holds = p.4 })
