use Rattle.rice_stream.proofs.Words.{arith, ◌≡◌, ◌+◌, ◌<◌, ◌++◌, length, length-append, ap, subst, err_from_is_err_and, IsNoSpelling, complete_code, whole_part}
use Rattle.rice_stream.proofs.lemmas.EncodingLemmas.{all_written, after_push, counts_with, early_small, few_spelled, has_room, holds_code, meets_failure, none_whole, shows_all, shows_none, sink_short}
use Rattle.rice_stream.proofs.lemmas.EncodingLemmas.{spelled_of, standing_of, taken_spelled}
use Rattle.rice_stream.proofs.encoding.Encoding.push_some.Goals as goal

pub push-taken-requires : goal.push-taken-requires
push-taken-requires g c =
    let can = c.requires.ready in
    let room = has_room c.args.setting.now can.start _ can.value can.before can.holds (omega (arith, can.few)) in
    (standing_of can.value, can.sees.standing, room, can.holds.counts.setting, c.requires.some)

pub overflow_add-self : goal.overflow_add-self
overflow_add-self g c =
    let can = c.requires.ready in
    let p = c.push-taken.ensures (standing_of can.value) can.sees.standing (has_room c.args.setting.now can.start _ can.value can.before can.holds (omega (arith, can.few))) in
    let few = few_spelled c.args.setting.now can.value can.holds.counts.setting p.2 in
    omega (arith, can.sees.samples, can.holds.counts.samples, can.few, few.0)

pub overflow_add-self-2 : goal.overflow_add-self-2
overflow_add-self-2 g c =
    let can = c.requires.ready in
    let s = c.args.setting.now in
    let xs = can.before in
    let k = can.holds.counts in
    let p = c.push-taken.ensures (standing_of can.value) can.sees.standing (has_room s can.start _ can.value xs can.holds (omega (arith, can.few))) in
    let few = few_spelled s can.value k.setting p.2 in
    let t = taken_spelled s can.value k.setting p.2 (holds_code can.holds) in
    let small = early_small s p.0.coder (xs ++ p.2.samples) t.counts.setting t.counts.stands in
    omega (arith, small, t.counts.bits, can.sees.bits, can.few, few.0, length-append xs p.2.samples, p.2.number)

pub returns-then-taken-clause-did : goal.returns-then-taken-clause-did
returns-then-taken-clause-did g c v old xs sees h =
    let can = c.requires.ready in
    let s = c.args.setting.now in
    let same : length xs ≡ length can.before = omega (arith, sees.samples, h.counts.samples, can.sees.samples, can.holds.counts.samples) in
    let p = c.push-taken.ensures (standing_of v) sees.standing (has_room s old _ v xs h (omega (arith, can.few, same))) in
    let taken = c.push-taken.result in
    let t = taken_spelled s v h.counts.setting p.2 (holds_code h) in
    let shows = shows_none (standing_of v) p.0 c.push-taken.new.sink c.if-taken.true p.2.shows in
    let few : length p.0.sink < 8 = omega (arith, ap length shows, sink_short s old _ v xs h) in (
      after_push v p.0 taken,
      record { standing = p.1; samples = ap (λ n. n + taken.samples) sees.samples; bits = ap (λ n. n + taken.bits) sees.bits },
      (
        record { more = p.2.samples; number = p.2.number; reads = spelled_of s v h.counts.setting p.2; holds = none_whole p.2.samples h t.counts t.code_is few },
        λ none. subst (λ s. IsNoSpelling s c.args.bytes.now) h.counts.setting (p.2.none none),
      ),
    )

pub returns-then-taken-clause-within : goal.returns-then-taken-clause-within
returns-then-taken-clause-within g c =
    let can = c.requires.ready in
    let p = c.push-taken.ensures (standing_of can.value) can.sees.standing (has_room c.args.setting.now can.start _ can.value can.before can.holds (omega (arith, can.few))) in
    (few_spelled c.args.setting.now can.value can.holds.counts.setting p.2).1

pub returns-clause-within : goal.returns-clause-within
returns-clause-within g c =
    let can = c.requires.ready in
    let p = c.push-taken.ensures (standing_of can.value) can.sees.standing (has_room c.args.setting.now can.start _ can.value can.before can.holds (omega (arith, can.few))) in
    (few_spelled c.args.setting.now can.value can.holds.counts.setting p.2).1

pub returns-clause-did : goal.returns-clause-did
returns-clause-did g c v old xs sees h =
    let can = c.requires.ready in
    let s = c.args.setting.now in
    let same : length xs ≡ length can.before = omega (arith, sees.samples, h.counts.samples, can.sees.samples, can.holds.counts.samples) in
    let taken = c.push-taken.result in
    let p = c.push-taken.ensures (standing_of v) sees.standing (has_room s old _ v xs h (omega (arith, can.few, same))) in
    let t = taken_spelled s v h.counts.setting p.2 (holds_code h) in
    let w = c.in_ok-write_whole.ensures.ok in
    let shows = shows_all (standing_of v) p.0 c.if-taken.false p.2.shows in
    let code_is = subst (λ l. complete_code s (xs ++ p.2.samples) ≡ whole_part (complete_code s xs) ++ l) shows t.code_is in
    let new = c.write_whole.new.sink in (
      record { samples = v.samples + taken.samples; coder = p.0.coder; sink = new; meter = p.0.meter; bits = v.bits + taken.bits },
      record { standing = g.met.C.TakesBytes.with_sink _ _ _ p.0 p.1 shows new; samples = ap (λ n. n + taken.samples) sees.samples; bits = ap (λ n. n + taken.bits) sees.bits },
      (
        record {
          more = p.2.samples;
          number = p.2.number;
          reads = spelled_of s v h.counts.setting p.2;
          holds = all_written {f = record { samples = v.samples + taken.samples; coder = p.0.coder; sink = c.push-taken.new.sink; meter = p.0.meter; bits = v.bits + taken.bits }}
              p.2.samples h (counts_with c.push-taken.new.sink t.counts) code_is w.0 w.2 (counts_with new t.counts);
        },
        λ none. subst (λ s. IsNoSpelling s c.args.bytes.now) h.counts.setting (p.2.none none),
      ),
    )

pub returns-in_err-write_whole-clause-did : goal.returns-in_err-write_whole-clause-did
returns-in_err-write_whole-clause-did g c =
    let q = err_from_is_err_and c.from_residual.result c.from_residual.ensures.1 in
    rw (q.1) (λ v old xs sees h. (let can = c.requires.ready in
    let s = c.args.setting.now in
    let same : length xs ≡ length can.before = omega (arith, sees.samples, h.counts.samples, can.sees.samples, can.holds.counts.samples) in
    let taken = c.push-taken.result in
    let p = c.push-taken.ensures (standing_of v) sees.standing (has_room s old _ v xs h (omega (arith, can.few, same))) in
    let t = taken_spelled s v h.counts.setting p.2 (holds_code h) in
    let shows = shows_all (standing_of v) p.0 c.if-taken.false p.2.shows in
    let code_is = subst (λ l. complete_code s (xs ++ p.2.samples) ≡ whole_part (complete_code s xs) ++ l) shows t.code_is in
    let new = c.write_whole.new.sink in (
      record { samples = v.samples + taken.samples; coder = p.0.coder; sink = new; meter = p.0.meter; bits = v.bits + taken.bits },
      record { standing = g.met.C.TakesBytes.with_sink _ _ _ p.0 p.1 shows new; samples = ap (λ n. n + taken.samples) sees.samples; bits = ap (λ n. n + taken.bits) sees.bits },
      meets_failure {f = record { samples = v.samples + taken.samples; coder = p.0.coder; sink = c.push-taken.new.sink; meter = p.0.meter; bits = v.bits + taken.bits }}
          h (record { counts = counts_with c.push-taken.new.sink t.counts; code_is = code_is; bits = t.bits; goes_on = t.goes_on; before_last = t.before_last })
          c.in_err-write_whole.ensures.err.0 (counts_with new t.counts) (spelled_of s v h.counts.setting p.2),
    )))
