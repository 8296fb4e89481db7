-- How encoding ends.
use Rattle.std.proofs.Common.{◌≡◌, ℕ, ◌+◌, ◌-◌, ◌*◌, ◌%◌, ◌<◌, ◌≤◌, List, [], ◌∷◌, ◌++◌, length, take, drop, refl, ap, arith, sym, ◌∙◌, subst, append_assoc, append-nil, length-append, Option, Some}
use Rattle.std.proofs.Common.{None, ℤ, inl, inr}
use Rattle.rice_stream.proofs.Words.{All, Err, IsAtEnd, mul-le-mul_left, mul-le-mul_right, mul_comm, drop_at, mod-mul-add, take-append_seam, Consumes-trans, Room, Parameters, IsSample, width, Spells}
use Rattle.rice_stream.proofs.Words.{Reads, spellings, AtEnd, TooFew, code_bits, output, early_output, complete_samples, reads_then, reads_before, length-spellings, some_width, narrow_width, Fails}
use Rattle.rice_stream.proofs.Words.{IsWithinLimit, PassesLimit, StopsBetween, Beginning, afresh, CountsSamples, TakesAll, WritesRest, EncodingProgress, Pushes, PushFails, EncodesBetween}
use Rattle.rice_stream.proofs.Words.{EndsEncoding, EncodesWithin, ReportsTaken, ReportsAll, LeavesEarly, SpellsSoFar, EncodingValue, Report, Fault, Read, Write, TooLong, SampleOutOfRange, SampleCut}
use Rattle.rice_stream.specs.BufferedBytes.{BufferedBytes, with_last, Refills, PassesInput, StopsRefilling, CountsReads}
use Rattle.rice_stream.proofs.lemmas.{EncodingBounds.Settles, EncodingBounds.early_bounded, EncodingBounds.all_bounded, EncodingLemmas.Follows-all, EncodingLemmas.settled_by}

-- a call that stops early is within the bounds
pub within_early : (s : Parameters) (r : Report) (xs : List ℤ) → Settles s xs → ReportsTaken s r xs → EncodesWithin s r
within_early s r xs settles t =
    let b = early_bounded s xs settles in
    let at : EncodesWithin s (record { samples = length xs; bits = code_bits s (complete_samples s xs); steps = r.steps }) = record {
      bits = b.bits;
      at_least = omega (arith, t.least);
      at_most = omega (arith, t.most, b.steps);
      amortised = omega (arith, t.most, b.amortised);
    } in
    subst (EncodesWithin s) (λ i. record { samples = sym t.samples i; bits = sym t.bits i; steps = r.steps }) at

-- and so is one that encodes all
pub within_all : (s : Parameters) (r : Report) (xs : List ℤ) → Settles s xs → ReportsAll s r xs → EncodesWithin s r
within_all s r xs settles t =
    let b = all_bounded s xs settles in
    let at : EncodesWithin s (record { samples = length xs; bits = code_bits s xs; steps = r.steps }) = record {
      bits = b.bits;
      at_least = omega (arith, t.least);
      at_most = omega (arith, t.most, b.steps);
      amortised = omega (arith, t.most, b.amortised);
    } in
    subst (EncodesWithin s) (λ i. record { samples = sym t.samples i; bits = sym t.bits i; steps = r.steps }) at

-- the samples of bytes, of which too few for one more are left
pub spelled_so_far : (s : Parameters) (bytes : List ℕ) (xs : List ℤ) (rest : List ℕ) → Reads s bytes xs rest → length rest < width s → SpellsSoFar s bytes xs
spelled_so_far s bytes xs [] r few = (AtEnd, record { rest = []; whole = r.split; legal = r.legal; stops = refl }, λ e. cc)
spelled_so_far s bytes xs (b ∷ rest) r few = (TooFew, record { rest = b ∷ rest; whole = r.split; legal = r.legal; stops = ((λ e. cc), few) }, λ e. cc)

-- of the bytes given, those after the samples that are reported are at most one call's
given_ahead : (s : Parameters) (bytes rest : List ℕ) (xs : List ℤ) (samples : ℕ) → bytes ≡ spellings s xs ++ rest → length rest ≤ 4096 → samples ≡ length xs →
    length bytes ≤ samples * width s + 4096
given_ahead s bytes rest xs samples split few e =
    at (width s) (length xs) samples (length rest) (length bytes) (ap length split ∙ length-append (spellings s xs) rest ∙ ap (λ n. n + length rest) (length-spellings s xs)) e few
  where
    at : (w n k b m : ℕ) → m ≡ w * n + b → k ≡ n → b ≤ 4096 → m ≤ k * w + 4096
    at w n k b m e h few = let p = ap (λ v. v * w) h in omega arith

-- bytes came, which are buffered
pub refills_on : {s : Parameters} {left_old left left_new : Option (List ℕ)} {taken_old taken : Option Room} {v : EncodingValue} {r r_new : BufferedBytes} {n : ℕ}
    → EncodingProgress s left_old left taken_old taken v r → Refills r r_new left left_new n → EncodingProgress s left_old left_new taken_old taken v r_new
refills_on {s} {left_old} {left} {left_new} {r = r} p d = record {
  bytes = p.bytes ++ d.bytes;
  samples = p.samples;
  reads = subst (Reads s (p.bytes ++ d.bytes) p.samples) (sym d.buffered) (reads_before s p.samples p.bytes r.buffered d.bytes p.reads);
  count = omega (arith, p.count, d.given, d.number, length-append p.bytes d.bytes);
  gave = Consumes-trans left_old left left_new p.bytes d.bytes p.gave d.gave;
  holds = p.holds;
}

-- what is left of bytes of which all samples are taken are the last ones
pub rest_is : (s : Parameters) (bytes rest : List ℕ) (xs : List ℤ) → Reads s bytes xs rest → length rest < width s
    → (length bytes % width s ≤ length bytes) × (drop (length bytes - length bytes % width s) bytes ≡ rest)
rest_is s bytes rest xs r few =
    let w = width s in
    let size : length bytes ≡ w * length xs + length rest = ap length r.split ∙ length-append (spellings s xs) rest ∙ ap (λ n. n + length rest) (length-spellings s xs) in
    let left : length bytes % w ≡ length rest = ap (λ n. n % w) size ∙ (ap (λ n. (n + length rest) % w) (mul_comm w (length xs)) ∙ mod-mul-add (length xs) w (length rest) few) in
    let front : length bytes - length bytes % w ≡ length (spellings s xs) = omega (arith, size, left, length-spellings s xs) in
    (omega (arith, size, left), ap (λ n. drop n bytes) front ∙ ap (drop (length (spellings s xs))) r.split ∙ drop_at (spellings s xs) rest (length (spellings s xs)) refl)

-- the samples of those that are buffered are taken
pub takes_on : {s : Parameters} {left_old left : Option (List ℕ)} {taken_old taken taken_new : Option Room} {v v_new : EncodingValue} {r r_new : BufferedBytes}
    → (p : EncodingProgress s left_old left taken_old taken v r) → (t : TakesAll s (afresh taken_old) taken_new v_new p.samples r.buffered)
    → r_new ≡ with_last (length r.buffered % width s) r → EncodingProgress s left_old left taken_old taken_new v_new r_new
takes_on {s} {r = r} {r_new = r_new} p t kept =
    let rest = (rest_is s r.buffered t.rest t.more t.reads t.ends).1 in
    record {
      bytes = p.bytes;
      samples = p.samples ++ t.more;
      reads = subst (Reads s p.bytes (p.samples ++ t.more)) (sym (ap (λ r. r.buffered) kept ∙ rest)) (reads_then s p.bytes r.buffered t.rest p.samples t.more p.reads t.reads);
      count = ap (λ r. r.given) kept ∙ p.count;
      gave = p.gave;
      holds = t.holds;
    }

-- the samples so far, and those that are buffered, are at most as many as the bytes that were given
pub few_given : {s : Parameters} {left_old left : Option (List ℕ)} {taken_old taken : Option Room} {v : EncodingValue} {r : BufferedBytes}
    → (p : EncodingProgress s left_old left taken_old taken v r) → length p.samples + length r.buffered ≤ r.given
few_given {s} {r = r} p =
    let few : length p.samples * 1 ≤ length p.samples * width s = mul-le-mul_left (length p.samples) (some_width s) in
    omega (arith, few, p.count, ap length p.reads.split, length-append (spellings s p.samples) r.buffered, length-spellings s p.samples)

-- no more samples come
module _ {s : Parameters} {left_old left : Option (List ℕ)} {taken_old taken : Option Room} {v : EncodingValue} {r : BufferedBytes} {report : Report}
    (p : EncodingProgress s left_old left taken_old taken v r) (few : length r.buffered < width s) (limit : r.given ≤ 281474976710656)
    (reported : (xs : List ℤ) → CountsSamples s v xs → ReportsTaken s report xs) where
  early : (left_new : Option (List ℕ)) (given : List ℕ) → LeavesEarly s (record { given = given; left = left_new; written = early_output s p.samples }) report p.samples
  early left_new given = record { written = refl; reports = reported p.samples p.holds.counts }

  at : (f : Option Fault) → EndsEncoding s f (record { given = p.bytes; left = left; written = early_output s p.samples }) report p.samples →
      IsWithinLimit 281474976710656 f p.bytes → EncodesBetween s left_old left taken_old taken report f
  at f ends within = (
    record { given = p.bytes; left = left; written = early_output s p.samples },
    record { gave = p.gave; left = refl; took = Follows-all taken_old taken _ p.holds.took },
    record {
      samples = p.samples;
      ends = ends;
      limit = within;
      ahead = given_ahead s p.bytes r.buffered p.samples report.samples p.reads.split (omega (arith, few, narrow_width s)) (reported p.samples p.holds.counts).samples;
    },
  )

  -- since the intake failed,
  pub read_ends : EncodesBetween s left_old left taken_old taken report (Some Read)
  read_ends = at (Some Read) (spelled_so_far s p.bytes p.samples r.buffered p.reads few, early left p.bytes) (omega (arith, p.count, limit))

  -- since too few bytes are left for a sample,
  pub cut_ends : 0 < length r.buffered → IsAtEnd left → EncodesBetween s left_old left taken_old taken report (Some (SampleCut v.samples))
  cut_ends some end = at (Some (SampleCut v.samples)) (
    record {
      rest = r.buffered;
      whole = p.reads.split;
      legal = p.reads.legal;
      stops =
          ((λ none. absurd (omega (arith, some, ap length none))), few);
    },
    end,
    p.holds.counts.samples,
    early left p.bytes,
  )
      (omega (arith, p.count, limit))

  -- or since a byte came that is one too many
  pub long_ends : {left_new : Option (List ℕ)} {r_new : BufferedBytes} → PassesInput r r_new left left_new → EncodesBetween s left_old left_new taken_old taken report (Some TooLong)
  long_ends {left_new} h =
      let more = h.last ∷ [] in
      let passes : PassesLimit 281474976710656 (p.bytes ++ more) p.bytes = record { last = h.last; split = refl; full = sym p.count ∙ h.full } in (
        record { given = p.bytes ++ more; left = left_new; written = early_output s p.samples },
        record { gave = Consumes-trans left_old left left_new p.bytes more p.gave h.gave; left = refl; took = Follows-all taken_old taken _ p.holds.took },
        record {
          samples = p.samples;
          ends = ((p.bytes, passes, spelled_so_far s p.bytes p.samples r.buffered p.reads few), early left_new (p.bytes ++ more));
          limit = tt;
          ahead = given_ahead s (p.bytes ++ more) (r.buffered ++ more) p.samples report.samples (reads_before s p.samples p.bytes r.buffered more p.reads).split
              (omega (arith, length-append r.buffered more, few, narrow_width s)) (reported p.samples p.holds.counts).samples;
        },
      )

-- why the intake gives no more
pub drawing_ends : {s : Parameters} {left_old left left_new : Option (List ℕ)} {taken_old taken : Option Room} {v : EncodingValue} {r : BufferedBytes} (r_new : BufferedBytes)
    {report : Report} (fault : Fault) {f : Option Fault} → EncodingProgress s left_old left taken_old taken v r → length r.buffered < width s → StopsRefilling fault r r_new left left_new
    → r_new.given ≤ 281474976710656 → ((xs : List ℤ) → CountsSamples s v xs → ReportsTaken s report xs) → f ≡ Some fault → EncodesBetween s left_old left_new taken_old taken report f
drawing_ends {s} {left_old} {left} {left_new} {taken_old} {taken} {v} {r} r_new {report} fault p few stops limit reported is =
    subst (EncodesBetween s left_old left_new taken_old taken report) (sym is) (by_fault fault stops)
  where
    by_fault : (fault : Fault) → StopsRefilling fault r r_new left left_new → EncodesBetween s left_old left_new taken_old taken report (Some fault)
    by_fault Read d = read_ends (refills_on p d) (omega (arith, few, ap length d.buffered, length-append r.buffered d.bytes, d.number)) limit reported
    by_fault TooLong h = long_ends p few (omega (arith, h.full)) reported h
    by_fault _ bad = absurd bad

-- and the failures then
pub drawing_fails : (fault : Fault) {f : Option Fault} {reads mid : ℕ} (reads_new : ℕ) {writes writes_new : ℕ} (old new : BufferedBytes) (left left_new : Option (List ℕ))
    → StopsRefilling fault old new left left_new → f ≡ Some fault → CountsReads {T = ℕ} mid reads_new (Err fault) → mid ≡ reads → writes_new ≡ writes → Fails f reads reads_new writes writes_new
drawing_fails fault {f} {reads} {mid} reads_new {writes} {writes_new} old new left left_new stops is counts same calm = subst (λ (f : Option Fault). Fails f reads reads_new writes writes_new) (sym is)
    (by_fault fault stops counts)
  where
    by_fault : (fault : Fault) → StopsRefilling fault old new left left_new → CountsReads {T = ℕ} mid reads_new (Err fault) → Fails (Some fault) reads reads_new writes writes_new
    by_fault Read d e = (e ∙ ap (λ n. n + 1) same, calm)
    by_fault TooLong h e = (e ∙ same, calm)
    by_fault _ bad e = absurd bad

-- all samples were given, and their code is written or not
pub finish_ends : {s : Parameters} {left_old left : Option (List ℕ)} {taken_old taken new : Option Room} {e : EncodingValue} {q : BufferedBytes}
    {r : Report} {f : Option Fault} → (runs : EncodingProgress s left_old left taken_old taken e q) → IsAtEnd left → q.buffered ≡ [] → q.given ≤ 281474976710656
    → ReportsAll s r runs.samples → WritesRest s (afresh taken_old) new runs.samples f → EncodesBetween s left_old left taken_old new r f
finish_ends {s} {left_old} {left} {taken_old} {new} {e} {q} {r} {f} runs end none limit closes finishes = by_fault f finishes
  where
    xs : List ℤ
    xs = runs.samples

    spells : Spells s runs.bytes xs AtEnd
    spells = record { rest = q.buffered; whole = runs.reads.split; legal = runs.reads.legal; stops = none }

    count : length runs.bytes ≡ width s * length xs
    count = ap length (runs.reads.split ∙ ap (λ l. spellings s xs ++ l) none ∙ append-nil (spellings s xs)) ∙ length-spellings s xs

    ahead : (w n m k : ℕ) → m ≡ w * n → k ≡ n → m < k * w + 4096
    ahead w n m k e h = let p = ap (λ v. v * w) h in omega arith

    no_more : length runs.bytes ≤ r.samples * width s + 4096
    no_more = given_ahead s runs.bytes q.buffered xs r.samples runs.reads.split (omega (arith, ap length none)) closes.samples

    by_fault : (f : Option Fault) → WritesRest s (afresh taken_old) new xs f → EncodesBetween s left_old left taken_old new r f
    by_fault None took = (
      record { given = runs.bytes; left = left; written = output s xs },
      record { gave = runs.gave; left = refl; took = Follows-all taken_old new _ took },
      record { samples = xs; ends = (spells, end, record { written = refl; reports = closes }); limit = omega (arith, runs.count, limit); ahead = no_more },
    )
    by_fault (Some Write) part = (
      record { given = runs.bytes; left = left; written = part.written },
      record { gave = runs.gave; left = refl; took = Follows-all taken_old new _ part.took },
      record {
        samples = xs;
        ends = (ahead (width s) (length xs) (length runs.bytes) r.samples count closes.samples, inr (record { given = spells; end = end; reports = closes; stops = part.stops }));
        limit = omega (arith, runs.count, limit);
        ahead = no_more;
      },
    )
    by_fault _ bad = absurd bad

-- the samples of the bytes that are buffered are not all taken
pub pushing_ends : {s : Parameters} {left_old left : Option (List ℕ)} {taken_old taken taken_new : Option Room} {v v_new : EncodingValue} {r : BufferedBytes} {report : Report}
    (fault : Fault) {f : Option Fault} → (p : EncodingProgress s left_old left taken_old taken v r) → Pushes {T = Unit {0}} s (afresh taken_old) taken_new v_new p.samples r.buffered (Err fault)
    → length r.buffered ≤ 4096 → r.given ≤ 281474976710656 → ((xs : List ℤ) → CountsSamples s v_new xs → ReportsTaken s report xs) → f ≡ Some fault
    → EncodesBetween s left_old left taken_old taken_new report f
pushing_ends {s} {left_old} {left} {taken_old} {taken} {taken_new} {v} {v_new} {r} {report} fault p stops few limit reported is =
    subst (EncodesBetween s left_old left taken_old taken_new report) (sym is) (by_fault fault stops)
  where
    xs : List ℤ
    xs = p.samples

    ahead : (w n b g k : ℕ) → g ≡ w * n + b → b ≤ 4096 → 1 ≤ w → n < k → g < k * w + 4096
    ahead w n b g k e few some lt = let q = mul-le-mul_right w lt in omega arith

    by_fault : (fault : Fault) → Pushes {T = Unit {0}} s (afresh taken_old) taken_new v_new xs r.buffered (Err fault) → EncodesBetween s left_old left taken_old taken_new report (Some fault)
    by_fault (SampleOutOfRange index) (m, named) =
        let joined = reads_then s p.bytes r.buffered m.rest xs m.more p.reads m.reads in
        let t = reported (xs ++ m.more) m.holds.counts in
        let size = ap length m.reads.split ∙ length-append (spellings s m.more) m.rest in (
          record { given = p.bytes; left = left; written = early_output s (xs ++ m.more) },
          record { gave = p.gave; left = refl; took = Follows-all taken_old taken_new _ m.holds.took },
          record {
            samples = xs ++ m.more;
            ends = (
              record { rest = m.rest; whole = joined.split; legal = joined.legal; stops = m.ends },
              named ∙ m.holds.counts.samples,
              record { written = refl; reports = t },
            );
            limit = omega (arith, p.count, limit);
            ahead = given_ahead s p.bytes m.rest (xs ++ m.more) report.samples joined.split (omega (arith, size, few)) t.samples;
          },
        )
    by_fault Write m =
        let joined = reads_then s p.bytes r.buffered m.rest xs (m.more ++ m.last ∷ []) p.reads m.reads in
        let before = xs ++ m.more in
        let all = before ++ m.last ∷ [] in
        let t = reported all m.fails.counts in
        let n : length all ≡ length before + 1 = length-append before (m.last ∷ []) in
        let k : length before ≡ length xs + length m.more = length-append xs m.more in
        let front : take (length all - 1) all ≡ before = (let i : length all - 1 ≡ length before = omega arith in ap (λ i. take i all) i ∙ take-append_seam before (m.last ∷ [])) in
        let same : xs ++ (m.more ++ m.last ∷ []) ≡ all = sym (append_assoc xs m.more (m.last ∷ [])) in
        let size : length p.bytes ≡ width s * length xs + length r.buffered = ap length p.reads.split ∙ length-append (spellings s xs) r.buffered
        ∙ ap (λ n. n + length r.buffered) (length-spellings s xs) in
        let fewer = ahead (width s) (length xs) (length r.buffered) (length p.bytes) report.samples size few (some_width s) (omega (arith, t.samples, n, k)) in (
          record { given = p.bytes; left = left; written = m.fails.takes.written },
          record { gave = p.gave; left = refl; took = Follows-all taken_old taken_new _ m.fails.takes.took },
          record {
            samples = all;
            ends = (
              fewer,
              inl (record {
                given = (m.rest, record { split = joined.split ∙ ap (λ l. spellings s l ++ m.rest) same; legal = subst (All (IsSample s)) same joined.legal });
                some = omega arith;
                reports = t;
                stops = subst (λ (l : List ℤ). StopsBetween (early_output s l) (early_output s all) m.fails.takes.written) (sym front) m.fails.takes.stops;
              }),
            );
            limit = omega (arith, p.count, limit);
            ahead = omega (arith, fewer);
          },
        )
    by_fault _ bad = absurd bad

-- a push failed
pub record FailedPush (s : Parameters) (old : Beginning) (taken : Option Room) (e : EncodingValue) (xs : List ℤ) (bytes : List ℕ) (f : Fault) (mid writes_new : ℕ) : Type 0 where
  pub pushed : Pushes {T = Unit {0}} s old taken e xs bytes (Err f)
  pub fails : PushFails {T = Unit {0}} mid writes_new (Err f)

-- and the failures then
pub push_fails : {s : Parameters} {old : Beginning} (taken : Option Room) (e : EncodingValue) (xs : List ℤ) (bytes : List ℕ) {f : Fault} {g : Option Fault}
    {reads reads_new writes mid : ℕ} (writes_new : ℕ) → reads_new ≡ reads → mid ≡ writes →
    FailedPush s old taken e xs bytes f mid writes_new → g ≡ Some f → Fails g reads reads_new writes writes_new
push_fails {s} {old} taken e xs bytes {f} {g} {reads} {reads_new} {writes} {mid} writes_new same before failed is =
    let result = by_fault f failed.pushed failed.fails in
    subst (λ (g : Option Fault). Fails g reads reads_new writes writes_new) (sym is) result
  where
    by_fault : (f : Fault) → Pushes {T = Unit {0}} s old taken e xs bytes (Err f) → PushFails {T = Unit {0}} mid writes_new (Err f) → Fails (Some f) reads reads_new writes writes_new
    by_fault (SampleOutOfRange index) m k = (same, k ∙ before)
    by_fault Write m k = (same, k ∙ ap (λ n. n + 1) before)
    by_fault _ bad k = absurd bad

-- the report's bounds where taking the bytes in hand stops
pub push_within : {s : Parameters} (old : Beginning) (taken : Option Room) (e : EncodingValue) {r : Report} (f : Fault) (xs : List ℤ) (bytes : List ℕ)
    → ((ys : List ℤ) → CountsSamples s e ys → ReportsTaken s r ys) → Pushes {T = Unit {0}} s old taken e xs bytes (Err f) → EncodesWithin s r
push_within {s} old taken e {r} (SampleOutOfRange index) xs bytes reported m =
    let k = m.0.holds.counts in within_early s r (xs ++ m.0.more) (settled_by s e (xs ++ m.0.more) k) (reported (xs ++ m.0.more) k)
push_within {s} old taken e {r} Write xs bytes reported m = let ys = (xs ++ m.more) ++ m.last ∷ [] in let k = m.fails.counts in within_early s r ys (settled_by s e ys k) (reported ys k)
push_within old taken e _ xs bytes reported bad = absurd bad
