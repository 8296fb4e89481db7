-- A coder at work takes a sample, writes, and ends.
use Rattle.std.proofs.Common.{◌≡◌, ℕ, ◌+◌, ◌*◌, ◌<◌, ◌≤◌, Bool, List, [], ◌∷◌, ◌++◌, length, take, drop, replicate, false, true}
use Rattle.std.proofs.Common.{refl, ap, arith, sym, ◌∙◌, subst, append_assoc, append-nil, length-append, length-drop, take-append-drop, Option, ℤ, pos}
use Rattle.rice_stream.proofs.Words.{sum_by, div_ceil, bits_of_set, blocks_from, fill_count, data_sets, complete_samples, layout, Room, Appends, Appends-trans, whole_short, Parameters, width}
use Rattle.rice_stream.proofs.Words.{block_count, cut, filled_samples, Reads, spellings, HasTaken, IsAlignedWith, AddsCode, PushesSamples, CompletesNone, complete_code, CoderState, code, code_bits}
use Rattle.rice_stream.proofs.Words.{early_output, least_looks, most_looks, least_looks_at, most_looks_at, least_steps, most_steps, segment_steps, holds_nothing, segment_steps_few, Standing, take-nil}
use Rattle.rice_stream.proofs.Words.{HasRoomAt, reads_then, length-spellings, some_width, mul-le-mul_left, take-append_seam, bits_in_bytes, bits_to_byte, padded_bits, whole_bytes, ShowsCode}
use Rattle.rice_stream.proofs.Words.{TakesSpelled, Taken, Beginning, afresh, Follows, CountsSamples, IsEncodingOf, HoldsCode, TakesSamples, FollowsBetween, FailsAt, MeetsFailure, nil_from_length}
use Rattle.rice_stream.proofs.Words.{whole_part, ReportsAll, TakesPart, EncodingValue, Report, last_part}
use Rattle.rice_stream.proofs.lemmas.EncodingBounds.{Settles, taken_settles, early_bounded, all_bounded, few_steps, few_bits}
use Rattle.rice_stream.proofs.lemmas.BytesOfGrowingCode.{length-part, more_bytes, more_rest}

-- bytes that the outlet takes after those that are written are written with them
pub Follows-trans : (old : Beginning) (now new : Option Room) (bytes more : List ℕ) → Follows old now bytes → Appends now new more → Follows old new (bytes ++ more)
Follows-trans old now new bytes more f a = record {
  more = f.more ++ more;
  split = ap (λ l. l ++ more) f.split ∙ append_assoc old.before f.more more;
  took = Appends-trans old.state now new f.more more f.took a;
}

-- where nothing was written before, the outlet took all that is written
pub Follows-all : (old new : Option Room) (bytes : List ℕ) → Follows (afresh old) new bytes → Appends old new bytes
Follows-all old new bytes f = subst (λ (l : List ℕ). Appends old new l) (sym f.split) f.took

-- what was counted settles the bounds of the samples
pub settled_by : (s : Parameters) (e : EncodingValue) (xs : List ℤ) → CountsSamples s e xs → Settles s xs
settled_by s e xs c = taken_settles s e.coder xs c.setting c.stands

-- bits and steps are far below what a number holds
pub counts_small : (s : Parameters) (e : EncodingValue) (xs : List ℤ) → CountsSamples s e xs → (e.bits ≤ 73 * length xs + 4700)
    × (e.meter ≤ 73 * length xs + 4700) × (segment_steps e.coder.setting ≤ 274752)
counts_small s e xs c =
    let h = settled_by s e xs c in
    let b = early_bounded s xs h in
    let few = few_steps s (length xs) h.setting in
    let segment = ap segment_steps c.setting in
    (omega (arith, c.bits, c.least, c.most, b.steps, few), omega (arith, c.most, b.steps, few), omega (arith, segment, segment_steps_few s h.setting))

-- so are the bits of a coder's samples so far, and of all
pub early_small : (s : Parameters) (coder : CoderState) (xs : List ℤ) → coder.setting ≡ s → HasTaken coder xs → code_bits s (complete_samples s xs) ≤ 73 * length xs + 4700
early_small s coder xs e h = let k = taken_settles s coder xs e h in few_bits s (length xs) _ _ k.setting (early_bounded s xs k) (omega arith)

-- the code so far is no longer than its samples allow
pub all_small : (s : Parameters) (coder : CoderState) (xs : List ℤ) → coder.setting ≡ s → HasTaken coder xs → code_bits s xs ≤ 73 * length xs + 4700
all_small s coder xs e h = let k = taken_settles s coder xs e h in few_bits s (length xs) _ _ k.setting (all_bounded s xs k) (omega arith)

-- what the sink holds goes on from the bytes that are whole
pub sink_goes_on : (s : Parameters) (old : Beginning) (now : Option Room) (e : EncodingValue) (xs : List ℤ) → IsEncodingOf s old now e xs
    → whole_part (complete_code s xs) ++ e.sink ≡ complete_code s xs
sink_goes_on s old now e xs h = ap (λ l. whole_part (complete_code s xs) ++ l) h.sink ∙ take-append-drop (bits_in_bytes (length (complete_code s xs))) (complete_code s xs)

-- less than a byte is buffered in the sink
pub sink_short : (s : Parameters) (old : Beginning) (now : Option Room) (e : EncodingValue) (xs : List ℤ) → IsEncodingOf s old now e xs → length e.sink ≤ 7
sink_short s old now e xs h = omega (arith, ap length h.sink, length-drop (bits_in_bytes (length (complete_code s xs))) (complete_code s xs))

-- the sink stands at the place in a byte where the code does
pub sink_place : (s : Parameters) (old : Beginning) (now : Option Room) (e : EncodingValue) (xs : List ℤ) → IsEncodingOf s old now e xs → IsAlignedWith s (complete_samples s xs) e.sink
sink_place s old now e xs h pads =
    let n = ap length h.sink in
    let m = length-drop (bits_in_bytes (length (complete_code s xs))) (complete_code s xs) in
    omega arith

-- an encoding between two writes holds its code so
pub holds_code : {s : Parameters} {old : Beginning} {now : Option Room} {e : EncodingValue} {xs : List ℤ} → IsEncodingOf s old now e xs → HoldsCode s e xs xs
holds_code {s} {old} {now} {e} {xs} h = record { counts = h.counts; code_is = sym (sink_goes_on s old now e xs h) }

-- the sink stands at the place in a byte where the code does, however much it holds
pub code_place : (s : Parameters) (e : EncodingValue) (xs ys : List ℤ) → HoldsCode s e xs ys → IsAlignedWith s (complete_samples s ys) e.sink
code_place s e xs ys h pads =
    let n = ap length h.code_is in
    let m = length-append (whole_part (complete_code s xs)) e.sink in
    let p = length-part (complete_code s xs) in
    omega arith

-- samples are taken
pub taken_on : {s : Parameters} {e f : EncodingValue} {xs zs ys : List ℤ} {n : ℕ} → HoldsCode s e xs zs →
    PushesSamples e.coder f.coder ys e.sink f.sink n e.meter f.meter → f.bits ≡ e.bits + n → f.samples ≡ e.samples + length ys
    → ((m : ℕ) → m < length ys → CompletesNone e.coder (take m ys)) → TakesSamples s f xs zs ys
taken_on {s} {e} {f} {xs} {zs} {ys} {n} h pushes bits samples before =
    let stands = h.counts.stands in
    let adds : AddsCode s (complete_samples s zs) (complete_samples s (zs ++ ys)) e.sink f.sink n (length ys) e.meter f.meter =
    subst (λ (t : Parameters). AddsCode t (complete_samples t zs) (complete_samples t (zs ++ ys)) e.sink f.sink n (length ys) e.meter f.meter) h.counts.setting (pushes.adds zs stands) in
    let k = adds.code_is (code_place s e xs zs h) in
    let part = whole_part (complete_code s xs) in
    let c = length-append zs ys in
    record {
      counts = record {
        setting = pushes.setting ∙ h.counts.setting;
        stands = pushes.taken zs stands;
        samples = omega (arith, samples, h.counts.samples, c);
        bits = omega (arith, bits, adds.bits, h.counts.bits);
        least = omega (arith, adds.steps.least, h.counts.least, c);
        most = omega (arith, adds.steps.most, h.counts.most, c);
      };
      code_is = k.completes ∙ ap (λ l. l ++ k.bits) h.code_is ∙ append_assoc part e.sink k.bits ∙ ap (λ l. part ++ l) (sym k.appended);
      bits = k.bits;
      goes_on = k.completes;
      before_last = λ m lt. subst (λ (t : Parameters). complete_samples t (zs ++ take m ys) ≡ complete_samples t zs) h.counts.setting (before m lt zs stands);
    }

-- what an encoding stands for
abbrev pub standing_of : EncodingValue → Standing
standing_of v = record { coder = v.coder; sink = v.sink; meter = v.meter }

-- an encoding whose coder has taken more samples
abbrev pub after_push : EncodingValue → Standing → Taken → EncodingValue
after_push v m taken = record { samples = v.samples + taken.samples; coder = m.coder; sink = m.sink; meter = m.meter; bits = v.bits + taken.bits }

-- there is room for the code of a segment
pub has_room : (s : Parameters) (old : Beginning) (now : Option Room) (v : EncodingValue) (xs : List ℤ) → IsEncodingOf s old now v xs → length xs ≤ 281474976710656 → HasRoomAt (standing_of v)
has_room s old now v xs h few =
    let small = counts_small s v xs h.counts in
    record { room = sink_short s old now v xs h; steps = omega (arith, small.1, small.2, few) }

-- the sink where no code is put ahead,
pub shows_all : (m m_new : Standing) {sink : List Bool} {ahead : Bool} → ahead ≡ false → ShowsCode ahead m m_new sink → m_new.sink ≡ sink
shows_all m m_new {sink} is shows = subst (λ b. ShowsCode b m m_new sink) is shows

-- or where no segment is made whole
pub shows_none : (m m_new : Standing) (sink : List Bool) {ahead : Bool} → ahead ≡ true → ShowsCode ahead m m_new sink → m_new.sink ≡ m.sink
shows_none m m_new sink is shows = subst (λ b. ShowsCode b m m_new sink) is shows

-- the samples that bytes spell are taken
module _ (s : Parameters) (v : EncodingValue) {m_new : Standing} {bytes : List ℕ} {sink_new : List Bool} {taken : Taken} (same : v.coder.setting ≡ s)
    (t : TakesSpelled (standing_of v) m_new bytes sink_new taken) where
  -- which the bytes spell by the setting of the code,
  pub spelled_of : Reads s bytes t.samples (drop (width s * taken.samples) bytes)
  spelled_of = subst (λ (s : Parameters). Reads s bytes t.samples (drop (width s * taken.samples) bytes)) same t.reads

  -- which are no more than the bytes,
  pub few_spelled : (taken.samples ≤ length bytes) × (width s * taken.samples ≤ length bytes)
  few_spelled =
      let r = spelled_of in
      let size = ap length r.split ∙ length-append (spellings s t.samples) (drop (width s * taken.samples) bytes) in
      let n = ap (λ n. width s * n) t.number in
      let per : taken.samples * 1 ≤ taken.samples * width s = mul-le-mul_left taken.samples (some_width s) in
      let within : width s * taken.samples ≤ length bytes = omega (arith, size, length-spellings s t.samples, length-drop (width s * taken.samples) bytes, n) in
      (omega (arith, within, per), within)

  -- and which go on from those before
  pub taken_spelled : {xs zs : List ℤ} → HoldsCode s v xs zs → TakesSamples s (after_push v m_new taken) xs zs t.samples
  taken_spelled h = taken_on h t.pushes refl (ap (λ n. v.samples + n) (sym t.number)) (λ n lt. t.before_last n (omega (arith, lt, t.number)))

-- nothing is whole
pub none_whole : {s : Parameters} {old : Beginning} {now : Option Room} {e f : EncodingValue} {xs : List ℤ} (ys : List ℤ) → IsEncodingOf s old now e xs
    → CountsSamples s f (xs ++ ys) → complete_code s (xs ++ ys) ≡ whole_part (complete_code s xs) ++ f.sink →
    length f.sink < 8 → IsEncodingOf s old now f (xs ++ ys)
none_whole {s} {old} {now} {f} {xs} ys h c same few =
    let a = complete_code s xs in
    let b = complete_code s (xs ++ ys) in
    let z : bits_in_bytes (length f.sink) ≡ 0 = omega arith in
    let bytes : whole_bytes b ≡ whole_bytes a = more_bytes a b f.sink (sym same) ∙ ap (λ l. whole_bytes a ++ l) (whole_short f.sink few) ∙ append-nil (whole_bytes a) in
    record { counts = c; sink = ap (λ n. drop n f.sink) (sym z) ∙ more_rest a b f.sink (sym same); took = subst (λ (l : List ℕ). Follows old now l) (sym bytes) h.took }

-- the whole bytes are written
pub all_written : {s : Parameters} {old : Beginning} {now new : Option Room} {e f g : EncodingValue} {xs : List ℤ} (ys : List ℤ) → IsEncodingOf s old now e xs
    → CountsSamples s f (xs ++ ys) → complete_code s (xs ++ ys) ≡ whole_part (complete_code s xs) ++ f.sink →
    Appends now new (whole_bytes f.sink) → g.sink ≡ drop (bits_in_bytes (length f.sink)) f.sink → CountsSamples s g (xs ++ ys) → IsEncodingOf s old new g (xs ++ ys)
all_written {s} {old} {now} {new} {f} {xs} ys h c same took rest d =
    let a = complete_code s xs in
    let b = complete_code s (xs ++ ys) in
    record {
      counts = d;
      sink = rest ∙ more_rest a b f.sink (sym same);
      took = subst (λ (l : List ℕ). Follows old new l) (sym (more_bytes a b f.sink (sym same))) (Follows-trans old now new (early_output s xs) (whole_bytes f.sink) h.took took);
    }

-- a part that was taken ends between what was there and what should be
pub part_follows : (old : Beginning) (now new : Option Room) (from more to : List ℕ) → Follows old now from → TakesPart now new more → to ≡ from ++ more → FollowsBetween old new from to
part_follows old now new from more to took part e = record {
  written = from ++ part.front;
  stops = record {
    more = part.front;
    missing = part.missing;
    begins = refl;
    stops = e ∙ ap (λ l. from ++ l) part.split ∙ sym (append_assoc from part.front part.missing);
    short = part.short;
  };
  took = Follows-trans old now new from part.front took part.took;
}

-- not all that the samples of some bytes complete was written
pub meets_failure : {s : Parameters} {old : Beginning} {now new : Option Room} {e f g : EncodingValue} {xs samples : List ℤ} {bytes rest : List ℕ}
    → IsEncodingOf s old now e xs → TakesSamples s f xs xs samples → TakesPart now new (whole_bytes f.sink) → CountsSamples s g (xs ++ samples) → Reads s bytes samples rest
    → MeetsFailure s old new g xs bytes
meets_failure {s} {old} {now} {new} {e} {f} {g} {xs} {samples} {bytes} {rest} h takes part counts reads =
    let p = last_part samples (some samples takes) in
    let front : take (length p.0) samples ≡ p.0 = ap (take (length p.0)) p.2 ∙ take-append_seam p.0 (p.1 ∷ []) in
    let size : length samples ≡ length p.0 + 1 = ap length p.2 ∙ length-append p.0 (p.1 ∷ []) in
    let all : xs ++ samples ≡ (xs ++ p.0) ++ p.1 ∷ [] = ap (λ l. xs ++ l) p.2 ∙ sym (append_assoc xs p.0 (p.1 ∷ [])) in
    let before : early_output s (xs ++ p.0) ≡ early_output s xs =
    ap (λ l. early_output s (xs ++ l)) (sym front) ∙ ap (λ l. whole_bytes (code s l)) (takes.before_last (length p.0) (omega (arith, size))) in
    let between = part_follows old now new (early_output s xs) (whole_bytes f.sink) (early_output s (xs ++ samples)) h.took part
    (more_bytes (complete_code s xs) (complete_code s (xs ++ samples)) f.sink (sym takes.code_is)) in
    record {
      more = p.0;
      last = p.1;
      rest = rest;
      reads = subst (λ (l : List ℤ). Reads s bytes l rest) p.2 reads;
      fails = record {
        counts = subst (CountsSamples s g) all counts;
        takes = subst (λ (l : List ℕ). FollowsBetween old new l (early_output s ((xs ++ p.0) ++ p.1 ∷ []))) (sym before)
            (subst (λ (l : List ℤ). FollowsBetween old new (early_output s xs) (early_output s l)) all between);
      };
    }
  where
    -- no samples complete no byte, of which a write could lack a part
    some : (ys : List ℤ) → TakesSamples s f xs xs ys → 0 < length ys
    some [] t =
        let size = ap length (sym t.code_is) ∙ ap (λ l. length (complete_code s l)) (append-nil xs) in
        let few : length f.sink < 8 = omega (arith, size, length-append (whole_part (complete_code s xs)) f.sink, length-part (complete_code s xs)) in
        absurd (part.short (nil_from_length part.missing (omega (arith, ap length (sym part.split ∙ whole_short f.sink few), length-append part.front part.missing))))
    some (y ∷ ys) t = omega arith

-- nothing is coded of no samples
pub settled_nothing : (s : Parameters) → complete_samples s [] ≡ []
settled_nothing s = take-nil (cut s 0)

no_blocks : (s : Parameters) → 1 ≤ s.block → block_count s 0 ≡ 0
no_blocks s j = by_block s.block j
  where
    by_block : (j : ℕ) → 1 ≤ j → div_ceil 0 j ≡ 0
    by_block j h = omega arith

-- no samples have no code
pub code_nothing : (s : Parameters) → 1 ≤ s.block → code s [] ≡ []
code_nothing s j = ap (λ n. layout s (0 + n) 0 0 (data_sets s 0 false (blocks_from s 0 (pos 0) n (filled_samples s (pos 0) [])))) (no_blocks s j)

-- no bits and no steps
pub sets_nothing : (s : Parameters) → 1 ≤ s.block → (code_bits s [] ≡ 0) × (least_steps s [] ≡ 0) × (most_steps s [] ≡ 0)
sets_nothing s j =
    let none = no_blocks s j in
    let bits : code_bits s [] ≡ 0 = ap (λ n. sum_by (λ d. length (bits_of_set s d)) (data_sets s 0 false (blocks_from s 0 (pos 0) n (filled_samples s (pos 0) [])))) none in
    let least : least_looks_at s [] ≡ 0 = ap (λ n. sum_by (least_looks s) (blocks_from s 0 (pos 0) n (filled_samples s (pos 0) []))) none in
    let most : most_looks_at s [] ≡ 0 = ap (λ n. sum_by (most_looks s) (blocks_from s 0 (pos 0) n (filled_samples s (pos 0) []))) none in
    (bits, omega (arith, bits, least), omega (arith, bits, most))

-- the end of the samples
pub samples_end : {s : Parameters} {old : Beginning} {now : Option Room} {e : EncodingValue} {r : Report} {sink end : List Bool} {xs : List ℤ} {n : ℕ} → IsEncodingOf s old now e xs →
    AddsCode e.coder.setting (complete_samples e.coder.setting xs) xs e.sink sink n (fill_count e.coder.setting (length xs)) e.meter r.steps → r.bits ≡ e.bits + n
    → r.samples ≡ e.samples → end ≡ sink ++ replicate (bits_to_byte (length sink)) false →
    ReportsAll s r xs × (padded_bits (code s xs) ≡ whole_part (complete_code s xs) ++ end)
samples_end {s} {old} {now} {e} {r} {sink} {xs} {n} h finishes bits samples fill =
    let t : AddsCode s (complete_samples s xs) xs e.sink sink n (fill_count s (length xs)) e.meter r.steps = subst
    (λ (t : Parameters). AddsCode t (complete_samples t xs) xs e.sink sink n (fill_count t (length xs)) e.meter r.steps) h.counts.setting finishes in
    let k = t.code_is (sink_place s old now e xs h) in
    let part = whole_part (complete_code s xs) in
    let all : part ++ sink ≡ code s xs = ap (λ l. part ++ l) k.appended ∙ sym (append_assoc part e.sink k.bits) ∙ ap (λ l. l ++ k.bits) (sink_goes_on s old now e xs h) ∙ sym k.completes in
    let size : length (code s xs) ≡ length part + length sink = ap length (sym all) ∙ length-append part sink in
    let gap : bits_to_byte (length sink) ≡ bits_to_byte (length (code s xs)) = omega (arith, size, length-part (complete_code s xs)) in (
      record {
        samples = samples ∙ h.counts.samples;
        bits = omega (arith, bits, t.bits, h.counts.bits);
        least = omega (arith, t.steps.least, h.counts.least);
        most = omega (arith, t.steps.most, h.counts.most);
      },
      (λ i. sym all i ++ replicate (sym gap i) false) ∙ append_assoc part sink (replicate (bits_to_byte (length sink)) false) ∙ ap (λ l. part ++ l) (sym fill),
    )

-- where the outlet fails after other samples, others stand before them
pub fails_after : {s : Parameters} {old : Beginning} {new : Option Room} {e : EncodingValue} {xs more : List ℤ} {bytes rest : List ℕ} → Reads s bytes more rest
    → MeetsFailure s old new e (xs ++ more) rest → MeetsFailure s old new e xs bytes
fails_after {s} {old} {new} {e} {xs} {more} {bytes} {rest} reads m = record {
  more = more ++ m.more;
  last = m.last;
  rest = m.rest;
  reads = subst (λ (ys : List ℤ). Reads s bytes ys m.rest) (sym (append_assoc more m.more (m.last ∷ []))) (reads_then s bytes rest m.rest more (m.more ++ m.last ∷ []) reads m.reads);
  fails = subst (λ (ys : List ℤ). FailsAt s old new e ys m.last) (append_assoc xs more m.more) m.fails;
}

-- an encoding that holds nothing puts no code ahead
pub nothing_held : {s : Parameters} {v : EncodingValue} {xs : List ℤ} → CountsSamples s v xs → cut s (length xs) ≡ length xs → v.coder.residuals ≡ []
nothing_held {v = v} {xs = xs} k all = ap (λ c. c.residuals) (holds_nothing v.coder xs k.stands (ap (λ t. cut t (length xs)) k.setting ∙ all))

-- what is counted is the same with other bits in the sink
pub counts_with : {s : Parameters} {v : EncodingValue} {xs : List ℤ} (sink : List Bool) → CountsSamples s v xs
    → CountsSamples s (record { samples = v.samples; coder = v.coder; sink = sink; meter = v.meter; bits = v.bits }) xs
counts_with sink k = record { setting = k.setting; stands = k.stands; samples = k.samples; bits = k.bits; least = k.least; most = k.most }

-- nothing is written of no samples
pub nothing_early : (s : Parameters) → 1 ≤ s.block → early_output s [] ≡ []
unfolding whole_bytes
nothing_early s j = ap whole_bytes (ap (code s) (settled_nothing s) ∙ code_nothing s j)
