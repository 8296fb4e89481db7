-- The code between two segments: what is kept of it, and how it goes on.
use Rattle.std.proofs.Common.{◌≡◌, ℕ, ◌+◌, ◌-◌, ◌*◌, ◌/◌, ◌%◌, ◌^◌, ◌<◌, ◌≤◌, ◌++◌, Bool, false, List, [], ◌∷◌, length, take, drop, replicate, slice_index_or, Option, Some, None, Err, refl, ap, sym}
use Rattle.std.proofs.Common.{◌∙◌, subst, arith, inl, inr, append-nil, length-append, take-append-drop, ℤ}
use Rattle.rice_stream.proofs.Words.{take_at, length-take-le, length-replicate, shr_below, mul-le-mul_left, mul-mod_right, div-add-mod, Room, Appends-nil, bits_of-padded, length-bits_of, length-word}
use Rattle.rice_stream.proofs.Words.{word-nil, word-split, Parameters, IsLegal, width, cut, Reads, spellings, cut_is_start, cut_is_greatest, early_output, HasTaken, state_between, holds_nothing}
use Rattle.rice_stream.proofs.Words.{between_all, some_width, length-spellings, lt_of_mul-lt-mul_left, bits_of, bits_to_byte, padded_bits, whole_bytes, word, ReportsTaken, ReportsAll, Beginning}
use Rattle.rice_stream.proofs.Words.{CountsSamples, IsEncodingOf, TakesAll, Pushes, WritesRest, IsSeam, after, encoding_at, bytes_in_all, samples_to_take, TakesPiece, EncodesMore, AreAll, EncodesRest}
use Rattle.rice_stream.proofs.Words.{EncodingValue, Fault, Write, SampleOutOfRange, SampleCut, Report, Seam}
use Rattle.rice_stream.proofs.lemmas.{EncodingLemmas.counts_small, SamplesOfFirstBytes.stops_before, SamplesOfFirstBytes.none_left, SamplesOfFirstBytes.few_more}

-- a list of no bits is the word of 0 of its length
pub no_bits : (bits : List Bool) → length bits ≡ 0 → word (length bits) 0 ≡ bits
no_bits [] e = word-nil 0
no_bits (x ∷ bits) e = absurd (omega arith)

-- the bytes of padded bits have these bits
spelled_by : (bits full : List Bool) (bytes : List ℕ) → full ≡ padded_bits bits → bytes ≡ whole_bytes full → bits_of bytes ≡ padded_bits bits
spelled_by bits full bytes f e = ap bits_of (e ∙ ap whole_bytes f) ∙ bits_of-padded bits

-- fewer than eight bits, padded, are one byte
one_long : (bits full : List Bool) (bytes : List ℕ) → full ≡ padded_bits bits → bytes ≡ whole_bytes full → 0 < length bits → length bits < 8 → length bytes ≡ 1
one_long bits full bytes f e some few =
    omega (arith, length-bits_of, ap length (spelled_by bits full bytes f e), length-append {A = Bool}, length-replicate {A = Bool})

-- some bits, fewer than eight, have at least one byte when they are padded
pub one_byte : (bits full : List Bool) (bytes : List ℕ) → full ≡ padded_bits bits → bytes ≡ whole_bytes full → 0 < length bits → length bits < 8 → 0 < length bytes
one_byte bits full bytes f e some few = omega (arith, one_long bits full bytes f e some few)

word_of_byte : (x : ℕ) → word 8 x ++ [] ≡ bits_of (x ∷ [])
unfolding bits_of
word_of_byte x = refl

-- whose high digits are the bits
pub byte_digits : (bits full : List Bool) (bytes : List ℕ) (k : ℕ) → full ≡ padded_bits bits → bytes ≡ whole_bytes full → 0 < length bits → length bits < 8
    → k ≡ length bits → word (length bits) (slice_index_or bytes 0 0 / 2 ^ (8 - k)) ≡ bits
byte_digits bits full [] k f e some few is = absurd (omega (arith, one_long bits full [] f e some few))
byte_digits bits full (x ∷ y ∷ l) k f e some few is = absurd (omega (arith, one_long bits full (x ∷ y ∷ l) f e some few))
byte_digits bits full (x ∷ []) k f e some few is =
    let n = length bits in
    let eight : n + (8 - k) ≡ 8 = omega arith in
    let high = word n (x / 2 ^ (8 - k)) in
    let split = word-split n (8 - k) x in
    let whole = ap (λ m. word m x) eight in
    sym (take_at high _ n (length-word n (x / 2 ^ (8 - k))))
    ∙ ap (take n) (sym split ∙ whole ∙ sym (append-nil (word 8 x)) ∙ word_of_byte x ∙ spelled_by bits full (x ∷ []) f e)
    ∙ take_at bits (replicate (bits_to_byte n) false) n refl

-- and are a number of so many digits
pub byte_fits : (x n k : ℕ) → x < 256 → n < 8 → k ≡ n → x / 2 ^ (8 - k) < 2 ^ n
byte_fits x n k byte few is = shr_below x n (8 - k) (let e : n + (8 - k) ≡ 8 = omega arith in subst (λ m. x < 2 ^ m) (sym e) byte)

-- ---- where the code goes on

-- an encoding that begins at a seam has taken its samples
pub encoding_is_resumed : (s : Parameters) (seam : Seam) (xs : List ℤ) (now : Option Room) → IsSeam s seam xs → IsEncodingOf s (after s xs now) now (encoding_at s seam) xs
encoding_is_resumed s seam xs now h = record {
  counts = h.counts;
  sink = h.waiting;
  took = record { more = []; split = sym (append-nil (early_output s xs)); took = Appends-nil now };
}

-- so many samples stand in at least as many bytes
pub few_all : (w n m : ℕ) → 1 ≤ w → w * n + m ≤ 281474976710656 → n + m ≤ 281474976710656
few_all w n m some le = let p : n * 1 ≤ n * w = mul-le-mul_left n some in omega (arith, p, le)

-- whole samples fit the bytes that they are taken from
pub fit_in : (w n k : ℕ) → k ≤ n / w → w * k ≤ n
fit_in w n k le = let p : w * k ≤ w * (n / w) = mul-le-mul_left w le in omega (arith, p, div-add-mod n w)

-- the steps so far leave room for those of what is still to come
pub few_steps_so_far : (s : Parameters) (seam : Seam) (xs : List ℤ) → IsSeam s seam xs → seam.steps < 4611686018427387904
few_steps_so_far s seam xs h =
    let small = (counts_small s (encoding_at s seam) xs h.counts).1 in
    omega (arith, small, few_all (width s) (length xs) 0 (some_width s) (omega (arith, h.limit)))

-- a seam has what the encoding has
pub record IsSeamOf (e : EncodingValue) (seam : Seam) : Type 0 where
  pub samples : seam.samples ≡ e.samples
  pub bits : seam.bits ≡ e.bits
  pub steps : seam.steps ≡ e.meter
  pub previous : seam.previous ≡ e.coder.previous
  pub start : seam.start ≡ e.coder.start
  pub waiting_bits : seam.waiting_bits ≡ length e.sink
  pub waiting : word (length e.sink) seam.waiting ≡ e.sink
  pub fits : seam.waiting < 2 ^ length e.sink

-- where the samples make whole segments, the encoding's place is a seam
pub seam_of : {s : Parameters} {old : Beginning} {now : Option Room} {e : EncodingValue} {seam : Seam} {xs : List ℤ} → IsEncodingOf s old now e xs
    → cut s (length xs) ≡ length xs → width s * length xs ≤ 281474976710656 →
    IsSeamOf e seam → length e.sink < 8 → IsSeam s seam xs
seam_of {s = s} {e = e} {seam = seam} {xs = xs} h all limit holds few =
    let nothing : e.coder ≡ state_between e.coder.setting e.coder.start e.coder.previous = holds_nothing e.coder xs h.counts.stands (ap (λ t. cut t (length xs)) h.counts.setting ∙ all) in
    let same : e.coder ≡ state_between s seam.start seam.previous = nothing ∙ (λ i. state_between (h.counts.setting i) (sym holds.start i) (sym holds.previous i)) in
    record {
      counts = record {
        setting = refl;
        stands = subst (λ c. HasTaken c xs) same h.counts.stands;
        samples = holds.samples ∙ h.counts.samples;
        bits = holds.bits ∙ h.counts.bits;
        least = omega (arith, holds.steps, h.counts.least);
        most = omega (arith, holds.steps, h.counts.most);
      };
      waiting = ap (λ n. word n seam.waiting) holds.waiting_bits ∙ holds.waiting ∙ h.sink;
      few = omega (arith, holds.waiting_bits, few);
      fits = subst (λ n. seam.waiting < 2 ^ n) (sym holds.waiting_bits) holds.fits;
      limit = limit;
    }

-- ---- what a piece gives

same_count : (w n m : ℕ) → 1 ≤ w → w * n ≡ w * m → n ≡ m
same_count w n m some e = grind (arith, e, some)

-- a cut is its own
pub cut_again : (s : Parameters) (m : ℕ) → IsLegal s → cut s (cut s m) ≡ cut s m
cut_again s m legal =
    let k = cut_is_start s legal m in
    let low = cut_is_greatest s legal (cut s m) k.0 k.2 (omega (arith, k.1)) in
    let high = (cut_is_start s legal (cut s m)).3 in
    omega (arith, low, high, k.1)

-- more samples make no fewer whole segments
pub cut_grows : (s : Parameters) (seam : Seam) (xs : List ℤ) (n : ℕ) → IsSeam s seam xs → length xs ≤ n → length xs ≤ cut s n
cut_grows s seam xs n h le =
    let legal = h.counts.stands.holds.legal in
    let k = cut_is_start s legal (length xs) in
    let all = between_all s seam.start seam.previous xs h.counts.stands in
    let up = cut_is_greatest s legal n k.0 k.2 (omega (arith, k.1, all, le)) in
    omega (arith, up, k.1, all)

-- The samples of whole segments are taken.
module _ {s : Parameters} {old new : Option Room} {e : EncodingValue} {at : Seam} {xs : List ℤ} (bytes : List ℕ) (count : ℕ) (h : IsSeam s at xs)
    (t : TakesAll s (after s xs old) new e xs (take (width s * count) bytes)) (is : length xs + count ≡ samples_to_take s xs bytes) (within : width s * count ≤ length bytes) where
  spelled : take (width s * count) bytes ≡ spellings s t.more
  spelled = none_left s t.more (take (width s * count) bytes) t.rest count t.reads t.ends (length-take-le (width s * count) bytes within)

  number : length t.more ≡ count
  number = same_count (width s) (length t.more) count (some_width s) (omega (arith, ap length spelled, length-spellings s t.more, length-take-le (width s * count) bytes within))

  all_taken : length (xs ++ t.more) ≡ samples_to_take s xs bytes
  all_taken = omega (arith, length-append xs t.more, number, is)

  -- the samples so far make whole segments
  pub all_whole : cut s (length (xs ++ t.more)) ≡ length (xs ++ t.more)
  all_whole = ap (cut s) all_taken ∙ cut_again s (length xs + length bytes / width s) h.counts.stands.holds.legal ∙ sym all_taken

  -- an encoding that ends between two segments leaves a seam
  pub goes_on : {seam : Seam} → bytes_in_all s xs bytes ≤ 281474976710656 → (width s * length (xs ++ t.more) ≤ 281474976710656 → IsSeam s seam (xs ++ t.more)) → TakesPiece s xs bytes old new seam
  goes_on limit stands =
      let part : width s * length (xs ++ t.more) ≡ width s * length xs + width s * length t.more = parts (width s) _ _ _ (length-append xs t.more) in
      let same : width s * length t.more ≡ width s * count = ap (λ m. width s * m) number in
      record {
        limit = limit;
        more = t.more;
        rest = drop (width s * count) bytes;
        reads = record { split = sym (take-append-drop (width s * count) bytes) ∙ ap (λ l. l ++ drop (width s * count) bytes) spelled; legal = t.reads.legal };
        all = all_taken;
        stands = stands (omega (arith, part, same, within, limit));
        writes = t.holds.took;
      }
    where
      parts : (w m n k : ℕ) → m ≡ n + k → w * m ≡ w * n + w * k
      parts w m n k e = ap (λ v. w * v) e ∙ (let p : w * (n + k) ≡ w * n + w * k = omega arith in p)

-- what stops it inside the bytes, with others after them
pub stopped_in : (s : Parameters) (old : Beginning) (new : Option Room) (e : EncodingValue) (xs : List ℤ) (bytes : List ℕ) (k : ℕ) (f : Fault)
    → Pushes {T = Unit {0}} s old new e xs (take k bytes) (Err f) → Pushes {T = Unit {0}} s old new e xs bytes (Err f)
stopped_in s old new e xs bytes k f h =
    subst (λ (l : List ℕ). Pushes {T = Unit {0}} s old new e xs l (Err f)) (take-append-drop k bytes)
    (stops_before s old new e xs (take k bytes) (drop k bytes) f h)

-- a sample that is refused is one of those that these bytes are of
refused_within : (s : Parameters) (more : List ℤ) (part rest : List ℕ) (count : ℕ) → Reads s part more rest → width s ≤ length rest → length part ≤ width s * count → length more < count
refused_within s more part rest count r wide few =
    lt_of_mul-lt-mul_left (width s) (omega (arith, some_width s, wide, few, ap length r.split, length-append (spellings s more) rest, length-spellings s more))

-- the samples that are to be taken of bytes are pushed, and a push stops
pub record StopsInBytes (s : Parameters) (old new : Option Room) (e : EncodingValue) (xs : List ℤ) (bytes : List ℕ) (count : ℕ) (f : Fault) : Type 0 where
  pub few : bytes_in_all s xs bytes ≤ 281474976710656
  pub count_is : length xs + count ≡ samples_to_take s xs bytes
  pub enough : width s * count ≤ length bytes
  pub pushes : Pushes {T = Unit {0}} s (after s xs old) new e xs (take (width s * count) bytes) (Err f)

-- why a piece is not taken whole
pub more_stops : (s : Parameters) (old new : Option Room) (e : EncodingValue) (xs : List ℤ) (bytes : List ℕ) (count : ℕ) (f : Fault)
    → StopsInBytes s old new e xs bytes count f → EncodesMore s xs bytes old new (Err f)
more_stops s old new e xs bytes count f stops = by_fault f stops.pushes (stopped_in s (after s xs old) new e xs bytes (width s * count) f stops.pushes)
  where
    by_fault : (f : Fault) → Pushes {T = Unit {0}} s (after s xs old) new e xs (take (width s * count) bytes) (Err f)
        → Pushes {T = Unit {0}} s (after s xs old) new e xs bytes (Err f) → EncodesMore s xs bytes old new (Err f)
    by_fault (SampleOutOfRange index) h m =
        let part = h.0 in
        let len : length (take (width s * count) bytes) ≤ width s * count = omega (arith, length-take-le (width s * count) bytes stops.enough) in
        let before = refused_within s part.more (take (width s * count) bytes) part.rest count part.reads part.ends.0 len in (
          m.0.more,
          record { limit = stops.few; rest = m.0.rest; reads = m.0.reads; ends = m.0.ends; index_is = m.1 ∙ m.0.holds.counts.samples; writes = m.0.holds.took },
          omega (arith, h.1, part.holds.counts.samples, length-append xs part.more, before, stops.count_is),
        )
    by_fault Write h m = (m.more, m.last, record { limit = stops.few; rest = m.rest; reads = m.reads; writes = m.fails.takes })
    by_fault _ h bad = absurd bad

-- ---- what the last piece gives

module _ (s : Parameters) (old new : Option Room) (e : EncodingValue) (r : Report) (xs : List ℤ) (bytes : List ℕ) (limit : bytes_in_all s xs bytes ≤ 281474976710656) where
  rest_stops_at : (f : Fault) → ((ys : List ℤ) → CountsSamples s e ys → ReportsTaken s r ys) → Pushes {T = Unit {0}} s (after s xs old) new e xs bytes (Err f)
      → EncodesRest s xs bytes old new r (Some f)
  rest_stops_at (SampleOutOfRange index) reported m = (
    m.0.more,
    record {
      limit = limit;
      rest = m.0.rest;
      reads = m.0.reads;
      ends = m.0.ends;
      index_is = m.1 ∙ m.0.holds.counts.samples;
      writes = m.0.holds.took;
    },
    reported (xs ++ m.0.more) m.0.holds.counts,
  )
  rest_stops_at Write reported m = inl (m.more, m.last, record { limit = limit; rest = m.rest; reads = m.reads; writes = m.fails.takes }, reported ((xs ++ m.more) ++ m.last ∷ []) m.fails.counts)
  rest_stops_at _ reported bad = absurd bad

  -- where a push stops in the last piece, its fault is what the piece tells
  pub rest_stops : (f : Fault) (g : Option Fault) → g ≡ Some f → ((ys : List ℤ) → CountsSamples s e ys → ReportsTaken s r ys)
      → Pushes {T = Unit {0}} s (after s xs old) new e xs bytes (Err f) → EncodesRest s xs bytes old new r g
  rest_stops f g is reported m = subst (EncodesRest s xs bytes old new r) (sym is) (rest_stops_at f reported m)

  -- a sample is cut off
  pub rest_cut : (index : ℕ) (g : Option Fault) → g ≡ Some (SampleCut index) → index ≡ e.samples → ((ys : List ℤ) → CountsSamples s e ys → ReportsTaken s r ys)
      → TakesAll s (after s xs old) new e xs bytes → 0 < length bytes % width s → EncodesRest s xs bytes old new r g
  rest_cut index g is same reported t cut_off = subst (EncodesRest s xs bytes old new r) (sym is) (
    t.more,
    record {
      limit = limit;
      rest = t.rest;
      reads = t.reads;
      ends = (λ none. absurd (omega (arith, whole none, cut_off)), t.ends);
      index_is = same ∙ t.holds.counts.samples;
      writes = t.holds.took;
    },
    reported (xs ++ t.more) t.holds.counts,
  )
    where
      whole : t.rest ≡ [] → length bytes % width s ≡ 0
      whole none = ap (λ n. n % width s) (ap length t.reads.split ∙ ap (λ l. length (spellings s t.more ++ l)) none
          ∙ ap length (append-nil (spellings s t.more)) ∙ length-spellings s t.more) ∙ mul-mod_right (width s) (length t.more)

  -- all are coded
  pub rest_all : (f : Option Fault) (t : TakesAll s (after s xs old) new e xs bytes) (last : Option Room) → length bytes % width s ≡ 0
      → ReportsAll s r (xs ++ t.more) → WritesRest s (after s xs old) last (xs ++ t.more) f → EncodesRest s xs bytes old last r f
  rest_all None t last whole reported wrote = (t.more, are_all, reported, wrote)
    where
      are_all : AreAll s xs bytes old last t.more
      are_all = record {
        limit = limit;
        spelled = none_left s t.more bytes t.rest (length bytes / width s) t.reads t.ends
            (omega (arith, div-add-mod (length bytes) (width s), whole));
        legal = t.reads.legal;
      }
  rest_all (Some Write) t last whole reported wrote = inr (t.more, are_all, reported, wrote)
    where
      are_all : AreAll s xs bytes old last t.more
      are_all = record {
        limit = limit;
        spelled = none_left s t.more bytes t.rest (length bytes / width s) t.reads t.ends
            (omega (arith, div-add-mod (length bytes) (width s), whole));
        legal = t.reads.legal;
      }
  rest_all _ t last whole reported bad = absurd bad

-- so few samples that all their steps are counted
pub takes_few : (s : Parameters) (old : Beginning) (new : Option Room) (e : EncodingValue) (xs : List ℤ) (bytes : List ℕ)
    → length xs + length bytes ≤ 281474976710656 → (t : TakesAll s old new e xs bytes) → length (xs ++ t.more) ≤ 281474976710656
takes_few s old new e xs bytes few t = omega (arith, few, length-append xs t.more, few_more s t.more bytes t.rest t.reads (some_width s))
