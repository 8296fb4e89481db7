-- What was encoded comes back.
use Rattle.rice_stream.proofs.Words.{◌≡◌, ℕ, ◌+◌, ◌*◌, ◌<◌, ◌≤◌, cond, Bool, true, false, List, [], ◌∷◌, ◌++◌, length, length-append, replicate, refl, ap, arith, sym, ◌∙◌, ◌⊎◌, inl, inr, subst}
use Rattle.rice_stream.proofs.Words.{append_assoc, append-nil, Option, Some, None, ℤ, pos, All, IsSome, div_ceil, mul_assoc, mul-le-mul_left, mul-le-mul_right, nat_tests, div_ceil_times}
use Rattle.rice_stream.proofs.Words.{length-replicate, Consumes, IsAtEnd, bits_of-append, ⊤, bits_of-padded, length-bits_of, Parameters, IsLegal, IsSample, id_len, width, block_count, interval_count}
use Rattle.rice_stream.proofs.Words.{spellings, zero_is_sample, code, output, Decoded, blocks_in_all, Ending, EndsWith, Reached, Ended, CutOff, Past, Large, decoded_is_one, padding_is_bounded}
use Rattle.rice_stream.proofs.Words.{code_is_bounded, length-spellings, spellings-append, bits_of, bits_to_byte, Call, PassesLimit, DecodesBytes, EndsDecoding, ReturnsBytes, ReturnsBytesAndFill}
use Rattle.rice_stream.proofs.Words.{Fault, Read, Write, TooLong, CodeEnds, RunPastSegment, ResidualTooLarge, CodedDataSet, BeginsUnsound, lt_of_mul-lt-mul_left}
use Rattle.rice_stream.proofs.lemmas.EncodingBounds.{block_bound_le}
use Rattle.rice_code.proofs.lemmas.meaning.SamplesAreReturned as returned

-- it does not end where the bits do
abbrev pub EndsBefore : Ending → Type 0
EndsBefore Ended = ⊥
EndsBefore CutOff = ⊥
EndsBefore _ = ⊤

-- bits that begin unsoundly do so with more after them
pub unsound_on : (s : Parameters) (b used : ℕ) (left far : List Bool) (P : CodedDataSet → Type 0) → BeginsUnsound s b left used P → BeginsUnsound s b (left ++ far) used P
unsound_on s b used left far P u = record {
  refused = u.refused;
  more = u.more ++ far;
  form = u.form;
  unsound = u.unsound;
  begins = ap (λ l. l ++ far) u.begins ∙ append_assoc _ u.more far;
  bits = u.bits;
}

-- what follows the bits does not matter then
ends_before : (s : Parameters) (asked : Option ℕ) (b : ℕ) (rest more : List Bool) (ending : Ending) (used : ℕ) → EndsBefore ending
    → EndsWith s asked b rest ending used → EndsWith s asked b (rest ++ more) ending used
ends_before s asked b rest more Reached used early e = e
ends_before s asked b rest more Past used early e = (e.0, unsound_on s b used rest more _ e.1)
ends_before s asked b rest more Large used early e = (e.0, unsound_on s b used rest more _ e.1)
ends_before s asked b rest more _ used early e = absurd early

-- the coded data sets decode so with another rest that ends decoding
pub with_rest : {s : Parameters} {asked : Option ℕ} {bits all : List Bool} {xs : List ℤ} {ending : Ending} {used : ℕ} (d : Decoded s bits asked xs ending used) (left : List Bool)
    → all ≡ d.front ++ left → EndsWith s asked (0 + length (blocks_in_all s 0 d.sets)) left ending d.last → Decoded s all asked xs ending used
with_rest d left parts ends = record {
  sets = d.sets;
  front = d.front;
  rest = left;
  parts = parts;
  lie = d.lie;
  taken = d.taken;
  all = d.all;
  legal = d.legal;
  len = d.len;
  blocks = d.blocks;
  asked_for = d.asked_for;
  last = d.last;
  ends = ends;
  bits_used = d.bits_used;
}

-- what ends before the bits do decodes so with more after it
pub decoded_before : (s : Parameters) (asked : Option ℕ) (bits more : List Bool) (xs : List ℤ) (ending : Ending) (used : ℕ) → EndsBefore ending
    → Decoded s bits asked xs ending used → Decoded s (bits ++ more) asked xs ending used
decoded_before s asked bits more xs ending used early d = with_rest d (d.rest ++ more) (ap (λ l. l ++ more) d.parts ∙ append_assoc d.front d.rest more)
    (ends_before s asked _ d.rest more ending d.last early d.ends)

-- what the first of some bytes decode to, where that ends before them, all do
from_front : {s : Parameters} → IsLegal s → {asked : Option ℕ} {bytes : List ℕ} {xs ys : List ℤ} (front left : List ℕ) {ending known : Ending} {used all : ℕ}
    → bytes ≡ front ++ left → EndsBefore ending → Decoded s (bits_of front) asked ys ending used → Decoded s (bits_of bytes) asked xs known all → (ys ≡ xs) × (ending ≡ known)
from_front {s} legal {asked} {bytes} {xs} {ys} front left {ending} {known} {used} {all} split early d whole =
    let more = decoded_before s asked (bits_of front) (bits_of left) ys ending used early d in
    let bits : bits_of front ++ bits_of left ≡ bits_of bytes = sym (bits_of-append front left) ∙ ap bits_of (sym split) in
    let there = subst (λ (l : List Bool). Decoded s l asked ys ending used) bits more in
    let one = decoded_is_one legal (zero_is_sample s legal.bits_from) there whole in
    (one.0, one.1)

-- no output is longer than a decoder takes
few_pads : (s : Parameters) (b : ℕ) → 1 ≤ s.interval → div_ceil b s.interval ≤ b
few_pads s b some = at b (div_ceil b s.interval) s.interval some (div_ceil_times b s.interval some).1
  where
    at : (b c r : ℕ) → 1 ≤ r → c * r < b + r → c ≤ b
    at b c r some few = let q : b * 1 ≤ b * r = mul-le-mul_left b some in let lt : c < b + 1 = lt_of_mul-lt-mul_left r (omega arith) in omega arith

-- a code is no longer than its blocks sent as they are
code_short : (s : Parameters) → IsLegal s → (xs : List ℤ) → All (IsSample s) xs → length (code s xs) ≤ block_count s (length xs) * (id_len s + 1 + s.block * s.bits) + 7 * block_count s (length xs)
code_short s legal xs k =
    let bits = padding_is_bounded s legal xs k in
    let count = code_is_bounded s legal 0 (pos 0) xs (zero_is_sample s legal.bits_from) k in
    let pads = by_pad s.pad (interval_count s (length xs)) (block_count s (length xs)) (few_pads s (block_count s (length xs)) legal.interval_from) in
    let each = mul-le-mul_left (block_count s (length xs)) (block_bound_le s legal) in
    omega (arith, bits, count, pads, each)
  where
    by_pad : (pad : Bool) (c b : ℕ) → c ≤ b → cond pad (7 * c) 0 ≤ 7 * b
    by_pad true c b h = omega arith
    by_pad false c b h = omega arith

output_bits : (s : Parameters) (xs : List ℤ) → 8 * length (output s xs) ≤ length (code s xs) + 7
output_bits s xs =
    let bits = code s xs in
    let n = bits_to_byte (length bits) in
    omega (arith, length-bits_of (output s xs), ap length (bits_of-padded bits), length-append bits (replicate n false), length-replicate n false)

-- so the output of samples within their limit is within the limit of a code
output_short : (s : Parameters) → IsLegal s → (xs : List ℤ) → All (IsSample s) xs → width s * length xs ≤ 281474976710656 → length (output s xs) ≤ 562949953421312
output_short s legal xs k limit =
    let j : 2 ≤ s.block = grind (arith, legal.block) in
    let most : s.block ≤ 64 = grind (arith, legal.block) in
    let i : id_len s ≤ 5 = grind (arith, nat_tests) in
    let some : 1 ≤ width s = grind (arith, nat_tests) in
    let few : width s ≤ 4 = grind (arith, nat_tests) in
    let holds : s.bits ≤ 8 * width s = grind (arith, nat_tests, legal.bits_to) in
    at s.block (length xs) (block_count s (length xs)) (id_len s + 1) s.bits (width s) (length (code s xs)) (length (output s xs)) j most (omega (arith, i))
    some few holds limit (div_ceil_times (length xs) s.block (omega arith)).1 (code_short s legal xs k) (output_bits s xs)
  where
    sums : (b id x z w m bits bytes : ℕ) → b * id ≤ 6 * b → b * x ≤ 8 * z → z ≤ w * m + 256 → 2 * b ≤ m + 64 → m ≤ w * m → w * m ≤ 281474976710656
        → bits ≤ b * (id + x) + 7 * b → 8 * bytes ≤ bits + 7 → bytes ≤ 562949953421312
    sums b id x z w m bits bytes h f g few some limit most whole = omega arith

    at : (j m b id n w bits bytes : ℕ) → 2 ≤ j → j ≤ 64 → id ≤ 6 → 1 ≤ w → w ≤ 4 → n ≤ 8 * w → w * m ≤ 281474976710656 → b * j < m + j
        → bits ≤ b * (id + j * n) + 7 * b → 8 * bytes ≤ bits + 7 → bytes ≤ 562949953421312
    at j m b id n w bits bytes lo hi h some four holds limit few most whole =
        let first : b * id ≤ b * 6 = mul-le-mul_left b h in
        let each : b * j * n ≤ b * j * (8 * w) = mul-le-mul_left (b * j) holds in
        let same : b * (j * n) ≡ b * j * n = sym (mul_assoc b j n) in
        let eight : b * j * (8 * w) ≡ 8 * (b * j * w) = omega arith in
        let z : b * j * w ≤ (m + j) * w = mul-le-mul_right w (omega arith) in
        let all : (m + j) * w ≤ w * m + 256 = (let p : j * w ≤ 64 * w = mul-le-mul_right w hi in omega arith) in
        let blocks : b * 2 ≤ b * j = mul-le-mul_left b lo in
        let more : m * 1 ≤ m * w = mul-le-mul_left m some in
        sums b id (j * n) (b * j * w) w m bits bytes (omega arith) (omega (arith, same, each, eight)) (omega (arith, z, all)) (omega (arith, blocks, few, hi)) (omega arith) limit most whole

-- What a call that decodes was given of the bytes that a call has written.
given_of : (encoding decoding : Call) → Consumes (Some encoding.written) decoding.left decoding.given → (rest : List ℕ) × (encoding.written ≡ decoding.given ++ rest)
given_of encoding decoding consumed = by_left decoding.left consumed
  where
    by_left : (left : Option (List ℕ)) → Consumes (Some encoding.written) left decoding.given → (rest : List ℕ) × (encoding.written ≡ decoding.given ++ rest)
    by_left None c = absurd c
    by_left (Some rest) c = (rest, c)

-- where nothing is left of them, all were given
all_given : (encoding decoding : Call) → Consumes (Some encoding.written) decoding.left decoding.given → IsAtEnd decoding.left → decoding.given ≡ encoding.written
all_given encoding decoding consumed end = by_left decoding.left consumed end
  where
    by_left : (left : Option (List ℕ)) → Consumes (Some encoding.written) left decoding.given → IsAtEnd left → decoding.given ≡ encoding.written
    by_left None c end = absurd c
    by_left (Some rest) c end = sym (append-nil decoding.given) ∙ ap (λ l. decoding.given ++ l) (sym end) ∙ sym c

-- what a call encoded, of no more bytes than a call may take
record EncodedWithin (s : Parameters) (encoding : Call) (xs : List ℤ) : Type 0 where
  written_is : encoding.written ≡ output s xs
  given_is : encoding.given ≡ spellings s xs
  within : length encoding.given ≤ 281474976710656

-- an output does not pass the limit of a code
not_too_long : {s : Parameters} (encoding decoding : Call) → IsLegal s → (xs : List ℤ) → All (IsSample s) xs → {front : List ℕ} → EncodedWithin s encoding xs
    → Consumes (Some encoding.written) decoding.left decoding.given → PassesLimit 562949953421312 decoding.given front → ⊥
not_too_long {s} encoding decoding legal xs k {front} encoded consumed passes =
    let given = ap length passes.split ∙ length-append front (passes.last ∷ []) in
    let parts = given_of encoding decoding consumed in
    let whole = ap length (sym encoded.written_is ∙ parts.1) ∙ length-append decoding.given parts.0 in
    let spelled = ap length encoded.given_is ∙ length-spellings s xs in
    let short = output_short s legal xs k (omega (arith, spelled, encoded.within)) in
    omega (arith, given, passes.full, whole, short)

-- A call that is given what another encoded, and the number of its samples, writes the bytes that were encoded, unless a device fails.
pub returns_bytes : ReturnsBytes
returns_bytes s legal enc dec encoded decoded fault encodes consumed decodes = by_fault fault decodes.ends
  where
    xs : List ℤ
    xs = encodes.samples

    n : encoded.samples ≡ length xs
    n = encodes.ends.2.reports.samples

    written : enc.written ≡ output s xs
    written = encodes.ends.2.written

    ys : List ℤ
    ys = decodes.samples

    bytes : enc.given ≡ spellings s xs
    bytes = encodes.ends.0.whole ∙ ap (λ l. spellings s xs ++ l) encodes.ends.0.stops ∙ append-nil (spellings s xs)

    Ends : Option Fault → Type 0
    Ends fault = ((fault ≡ None) × (dec.written ≡ enc.given)) ⊎ ((fault ≡ Some Read) ⊎ (fault ≡ Some Write))

    all : (used : ℕ) × Decoded s (bits_of (output s xs)) (Some (length xs)) xs Reached used
    all = returned.returns_samples s legal xs encodes.ends.0.legal

    at_front : DecodesBytes s (Some encoded.samples) dec decoded dec.given ys decodes.ending → EndsBefore decodes.ending → (ys ≡ xs) × (decodes.ending ≡ Reached)
    at_front d early =
        let parts = given_of enc dec consumed in
        from_front legal dec.given parts.0 (sym written ∙ parts.1) early
        (subst (λ (m : ℕ). Decoded s (bits_of dec.given) (Some m) ys decodes.ending d.0) n d.1) all.1

    not_at_end : IsAtEnd dec.left → DecodesBytes s (Some encoded.samples) dec decoded dec.given ys decodes.ending
        → (decodes.ending ≡ CutOff) ⊎ ((decodes.ending ≡ Ended) × IsSome (Some encoded.samples)) → ⊥
    not_at_end end d ends =
        let whole : dec.given ≡ output s xs = all_given enc dec consumed end ∙ written in
        let there = subst (λ (l : List ℕ). Decoded s (bits_of l) (Some (length xs)) ys decodes.ending d.0) whole
        (subst (λ (m : ℕ). Decoded s (bits_of dec.given) (Some m) ys decodes.ending d.0) n d.1) in
        let one = decoded_is_one legal (zero_is_sample s legal.bits_from) there all.1 in
        let reached = one.1 in
        elim ends [ inl e ↦ absurd cc | inr e ↦ absurd (let ended = e.0 in cc) ]

    by_fault : (fault : Option Fault) → EndsDecoding s (Some encoded.samples) fault dec decoded ys decodes.ending → Ends fault
    by_fault None (d, inl reached) = inl (refl, d.2.written ∙ ap (spellings s) (at_front d (rw reached tt)).0 ∙ sym bytes)
    by_fault None (d, inr (ended, none, end)) = absurd cc
    by_fault (Some Read) h = inr (inl refl)
    by_fault (Some Write) h = inr (inr refl)
    by_fault (Some TooLong) h = absurd (not_too_long enc dec legal xs encodes.ends.0.legal (record { written_is = written; given_is = bytes; within = encodes.limit }) consumed h.0.1)
    by_fault (Some (CodeEnds samples)) (d, ends, end, count) = absurd (not_at_end end d ends)
    by_fault (Some (RunPastSegment block)) (d, past, count) = absurd (let reached = (at_front d (rw past tt)).1 in cc)
    by_fault (Some (ResidualTooLarge block)) (d, large, count) = absurd (let reached = (at_front d (rw large tt)).1 in cc)
    by_fault _ h = absurd h

-- and one that is not given the number writes these bytes and the spellings of fewer than 64 blocks of samples more
pub returns_bytes_and_fill : ReturnsBytesAndFill
returns_bytes_and_fill s legal enc dec encoded decoded fault encodes consumed decodes = by_fault fault decodes.ends
  where
    xs : List ℤ
    xs = encodes.samples

    ys : List ℤ
    ys = decodes.samples

    written : enc.written ≡ output s xs
    written = encodes.ends.2.written

    bytes : enc.given ≡ spellings s xs
    bytes = encodes.ends.0.whole ∙ ap (λ l. spellings s xs ++ l) encodes.ends.0.stops ∙ append-nil (spellings s xs)

    all : (fill : List ℤ) × (length fill < 64 * s.block) × Decoded s (bits_of (output s xs)) None (xs ++ fill) Ended (length (bits_of (output s xs)))
    all = returned.returns_samples_and_fill s legal xs encodes.ends.0.legal

    Ends : Option Fault → Type 0
    Ends fault = ((fault ≡ None) × (fill : List ℤ) × (length fill < 64 * s.block) × (dec.written ≡ enc.given ++ spellings s fill)) ⊎ ((fault ≡ Some Read) ⊎ (fault ≡ Some Write))

    at_front : DecodesBytes s None dec decoded dec.given ys decodes.ending → EndsBefore decodes.ending → decodes.ending ≡ Ended
    at_front d early =
        let parts = given_of enc dec consumed in
        (from_front legal dec.given parts.0 (sym written ∙ parts.1) early d.1 all.2).1

    at_end : IsAtEnd dec.left → DecodesBytes s None dec decoded dec.given ys decodes.ending → (ys ≡ xs ++ all.0) × (decodes.ending ≡ Ended)
    at_end end d =
        let there = subst (λ (l : List ℕ). Decoded s (bits_of l) None ys decodes.ending d.0) (all_given enc dec consumed end ∙ written) d.1 in
        let one = decoded_is_one legal (zero_is_sample s legal.bits_from) there all.2 in
        (one.0, one.1)

    by_fault : (fault : Option Fault) → EndsDecoding s None fault dec decoded ys decodes.ending → Ends fault
    by_fault None (d, inl reached) = absurd (let ended = at_front d (rw reached tt) in cc)
    by_fault None (d, inr (ended, none, end)) =
        inl (refl, all.0, all.1, d.2.written ∙ ap (spellings s) (at_end end d).0 ∙ spellings-append s xs all.0 ∙ ap (λ l. l ++ spellings s all.0) (sym bytes))
    by_fault (Some Read) h = inr (inl refl)
    by_fault (Some Write) h = inr (inr refl)
    by_fault (Some TooLong) h = absurd (not_too_long enc dec legal xs encodes.ends.0.legal (record { written_is = written; given_is = bytes; within = encodes.limit }) consumed h.0.1)
    by_fault (Some (CodeEnds samples)) (d, inl cut, end, count) = absurd (let ended = (at_end end d).1 in cc)
    by_fault (Some (CodeEnds samples)) (d, inr (ended, some), end, count) = absurd (let no : false ≡ true = some in cc)
    by_fault (Some (RunPastSegment block)) (d, past, count) = absurd (let ended = at_front d (rw past tt) in cc)
    by_fault (Some (ResidualTooLarge block)) (d, large, count) = absurd (let ended = at_front d (rw large tt) in cc)
    by_fault _ h = absurd h
