-- The room that is reported for a call suffices: one that wants room had less.
use Rattle.rice_calls.proofs.Words.{◌≡◌, ◌≢◌, ℕ, ◌+◌, ◌*◌, ◌/◌, ◌<◌, ◌≤◌, cond, Bool, true, false, List, [], ◌∷◌, ◌++◌, length, take, replicate, Option, Some, None, inl, inr, ◌⊎◌, refl, ◌∙◌, ap}
use Rattle.rice_calls.proofs.Words.{arith, length-append, ℤ, pos, All, div_ceil, Consumes, mul-le-mul_left, mul-le-mul_right, div-add-mod, mod-lt, cases_lt, nat_tests, div_ceil_times}
use Rattle.rice_calls.proofs.Words.{length-replicate, length-take, All-take, bits_in_bytes, bits_to_byte, padded_bits, whole_bytes, bits_of-whole_bytes, length-bits_of, Parameters, IsLegal, IsSample}
use Rattle.rice_calls.proofs.Words.{width, block_count, interval_count, cut, spellings, block_bound, bit_bound, padding_bound, padded_bound, code, output, early_output, padding_is_bounded}
use Rattle.rice_calls.proofs.Words.{code_is_bounded, zero_is_sample, length-spellings, Call, StopsBetween, Encodes, FailsAfter, FailsAtEnd, Decodes, Report, Fault, Read, Write, TooLong}
use Rattle.rice_calls.proofs.Words.{SampleOutOfRange, SampleCut, CodeEnds, RunPastSegment, ResidualTooLarge, code_room, status_number, fault_status}

-- ---- more samples want no less room

div_ceil_le : (m n d : ℕ) → 1 ≤ d → m ≤ n → div_ceil m d ≤ div_ceil n d
div_ceil_le m n d some le = at (div_ceil m d) (div_ceil n d) (div_ceil_times m d some).1 (div_ceil_times n d some).0
  where
    at : (a b : ℕ) → a * d < m + d → n ≤ b * d → a ≤ b
    at a b few enough = elim (cases_lt b a) [
      | inl lt ↦ absurd (let p : (b + 1) * d ≤ a * d = mul-le-mul_right d (omega arith) in omega arith)
      | inr le ↦ le
    ]

padding_le : (pad : Bool) (a b : ℕ) → a ≤ b → cond pad (7 * a) 0 ≤ cond pad (7 * b) 0
padding_le true a b le = omega arith
padding_le false a b le = omega arith

-- more samples have no lesser bound
pub bound_le : (s : Parameters) (m n : ℕ) → IsLegal s → m ≤ n → padded_bound s m ≤ padded_bound s n
bound_le s m n legal le =
    let j : 1 ≤ s.block = let k : 2 ≤ s.block = grind (arith, legal.block) in omega arith in
    let blocks : block_count s m ≤ block_count s n = div_ceil_le m n s.block j le in
    let bits : bit_bound s m ≤ bit_bound s n = mul-le-mul_right (block_bound s) blocks in
    let pads : padding_bound s m ≤ padding_bound s n = padding_le s.pad (interval_count s m) (interval_count s n)
    (div_ceil_le (block_count s m) (block_count s n) s.interval legal.interval_from blocks) in
    omega arith

-- ---- code takes no more

-- whole bytes have no more bits than there are
pub few_whole : (bits : List Bool) → 8 * length (whole_bytes bits) ≤ length bits
few_whole bits = omega (arith, length-bits_of (whole_bytes bits), ap length (bits_of-whole_bytes bits), length-take (bits_in_bytes (length bits)) bits)

-- a code is within its bound
code_fits : (s : Parameters) (xs : List ℤ) → IsLegal s → All (IsSample s) xs → length (code s xs) ≤ padded_bound s (length xs)
code_fits s xs legal samples = omega (arith, padding_is_bounded s legal xs samples, code_is_bounded s legal 0 (pos 0) xs (zero_is_sample s legal.bits_from) samples)

-- so its bytes are within the room that is reported
pub output_fits : (s : Parameters) (xs : List ℤ) (n : ℕ) → IsLegal s → All (IsSample s) xs → length xs ≤ n → length (output s xs) ≤ code_room s n
output_fits s xs n legal samples le =
    let c = code s xs in
    let bound : length c ≤ padded_bound s (length xs) = code_fits s xs legal samples in
    let more = bound_le s (length xs) n legal le in
    let filled : length (padded_bits c) ≤ length c + 7 = omega (arith, length-append c (replicate (bits_to_byte (length c)) false), length-replicate (bits_to_byte (length c)) false) in
    omega (arith, few_whole (padded_bits c), (div_ceil_times (padded_bound s n) 8 (omega arith)).0)

-- and those of whole segments are
early_fits : (s : Parameters) (xs : List ℤ) (n : ℕ) → IsLegal s → All (IsSample s) xs → length xs ≤ n → length (early_output s xs) ≤ code_room s n
early_fits s xs n legal samples le =
    let zs = take (cut s (length xs)) xs in
    let bound : length (code s zs) ≤ padded_bound s (length zs) = code_fits s zs legal (All-take (IsSample s) (cut s (length xs)) xs samples) in
    let more = bound_le s (length zs) n legal (omega (arith, length-take (cut s (length xs)) xs)) in
    omega (arith, few_whole (code s zs), (div_ceil_times (padded_bound s n) 8 (omega arith)).0)

-- ---- a call that wants for room

-- what stops before the end is shorter
pub stops_short : (from to text : List ℕ) → StopsBetween from to text → length text < length to
stops_short from to text h = some h.missing h.short (ap length h.stops ∙ length-append text h.missing)
  where
    some : (l : List ℕ) → l ≢ [] → length to ≡ length text + length l → length text < length to
    some [] e same = absurd (e refl)
    some (x ∷ l) e same = omega arith

-- so many samples are spelled by the bytes
pub few_samples : (s : Parameters) (xs : List ℤ) (given rest input left : List ℕ) → IsLegal s → given ≡ spellings s xs ++ rest
    → Consumes (Some input) (Some left) given → length xs ≤ length input / width s
few_samples s xs given rest input left legal split gave =
    at (width s) (length xs) (length input) (grind (arith, nat_tests))
    (omega (arith, length-spellings s xs, ap length split, length-append (spellings s xs) rest, ap length gave, length-append given left))
  where
    at : (w n m : ℕ) → 1 ≤ w → w * n ≤ m → n ≤ m / w
    at w n m some le =
        let parts = div-add-mod m w in
        let few = mod-lt m some in
        elim (cases_lt (m / w) n) [
          | inl lt ↦ absurd (let p : w * (m / w + 1) ≤ w * n = mul-le-mul_left w (omega arith) in omega (arith, parts, few, p))
          | inr le ↦ le
        ]

-- encoding that wants room had less than is reported
pub encode_wants : (s : Parameters) (c : Call) (r : Report) (input left : List ℕ) → IsLegal s → Consumes (Some input) (Some left) c.given
    → Encodes s c r (Some Write) → length c.written < code_room s (length input / width s)
encode_wants s c r input left legal gave e = by_end e.ends.1
  where
    by_end : FailsAfter s c r e.samples ⊎ FailsAtEnd s c r e.samples → length c.written < code_room s (length input / width s)
    by_end (inl h) =
        let few = few_samples s e.samples c.given h.given.0 input left legal h.given.1.split gave in
        omega (arith, stops_short _ _ c.written h.stops, early_fits s e.samples (length input / width s) legal h.given.1.legal few)
    by_end (inr h) =
        let few = few_samples s e.samples c.given h.given.rest input left legal h.given.whole gave in
        omega (arith, stops_short _ _ c.written h.stops, output_fits s e.samples (length input / width s) legal h.given.legal few)

-- decoding that wants room had less than the samples asked for take
pub decode_wants : (s : Parameters) (count : ℕ) (c : Call) (r : Report) → Decodes s (Some count) c r (Some Write) → length c.written < count * width s
decode_wants s count c r d =
    let h = d.ends.0 in
    let ys = d.samples in
    let few : length ys ≤ count = omega (arith, h.count) in
    let bytes : width s * length ys ≤ width s * count = mul-le-mul_left (width s) few in
    omega (arith, stops_short _ _ c.written h.stops, length-spellings s ys, bytes)

-- ---- which faults the statuses tell

-- the number of want of room is that of no other fault
pub write_of : (fault : Option Fault) → status_number (fault_status fault) ≡ 9 → fault ≡ Some Write
write_of None e = absurd cc
write_of (Some Read) e = absurd cc
write_of (Some Write) e = refl
write_of (Some TooLong) e = absurd cc
write_of (Some (SampleOutOfRange n)) e = absurd cc
write_of (Some (SampleCut n)) e = absurd cc
write_of (Some (CodeEnds n)) e = absurd cc
write_of (Some (RunPastSegment n)) e = absurd cc
write_of (Some (ResidualTooLarge n)) e = absurd cc

-- and 0 is that of none
pub none_of : (fault : Option Fault) → status_number (fault_status fault) ≡ 0 → fault ≢ Some Read → fault ≡ None
none_of None e reads = refl
none_of (Some Read) e reads = absurd (reads refl)
none_of (Some Write) e reads = absurd cc
none_of (Some TooLong) e reads = absurd cc
none_of (Some (SampleOutOfRange n)) e reads = absurd cc
none_of (Some (SampleCut n)) e reads = absurd cc
none_of (Some (CodeEnds n)) e reads = absurd cc
none_of (Some (RunPastSegment n)) e reads = absurd cc
none_of (Some (ResidualTooLarge n)) e reads = absurd cc
