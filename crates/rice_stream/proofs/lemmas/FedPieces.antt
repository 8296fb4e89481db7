-- What is fed piece by piece is encoded as a whole.
use Rattle.rice_stream.proofs.Words.{◌≡◌, ℕ, ◌+◌, ◌-◌, ◌*◌, ◌/◌, ◌<◌, ◌≤◌, Bool, false, List, [], ◌∷◌, ◌++◌, length, length-drop, drop, take, replicate, refl, ap, sym, ◌∙◌, subst, arith, append_assoc}
use Rattle.rice_stream.proofs.Words.{append-nil, length-append, Some, ℤ, All, nat_tests, AllByRecursion, take-length, take_at, drop_at, length-take, All-append, All-from_recursion, All-head, All-nil}
use Rattle.rice_stream.proofs.Words.{All-tail, bits_of-padded, bits_of-whole_bytes, length-bits_of, length-word, Parameters, IsLegal, IsSample, width, cut, spelling, spellings, AreIntervals, code}
use Rattle.rice_stream.proofs.Words.{code_bits, early_output, output, Decoded, Reached, complete_code, state_between, between_all, complete_are_coded, intervals_are_decoded_alone}
use Rattle.rice_stream.proofs.Words.{intervals_are_joined, length-spelling, length-spellings, spellings-append, bits_in_bytes, bits_of, bits_to_byte, whole_bytes, IsSeam, Piece, AreFed, TakeInParts}
use Rattle.rice_stream.proofs.Words.{last_seam, place_after, FeedingIsEncoding, IsPlace, SeamsTellPlaces, Seam, one_sample}
use Rattle.rice_stream.proofs.lemmas.EncodingLemmas.{code_nothing, settled_nothing}

-- several spellings are of these samples alone
same_samples : (s : Parameters) (xs ys : List ℤ) → IsLegal s → All (IsSample s) xs → All (IsSample s) ys → spellings s xs ≡ spellings s ys → xs ≡ ys
same_samples s [] [] legal kx ky e = refl
same_samples s [] (y ∷ ys) legal kx ky e = absurd (let some : 1 ≤ width s = grind (arith, nat_tests) in omega (arith, ap length e, length-append (spelling s y) (spellings s ys), length-spelling s y))
same_samples s (x ∷ xs) [] legal kx ky e = absurd (let some : 1 ≤ width s = grind (arith, nat_tests) in omega (arith, ap length e, length-append (spelling s x) (spellings s xs), length-spelling s x))
same_samples s (x ∷ xs) (y ∷ ys) legal kx ky e =
    let w = width s in
    let first : spelling s x ≡ spelling s y = sym (take_at (spelling s x) (spellings s xs) w (length-spelling s x)) ∙ ap (take w) e ∙ take_at (spelling s y) (spellings s ys) w (length-spelling s y) in
    let others : spellings s xs ≡ spellings s ys = sym (drop_at (spelling s x) (spellings s xs) w (length-spelling s x)) ∙ ap (drop w) e
    ∙ drop_at (spelling s y) (spellings s ys) w (length-spelling s y) in
    let same = one_sample s x y legal (All-head (IsSample s) x xs kx) (All-head (IsSample s) y ys ky) first in
    let rest = same_samples s xs ys legal (All-tail (IsSample s) x xs kx) (All-tail (IsSample s) y ys ky) others in
    (λ i. same i ∷ rest i)

-- The first samples of an input are taken, and a seam stands after them.
record HasFed (s : Parameters) (input : List ℕ) (seam : Seam) : Type 0 where
  pub samples : List ℤ
  pub rest : List ℕ
  pub split : input ≡ spellings s samples ++ rest
  pub legal : All (IsSample s) samples
  pub stands : IsSeam s seam samples

-- Pieces are fed after the samples xs: what their code completes was taken, a part in each call.
record FeedsOn (s : Parameters) (input : List ℕ) (seam : Seam) (pieces : List Piece) (xs : List ℤ) : Type 0 where
  pub fed : HasFed s input (last_seam seam pieces)
  pub bytes : List ℕ
  pub grows : early_output s fed.samples ≡ early_output s xs ++ bytes
  pub taken : TakeInParts pieces bytes

-- what is not taken begins after the samples that the seam counts
not_taken : (s : Parameters) (input : List ℕ) (seam : Seam) → (h : HasFed s input seam) → drop (width s * seam.samples) input ≡ h.rest
not_taken s input seam h =
    let size : length (spellings s h.samples) ≡ width s * seam.samples = length-spellings s h.samples ∙ ap (λ n. width s * n) (sym h.stands.counts.samples) in
    ap (drop (width s * seam.samples)) h.split ∙ drop_at (spellings s h.samples) h.rest (width s * seam.samples) size

-- the pieces, from any seam on, give the code of all samples so far
feeds_on : (s : Parameters) (input : List ℕ) (seam : Seam) (pieces : List Piece) (h : HasFed s input seam) → AreFed s input seam pieces → FeedsOn s input seam pieces h.samples
feeds_on s input seam [] h fed = record { fed = h; bytes = []; grows = sym (append-nil (early_output s h.samples)); taken = refl }
feeds_on s input seam (p ∷ ps) h fed =
    let goes = fed.1 h.samples h.stands in
    let after = fed.0.0 in
    let rest : h.rest ≡ spellings s goes.more ++ (goes.rest ++ after) = sym (not_taken s input seam h) ∙ fed.0.1 ∙ ap (λ l. l ++ after) goes.reads.split
    ∙ append_assoc (spellings s goes.more) goes.rest after in
    let next : HasFed s input p.seam = record {
      samples = h.samples ++ goes.more;
      rest = goes.rest ++ after;
      split = h.split ∙ ap (λ l. spellings s h.samples ++ l) rest ∙ sym (append_assoc (spellings s h.samples) (spellings s goes.more) (goes.rest ++ after))
          ∙ ap (λ l. l ++ (goes.rest ++ after)) (sym (spellings-append s h.samples goes.more));
      legal = All-append (IsSample s) h.samples goes.more h.legal goes.reads.legal;
      stands = goes.stands;
    } in
    let on = feeds_on s input p.seam ps next fed.2 in
    let part = goes.writes.more in
    record {
      fed = on.fed;
      bytes = part ++ on.bytes;
      grows = on.grows ∙ ap (λ l. l ++ on.bytes) goes.writes.split ∙ append_assoc (early_output s h.samples) part on.bytes;
      taken = (part, on.bytes, refl, goes.writes.took, on.taken);
    }

-- of no samples no byte is written
pub nothing_early : (s : Parameters) → IsLegal s → early_output s [] ≡ []
unfolding whole_bytes
nothing_early s legal = let some : 1 ≤ s.block = grind (arith, legal.block) in ap whole_bytes (ap (code s) (settled_nothing s) ∙ code_nothing s some)

-- from the seam before all samples on
pub feeding_is_encoding : FeedingIsEncoding
feeding_is_encoding s legal input seam pieces old new fed encoded encoding begins are_fed finishes encodes given =
    let start : HasFed s input seam = record { samples = []; rest = input; split = refl; legal = All-nil (IsSample s); stands = begins } in
    let on = feeds_on s input seam pieces start are_fed in
    let h = on.fed in
    let end = finishes h.samples h.stands in
    let more = end.0 in
    let all = h.samples ++ more in
    let xs = encodes.samples in
    let spelled : input ≡ spellings s all = h.split ∙ ap (λ l. spellings s h.samples ++ l) (sym (not_taken s input (last_seam seam pieces) h) ∙ end.1.spelled)
    ∙ sym (spellings-append s h.samples more) in
    let whole : encoding.given ≡ spellings s xs = encodes.ends.0.whole ∙ ap (λ l. spellings s xs ++ l) encodes.ends.0.stops ∙ append-nil (spellings s xs) in
    let same : all ≡ xs = same_samples s all xs legal (All-append (IsSample s) h.samples more h.legal end.1.legal) encodes.ends.0.legal (sym spelled ∙ sym given ∙ whole) in
    let front : early_output s h.samples ≡ on.bytes = on.grows ∙ ap (λ l. l ++ on.bytes) (nothing_early s legal) in
    let last = end.3.more in (
      (on.bytes, last, encodes.ends.2.written ∙ ap (output s) (sym same) ∙ end.3.split ∙ ap (λ l. l ++ last) front, on.taken, end.3.took),
      end.2.samples ∙ ap length same ∙ sym encodes.ends.2.reports.samples,
      end.2.bits ∙ ap (code_bits s) same ∙ sym encodes.ends.2.reports.bits,
    )

-- ---- where an interval begins

-- the code of a seam's samples is what is written, and the bits that fill no byte
pub code_of_seam : (s : Parameters) (seam : Seam) (xs : List ℤ) → IsSeam s seam xs → length (code s xs) ≡ 8 * length (early_output s xs) + seam.waiting_bits
code_of_seam s seam xs h =
    let all = between_all s seam.start seam.previous xs h.counts.stands in
    let same : take (cut s (length xs)) xs ≡ xs = ap (λ n. take n xs) all ∙ take-length xs in
    let bits = complete_code s xs in
    let left : seam.waiting_bits ≡ length bits - bits_in_bytes (length bits) = sym (length-word seam.waiting_bits seam.waiting) ∙ ap length h.waiting
    ∙ length-drop (bits_in_bytes (length bits)) bits in
    let whole : 8 * length (whole_bytes bits) ≡ 8 * (length bits / 8) = omega
    (arith, length-bits_of (whole_bytes bits), ap length (bits_of-whole_bytes bits), length-take (bits_in_bytes (length bits)) bits) in
    omega (arith, left, ap (λ l. length (code s l)) same, whole)

-- the samples of a seam where an interval begins are those of whole intervals
whole_intervals : (s : Parameters) (seam : Seam) (xs : List ℤ) → IsSeam s seam xs → seam.start ≡ 0 → (q : ℕ) × AreIntervals s q xs
whole_intervals s seam xs h at_start =
    let t = h.counts.stands in
    let legal = t.holds.legal in
    let all = between_all s seam.start seam.previous xs t in
    let coded : xs ≡ t.coded = sym (ap (λ n. take n xs) all ∙ take-length xs) ∙ complete_are_coded (state_between s seam.start seam.previous) xs t in
    let some : 0 < s.interval = omega (arith, legal.interval_from) in
    let blocks : t.block ≡ s.interval * (t.block / s.interval) = omega (arith, t.holds.place, at_start) in
    let samples = subst (λ (l : List ℤ). AllByRecursion (IsSample s) l) (sym t.parts) t.holds.samples in
    (t.block / s.interval, record { legal = All-from_recursion (IsSample s) xs samples; len = ap length coded ∙ t.holds.whole ∙ ap (λ n. s.block * n) blocks })

-- where it begins in the code of these samples and others
pub place_of_seam : (s : Parameters) (seam : Seam) (xs ys : List ℤ) (written : ℕ) → IsSeam s seam xs → seam.start ≡ 0 → written ≡ length (early_output s xs)
    → IsPlace s (output s (xs ++ ys)) (place_after seam written) xs
place_of_seam s seam xs ys written h at_start count =
    let legal = h.counts.stands.holds.legal in
    let whole = whole_intervals s seam xs h at_start in
    let place : length (code s xs) ≡ 8 * written + seam.waiting_bits = code_of_seam s seam xs h ∙ ap (λ n. 8 * n + seam.waiting_bits) (sym count) in
    let zeros = replicate (bits_to_byte (length (code s (xs ++ ys)))) false in
    let bits : bits_of (output s (xs ++ ys)) ≡ code s xs ++ (code s ys ++ zeros) =
    bits_of-padded (code s (xs ++ ys)) ∙ ap (λ l. l ++ zeros) (intervals_are_joined s legal whole.0 xs ys whole.1) ∙ append_assoc (code s xs) (code s ys) zeros in
    record {
      count = h.counts.samples;
      begins = record {
        intervals = whole.0;
        len = whole.1.len;
        decoded = subst (λ (m : ℕ). Decoded s (bits_of (output s (xs ++ ys))) (Some (length xs)) xs Reached m) place
            (subst (λ (l : List Bool). Decoded s l (Some (length xs)) xs Reached (length (code s xs))) (sym bits) (intervals_are_decoded_alone s legal whole.0 xs (code s ys ++ zeros) whole.1));
      };
    }

-- where an interval begins, the seam's counts are its place
pub seams_tell_places : SeamsTellPlaces
seams_tell_places s input seam pieces begins fed at_start =
    let start : HasFed s input seam = record { samples = []; rest = input; split = refl; legal = All-nil (IsSample s); stands = begins } in
    let on = feeds_on s input seam pieces start fed in
    let h = on.fed in
    let front : early_output s h.samples ≡ on.bytes = on.grows ∙ ap (λ l. l ++ on.bytes) (nothing_early s begins.counts.stands.holds.legal) in
    (h.samples, on.bytes, h.rest, h.split, on.taken, λ ys. place_of_seam s (last_seam seam pieces) h.samples ys (length on.bytes) h.stands at_start (ap length (sym front)))
