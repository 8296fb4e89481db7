-- Intervals stand alone: their code begins afresh, ends with a byte where intervals are padded, and is decoded by itself.
use Rattle.std.proofs.Common.{◌≡◌, ℕ, zero, suc, ◌+◌, ◌-◌, ◌*◌, ◌/◌, ◌%◌, ◌<◌, ◌≤◌, ◌==◌, min, Bool, true, false, cond, ◌&&◌, List, [], ◌∷◌, ◌++◌, length, take, replicate, refl, ap, arith, sym, ◌∙◌}
use Rattle.std.proofs.Common.{inl, inr, append_assoc, append-nil, length-append, Some, None, ℤ, pos}
use Rattle.rice_code.proofs.Words.{div_ceil, length-replicate, drop_at, recursion_from_All, mul-div_cancel_left, mul-le-mul_left, mul-mod_right, mod-eq_of_lt, take-length, bits_of-append}
use Rattle.rice_code.proofs.Words.{bits_of-padded, Parameters, IsLegal, IsSample, place, is_padded, block_count, last_of, filled_samples, zero_is_sample, bits_of, bits_to_byte, padded_bits}
use Rattle.rice_code.proofs.Words.{whole_bytes, AreIntervals, IntervalsBeginAfresh, IntervalsAreJoined, PaddedIntervalsAreJoined, IntervalsAreDecodedAlone, DamageStaysInItsInterval, block_data}
use Rattle.rice_code.proofs.Words.{blocks_from, blocks_of, zero_block, data_sets, sets_of, code, code_from, output, CodedDataSet, bits_of_set, blocks_in_all, block_after, padding, layout}
use Rattle.rice_code.proofs.lemmas.code.{Layouts.ends_inside, Layouts.laid_at, Layouts.laid_plain, Layouts.lies_inside, Layouts.sent_first, SoundBlocks.blocks_sound_after, SoundBlocks.count_blocks}
use Rattle.rice_code.proofs.lemmas.code.{CodeGoesOn.code_goes_on, CodeGoesOn.no_zeros_past_segment, CodeGoesOn.own_blocks, BlocksByPlaceAlone.code_stands_in_intervals, WholeBytes.whole-append}
use Rattle.rice_code.proofs.lemmas.{cost.PaddingBounds.are_blocks, cost.PaddingBounds.interval_begins_segment, meaning.CoveredBlocks.bool_cases, meaning.CoveredBlocks.covers_blocks}
use Rattle.rice_code.proofs.{lemmas.meaning.SentSetsAreTaken.are_taken, lemmas.code.WholeBlocks.not_filled, Words.common_steps}

-- ---- an interval begins afresh

first_block : (s : Parameters) (b : ℕ) (p q x : ℤ) (ys : List ℤ) → 1 ≤ s.block → place s b ≡ 0 → block_data s b p (x ∷ ys) ≡ block_data s b q (x ∷ ys)
first_block s b p q x ys j e = grind (arith, common_steps, bool_cases, mul-div_cancel_left, mul-mod_right)

-- where an interval begins, the blocks that samples make do not depend on the sample before them
pub first_blocks : (s : Parameters) (b : ℕ) (p q : ℤ) (n : ℕ) (x : ℤ) (xs : List ℤ) → 1 ≤ s.block → place s b ≡ 0 → blocks_from s b p n (x ∷ xs) ≡ blocks_from s b q n (x ∷ xs)
first_blocks s b p q zero x xs j e = refl
first_blocks s b p q (suc n) x xs j e = grind (arith, common_steps, first_block)

none_of_none : (j : ℕ) → 1 ≤ j → div_ceil 0 j ≡ 0
none_of_none j h = omega arith

no_code : (s : Parameters) (b position : ℕ) (p : ℤ) → 1 ≤ s.block → code_from s b position p [] ≡ []
no_code s b position p j = ap (λ n. layout s (b + n) b position (data_sets s b false (blocks_from s b p n (filled_samples s p [])))) (none_of_none s.block j)

-- the sample before it does not matter
whatever_before : (s : Parameters) (position : ℕ) (p q : ℤ) (xs : List ℤ) → IsLegal s → code_from s 0 position p xs ≡ code_from s 0 position q xs
whatever_before s position p q [] legal = let j : 1 ≤ s.block = grind (arith, legal.block) in no_code s 0 position p j ∙ sym (no_code s 0 position q j)
whatever_before s position p q (x ∷ xs) legal = grind (arith, common_steps, first_blocks, mod-eq_of_lt)

-- nor does its number
stands_alone : (s : Parameters) → IsLegal s → (b position : ℕ) (p : ℤ) (xs : List ℤ) → place s b ≡ 0 → code_from s b position p xs ≡ code_from s 0 position (pos 0) xs
stands_alone s legal b position p xs e = code_stands_in_intervals s legal b 0 position p xs (e ∙ sym (mod-eq_of_lt legal.interval_from)) ∙ whatever_before s position p (pos 0) xs legal

-- from the start of an interval on, code is that of the same samples alone, begun at the same place in a byte
pub intervals_begin_afresh : IntervalsBeginAfresh
intervals_begin_afresh s legal b position p xs e = grind (arith, common_steps, stands_alone, laid_at)

-- ---- and ends with a byte

-- bits, with those that fill their last byte, are whole bytes
pub to_byte : (n : ℕ) → (n + bits_to_byte n) % 8 ≡ 0
to_byte n = omega arith

-- where the last coded data set ends an interval, the bits do with a byte
laid_to_byte : (s : Parameters) (end b position : ℕ) (ds : List CodedDataSet) → is_padded s end ≡ true → b + length (blocks_in_all s b ds) ≡ end
    → (ds ≡ [] → position % 8 ≡ 0) → (position + length (layout s end b position ds)) % 8 ≡ 0
laid_to_byte s end b position [] pads reach whole = let here : position + 0 ≡ position = omega arith in ap (λ n. n % 8) here ∙ whole refl
laid_to_byte s end b position (d ∷ ds) pads reach whole =
    let next = block_after s b d in
    let first = sent_first s end b position d in
    let at = position + length first in
    let rest = layout s end next at ds in
    let all : at + length rest ≡ position + length (first ++ rest) = omega (arith, length-append first rest) in
    ap (λ n. n % 8) (sym all) ∙ laid_to_byte s end next at ds pads (ends_inside s b d ds ∙ reach) last
  where
    last : ds ≡ [] → (position + length (sent_first s end b position d)) % 8 ≡ 0
    last none =
        let t = bits_of_set s d in
        let bits = position + length t in
        let next = block_after s b d in
        let end_is : min end next ≡ end = omega (arith, ends_inside s b d ds, reach, ap (λ l. length (blocks_in_all s next l)) none) in
        let count : padding s (min end next) bits ≡ bits_to_byte bits = ap (λ m. padding s m bits) end_is ∙ ap (λ v. cond v (bits_to_byte bits) 0) pads in
        let size : position + length (sent_first s end b position d) ≡ bits + bits_to_byte bits = grind (arith, common_steps, length-append, length-replicate) in
        ap (λ n. n % 8) size ∙ to_byte bits

-- What is known of the code of whole intervals: their blocks, and that no run goes past the last of them.
record Whole (s : Parameters) (xs : List ℤ) : Type 0 where
  pub blocks : ℕ
  pub begins : place s (0 + blocks) ≡ 0
  pub len : length xs ≡ s.block * blocks
  pub count : block_count s (length xs) ≡ blocks
  pub reach : length (blocks_in_all s 0 (sets_of s xs)) ≡ blocks
  pub own : blocks_of s 0 (pos 0) xs ≡ blocks_from s 0 (pos 0) blocks xs

intervals_are_whole : (s : Parameters) → IsLegal s → (count : ℕ) (xs : List ℤ) → AreIntervals s count xs → Whole s xs
intervals_are_whole s legal count xs h =
    let j : 1 ≤ s.block = grind (arith, legal.block) in
    let n = s.interval * count in
    let here : 0 + n ≡ n = omega arith in
    let begins : place s (0 + n) ≡ 0 = ap (λ m. m % s.interval) here ∙ mul-mod_right s.interval count in
    let own = own_blocks s 0 n (pos 0) xs j h.len in
    grind (arith, common_steps, not_filled, no_zeros_past_segment, zero_is_sample, interval_begins_segment)

code_to_byte : (s : Parameters) (xs : List ℤ) → s.pad ≡ true → Whole s xs → length (code s xs) % 8 ≡ 0
code_to_byte s xs pads w =
    let end = 0 + block_count s (length xs) in
    let begins : place s end ≡ 0 = ap (λ n. place s (0 + n)) w.count ∙ w.begins in
    let padded : is_padded s end ≡ true = ap (λ n. s.pad && n == 0) begins ∙ ap (λ v. v && 0 == 0) pads in
    let all : 0 + length (code s xs) ≡ length (code s xs) = omega arith in
    ap (λ n. n % 8) (sym all) ∙ laid_to_byte s end 0 0 (sets_of s xs) padded (omega (arith, w.reach, w.count)) (λ none. refl)

-- the code of whole intervals and of samples after them is that of the intervals and then that of these samples
pub intervals_are_joined : IntervalsAreJoined
intervals_are_joined s legal count xs ys h =
    let w = intervals_are_whole s legal count xs h in
    let first = code s xs in
    let n = block_count s (length ys) in
    let goes = code_goes_on legal 0 0 w.blocks (pos 0) xs ys (record {
      before = zero_is_sample s legal.bits_from;
      samples = h.legal;
      len = w.len;
      segment = interval_begins_segment s (0 + w.blocks) w.begins;
    }) in
    let alone = stands_alone s legal (0 + w.blocks) (0 + length first) (last_of (pos 0) xs) ys w.begins in
    goes ∙ ap (λ l. first ++ l) (alone ∙ elim (bool_cases s.pad) [
      | inl pads ↦ let byte : (0 + length first) % 8 ≡ 0 % 8 = omega (arith, code_to_byte s xs pads w) in laid_at s (0 + n) 0 (0 + length first) 0 (sets_of s ys) byte
      | inr plain ↦ laid_plain s (0 + n) 0 (0 + length first) (sets_of s ys) plain ∙ sym (laid_plain s (0 + n) 0 0 (sets_of s ys) plain)
    ])

-- bits that end with a byte are filled by nothing, and those after them as if they stood alone
not_padded : (a : List Bool) → length a % 8 ≡ 0 → padded_bits a ≡ a
not_padded a e = let none : bits_to_byte (length a) ≡ 0 = omega (arith, e) in ap (λ n. a ++ replicate n false) none ∙ append-nil a

padded_after : (a b : List Bool) → length a % 8 ≡ 0 → padded_bits (a ++ b) ≡ a ++ padded_bits b
padded_after a b e = grind (arith, common_steps, length-append, append_assoc)

bytes_joined : (a b : List Bool) → length a % 8 ≡ 0 → whole_bytes (padded_bits (a ++ b)) ≡ whole_bytes (padded_bits a) ++ whole_bytes (padded_bits b)
bytes_joined a b e =
    let count : length a ≡ 8 * (length a / 8) = omega (arith, e) in
    ap whole_bytes (padded_after a b e) ∙ (whole-append (length a / 8) a (padded_bits b) count ∙ ap (λ l. whole_bytes l ++ whole_bytes (padded_bits b)) (sym (not_padded a e)))

-- and where intervals are padded, so is the output
pub padded_intervals_are_joined : PaddedIntervalsAreJoined
padded_intervals_are_joined s legal pads count xs ys h =
    ap (λ l. whole_bytes (padded_bits l)) (intervals_are_joined s legal count xs ys h) ∙ bytes_joined (code s xs) (code s ys) (code_to_byte s xs pads (intervals_are_whole s legal count xs h))

-- ---- and is decoded by itself

-- The code of whole intervals, with any bits after it, decodes to their samples where as many are asked for, and all of it is used.
pub intervals_are_decoded_alone : IntervalsAreDecodedAlone
intervals_are_decoded_alone s legal count xs rest h =
    let j : 1 ≤ s.block = grind (arith, legal.block) in
    let w = intervals_are_whole s legal count xs h in
    let cs = blocks_of s 0 (pos 0) xs in
    let sets = sets_of s xs in
    let sound = blocks_sound_after s 0 (pos 0) xs legal j (zero_is_sample s legal.bits_from) (recursion_from_All (IsSample s) xs h.legal) in
    let cover = covers_blocks s 0 false cs legal.interval_from (are_blocks s 0 cs sound) in
    let size : length cs ≡ w.blocks = count_blocks s 0 (pos 0) (block_count s (length xs)) (filled_samples s (pos 0) xs) ∙ w.count in
    let none : cover.fill ≡ 0 = omega (arith, w.reach, ap length cover.blocks, length-append cs (replicate cover.fill (zero_block s None)), length-replicate cover.fill (zero_block s None), size) in
    let found : blocks_in_all s 0 sets ≡ cs = cover.blocks ∙ (ap (λ n. cs ++ replicate n (zero_block s None)) none ∙ append-nil cs) in
    let all : length xs - s.block * 0 ≡ length xs = omega arith in
    record {
      sets = sets;
      front = code s xs;
      rest = rest;
      parts = refl;
      lie = lies_inside s (0 + block_count s (length xs)) 0 0 sets (omega (arith, w.reach, w.count));
      taken = are_taken s (Some (length xs)) 0 false cs legal.interval_from sound
          (λ i lt. wanted s.block i (length cs) (length xs) j (omega (arith, lt)) (omega (arith, w.len, ap (λ n. s.block * n) size)));
      all = xs;
      legal = h.legal;
      len = w.len ∙ ap (λ n. s.block * n) (sym w.reach);
      blocks = ap (λ n. blocks_from s 0 (pos 0) n xs) w.reach ∙ (sym w.own ∙ sym found);
      asked_for = sym (ap (λ n. take n xs) all ∙ take-length xs);
      last = 0;
      ends = (omega (arith, w.len, ap (λ n. s.block * n) w.reach), refl);
      bits_used = omega arith;
    }
  where
    wanted : (j i n m : ℕ) → 1 ≤ j → i < n → m ≡ j * n → j * i < m
    wanted j i n m some lt e = let le : j * suc i ≤ j * n = mul-le-mul_left j (omega arith) in omega (arith, le, some, e)

-- ---- what is damaged

-- With padding, as many other bytes in place of some intervals leave those before them to be decoded, and the output after them at its place.
pub damage_stays : DamageStaysInItsInterval
damage_stays s legal pads m n xs ys zs damaged h k same =
    let first = output s xs in
    let last = output s zs in
    let whole_code = padded_bits (code s xs) in
    let spelled : bits_of first ≡ code s xs = bits_of-padded (code s xs) ∙ not_padded (code s xs) (code_to_byte s xs pads (intervals_are_whole s legal m xs h)) in
    grind (arith, common_steps, common_steps, bits_of-append, append_assoc, intervals_are_decoded_alone, padded_intervals_are_joined, length-append, drop_at)
