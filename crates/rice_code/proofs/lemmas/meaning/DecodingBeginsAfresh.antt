-- Where an interval begins decoding begins afresh.
use Rattle.std.proofs.Common.{◌≡◌, ℕ, zero, suc, ◌+◌, ◌-◌, ◌*◌, ◌%◌, ◌<◌, ◌≤◌, ◌==◌, Bool, true, false, cond, ◌&&◌, List, [], ◌∷◌}
use Rattle.std.proofs.Common.{◌++◌, length, take, drop, refl, ap, arith, sym, ◌∙◌, inl, inr, subst, append_assoc, length-append, Option, Some, None, ℤ, pos}
use Rattle.rice_code.proofs.Words.{IsSomeAnd, drop_at, length-replicate, take_all, All-append, mod-eq_of_lt, mul-mod_right, take-length, bits_to_byte, Parameters, IsLegal, common_steps}
use Rattle.rice_code.proofs.Words.{IsSample, place, begins_segment, blocks_left, is_padded, last_of, some_left, le_of_mul-le-mul_left, lt_of_mul-lt-mul_left, BeginsInterval, DecodingBeginsAfresh}
use Rattle.rice_code.proofs.Words.{count_after, blocks_from, zero_block, CodedDataSet, NoCompression, SecondExtension, Split, ZeroBlocks, RemainderOfSegment, bits_of_set, AreTaken, Decoded}
use Rattle.rice_code.proofs.Words.{DecodedFrom, Ending, Reached, EndsWith, IsWanted, cut_to, RunIsSound, blocks_in, blocks_in_all, block_after, padding, Lies}
use Rattle.rice_code.proofs.lemmas.{code.BlocksByPlaceAlone.place_on, code.BlocksByPlaceAlone.same_blocks, code.RepeatedSamples.blocks_append, code.Layouts.ends_inside, code.Layouts.lies_at}
use Rattle.rice_code.proofs.lemmas.{code.SegmentsOneByOne.ends_before, cost.PaddingBounds.interval_begins_segment, meaning.CoveredBlocks.bool_cases, meaning.DecodingGoesOn.cut_parts}
use Rattle.rice_code.proofs.lemmas.{meaning.IntervalsStandAlone.first_blocks, meaning.IntervalsStandAlone.to_byte}
use Rattle.rice_code.proofs.lemmas.meaning.DecodingByPlacesAlone.{ends_there, same_all_blocks, same_lie, taken_there}

-- ---- coded data sets at another block, and after other bits

-- where no interval is padded, the position does not matter
lies_plain : (s : Parameters) (b m n : ℕ) (ds : List CodedDataSet) (bits : List Bool) → s.pad ≡ false → Lies s b m ds bits → Lies s b n ds bits
lies_plain s b m n [] bits e h = h
lies_plain s b m n (d ∷ ds) bits e h =
    let t = length (bits_of_set s d) in
    let k = length (bits_of_set s d ++ h.0) in
    let next = block_after s b d in (
      h.0,
      h.1,
      h.2 ∙ ap (λ v. cond (v && place s next == 0) (bits_to_byte (m + t)) 0) e
          ∙ sym (ap (λ v. cond (v && place s next == 0) (bits_to_byte (n + t)) 0) e),
      h.3,
      lies_plain s next (m + k) (n + k) ds h.1 e h.4,
    )

-- where they are, it is on a byte
lies_afresh : (s : Parameters) (b n : ℕ) (ds : List CodedDataSet) (bits : List Bool) → (s.pad ≡ true → n % 8 ≡ 0) → Lies s b 0 ds bits → Lies s b n ds bits
lies_afresh s b n ds bits byte h = elim (bool_cases s.pad) [
  | inl pads ↦ lies_at s b 0 n ds bits (sym (byte pads)) h
  | inr plain ↦ lies_plain s b 0 n ds bits plain h
]

-- ---- an interval's code, decoded by itself, and where it stands

wanted_after : (s : Parameters) (asked : Option ℕ) (c i : ℕ) → IsWanted s asked (0 + i) → IsWanted s (count_after (s.block * c) asked) (c + i)
wanted_after s None c i h = tt
wanted_after s (Some n) c i h = let lt : s.block * (0 + i) < n = h in omega arith

reached_after : (s : Parameters) (asked : Option ℕ) (c i : ℕ) → IsSomeAnd asked (λ n. n ≤ s.block * (0 + i)) → IsSomeAnd (count_after (s.block * c) asked) (λ n. n ≤ s.block * (c + i))
reached_after s None c i h = absurd h
reached_after s (Some n) c i h = let le : n ≤ s.block * (0 + i) = h in omega arith

cut_after : (s : Parameters) (asked : Option ℕ) (c : ℕ) (xs : List ℤ) → cut_to s asked 0 xs ≡ cut_to s (count_after (s.block * c) asked) c xs
cut_after s None c xs = refl
cut_after s (Some n) c xs = let e : n - s.block * 0 ≡ s.block * c + n - s.block * c = omega arith in ap (λ m. take m xs) e

first_place : (s : Parameters) → IsLegal s → place s 0 ≡ 0
first_place s legal = let lt : 0 < s.interval = omega (arith, legal.interval_from) in mod-eq_of_lt lt

-- the sample before an interval does not matter
blocks_after : (s : Parameters) (c n : ℕ) (p : ℤ) (xs : List ℤ) → IsLegal s → 1 ≤ s.block → place s c ≡ 0 → length xs ≡ s.block * n → blocks_from s c p n xs ≡ blocks_from s 0 (pos 0) n xs
blocks_after s c zero p xs legal j e len = refl
blocks_after s c (suc n) p [] legal j e len = absurd (omega arith)
blocks_after s c (suc n) p (x ∷ xs) legal j e len = first_blocks s c p (pos 0) (suc n) x xs j e ∙ same_blocks s c 0 (pos 0) (suc n) (x ∷ xs) j (e ∙ sym (first_place s legal))

stands_after : {s : Parameters} → IsLegal s → (c n : ℕ) (p : ℤ) {bits : List Bool} {asked : Option ℕ} {xs : List ℤ} {ending : Ending} {used : ℕ} → place s c ≡ 0 → (s.pad ≡ true → n % 8 ≡ 0)
    → Decoded s bits asked xs ending used → DecodedFrom s c n p bits (count_after (s.block * c) asked) xs ending used
stands_after {s} legal c n p {asked} {ending} begins byte h =
    let j : 1 ≤ s.block = grind (arith, legal.block) in
    let e : place s 0 ≡ place s c = first_place s legal ∙ sym begins in
    let there = count_after (s.block * c) asked in
    let blocks = same_all_blocks s 0 c h.sets e in
    let count = ap length blocks in
    let size = length (blocks_in_all s 0 h.sets) in
    let P : ℕ → Type 0 = λ k. EndsWith s there (c + k) h.rest ending h.last in
    record {
      sets = h.sets;
      front = h.front;
      rest = h.rest;
      parts = h.parts;
      lie = lies_afresh s c n h.sets h.front byte (same_lie s 0 c 0 h.sets h.front e h.lie);
      taken = taken_there s asked there 0 c h.sets e (wanted_after s asked c) h.taken;
      all = h.all;
      legal = h.legal;
      len = h.len ∙ ap (λ k. s.block * k) count;
      blocks = ap (λ k. blocks_from s c p k h.all) (sym count) ∙ (blocks_after s c size p h.all legal j begins h.len ∙ (h.blocks ∙ blocks));
      asked_for = h.asked_for ∙ cut_after s asked c h.all;
      last = h.last;
      ends = subst P count (ends_there asked there (0 + size) (c + size) h.rest ending h.last (record {
        place_is = place_on s 0 c size e;
        wanted = wanted_after s asked c size;
        reached = reached_after s asked c size;
      }) h.ends);
      bits_used = h.bits_used;
    }

-- ---- coded data sets and others after them

blocks-append : (s : Parameters) (b : ℕ) (ds es : List CodedDataSet) → blocks_in_all s b (ds ++ es) ≡ blocks_in_all s b ds ++ blocks_in_all s (b + length (blocks_in_all s b ds)) es
blocks-append s b [] es = let e : b ≡ b + 0 = omega arith in ap (λ n. blocks_in_all s n es) e
blocks-append s b (d ∷ ds) es =
    let first = blocks_in s b d in
    let next = b + length first in
    let rest = blocks_in_all s next ds in
    let e : next + length rest ≡ b + length (first ++ rest) = omega (arith, length-append first rest) in
    ap (λ l. first ++ l) (blocks-append s next ds es) ∙ sym (append_assoc first rest (blocks_in_all s (next + length rest) es)) ∙ ap (λ n. (first ++ rest) ++ blocks_in_all s n es) e

taken-append : (s : Parameters) (asked : Option ℕ) (b : ℕ) (ds es : List CodedDataSet) → AreTaken s asked b ds → AreTaken s asked (b + length (blocks_in_all s b ds)) es → AreTaken s asked b (ds ++ es)
taken-append s asked b [] es h k = let e : b + 0 ≡ b = omega arith in subst (λ (n : ℕ). AreTaken s asked n es) e k
taken-append s asked b (d ∷ ds) es h k =
    let next = block_after s b d in
    let e : b + length (blocks_in s b d ++ blocks_in_all s next ds) ≡ next + length (blocks_in_all s next ds) = omega (arith, length-append (blocks_in s b d) (blocks_in_all s next ds)) in
    (h.0, h.1, h.2, h.3, taken-append s asked next ds es h.4 (subst (λ (n : ℕ). AreTaken s asked n es) e k))

lies-append : (s : Parameters) (b m : ℕ) (ds es : List CodedDataSet) (bits more : List Bool) → Lies s b m ds bits
    → Lies s (b + length (blocks_in_all s b ds)) (m + length bits) es more → Lies s b m (ds ++ es) (bits ++ more)
lies-append s b m [] es bits more h k = grind (arith, common_steps)
lies-append s b m (d ∷ ds) es bits more h k =
    let t = bits_of_set s d in
    let next = block_after s b d in
    let blocks = blocks_in_all s next ds in
    let here : b + length (blocks_in s b d ++ blocks) ≡ next + length blocks = omega (arith, length-append (blocks_in s b d) blocks) in
    let there : m + length bits ≡ m + length (t ++ h.0) + length h.1 = omega (arith, ap length h.3, length-append t (h.0 ++ h.1), length-append h.0 h.1, length-append t h.0) in
    let rest = subst (λ (n : ℕ). Lies s (next + length blocks) n es more) there (subst (λ (n : ℕ). Lies s n (m + length bits) es more) here k) in (
      h.0,
      h.1 ++ more,
      h.2,
      ap (λ l. l ++ more) h.3 ∙ append_assoc t (h.0 ++ h.1) more ∙ ap (λ l. t ++ l) (append_assoc h.0 h.1 more),
      lies-append s next (m + length (t ++ h.0)) ds es h.1 more h.4 rest,
    )

-- ---- what stands before an interval

-- a coded data set stays in its segment,
stays_inside : (s : Parameters) (b : ℕ) (d : CodedDataSet) → 1 ≤ s.interval → RunIsSound s b d → length (blocks_in s b d) ≤ blocks_left s b
stays_inside s b (NoCompression c) some h = (some_left s b some).0
stays_inside s b (SecondExtension c) some h = (some_left s b some).0
stays_inside s b (Split k c) some h = (some_left s b some).0
stays_inside s b (ZeroBlocks r z) some h = let inside : z ≤ blocks_left s b = h.0 in omega (arith, length-replicate (z - 1) (zero_block s None), inside, (some_left s b some).0)
stays_inside s b (RemainderOfSegment r) some h = omega (arith, length-replicate (blocks_left s b - 1) (zero_block s None), (some_left s b some).0)

-- so those that are wanted before an interval end before it,
end_inside : (s : Parameters) (end b : ℕ) (ds : List CodedDataSet) → 1 ≤ s.interval → place s end ≡ 0 → b ≤ end → AreTaken s (Some (s.block * end)) b ds → b + length (blocks_in_all s b ds) ≤ end
end_inside s end b [] some e le h = omega arith
end_inside s end b (d ∷ ds) some e le h =
    let lt : s.block * b < s.block * end = h.0 in
    let before : b < end = lt_of_mul-lt-mul_left s.block lt in
    let n = end - b - 1 in
    let same : b + suc n ≡ end = omega arith in
    let left = ends_before s b n some (ap (begins_segment s) same ∙ interval_begins_segment s end e) in
    let inside = stays_inside s b d some h.2 in
    let next = block_after s b d in
    omega (arith, end_inside s end next ds some e (omega arith) h.4, length-append (blocks_in s b d) (blocks_in_all s next ds))

-- and on a byte, where intervals are padded
lies_to_byte : (s : Parameters) {end : ℕ} (b m : ℕ) (ds : List CodedDataSet) (bits : List Bool) → is_padded s end ≡ true → b + length (blocks_in_all s b ds) ≡ end
    → (ds ≡ [] → m % 8 ≡ 0) → Lies s b m ds bits → (m + length bits) % 8 ≡ 0
lies_to_byte s b m [] bits pads reach whole h = let here : m + length bits ≡ m = omega (arith, ap length h) in ap (λ n. n % 8) here ∙ whole refl
lies_to_byte s {end} b m (d ∷ ds) bits pads reach whole h =
    let t = bits_of_set s d in
    let next = block_after s b d in
    let at = m + length (t ++ h.0) in
    let all : m + length bits ≡ at + length h.1 = omega (arith, ap length h.3, length-append t (h.0 ++ h.1), length-append h.0 h.1, length-append t h.0) in
    ap (λ n. n % 8) all ∙ lies_to_byte s next at ds h.1 pads (ends_inside s b d ds ∙ reach) last h.4
  where
    last : ds ≡ [] → (m + length (bits_of_set s d ++ h.0)) % 8 ≡ 0
    last none =
        let t = bits_of_set s d in
        let bits = m + length t in
        let next = block_after s b d in
        let end_is : next ≡ end = omega (arith, ends_inside s b d ds, reach, ap (λ l. length (blocks_in_all s next l)) none) in
        let count : padding s next bits ≡ bits_to_byte bits = ap (λ n. padding s n bits) end_is ∙ ap (λ v. cond v (bits_to_byte bits) 0) pads in
        let size : m + length (t ++ h.0) ≡ bits + bits_to_byte bits = omega (arith, length-append t h.0, h.2, count) in
        ap (λ n. n % 8) size ∙ to_byte bits

-- what is wanted of some samples is wanted of these and others
wanted_more : (s : Parameters) (asked : Option ℕ) (n i : ℕ) → IsWanted s (Some n) i → IsWanted s (count_after n asked) i
wanted_more s None n i h = tt
wanted_more s (Some m) n i h = let lt : s.block * i < n = h in omega arith

all_wanted : (s : Parameters) (asked : Option ℕ) (xs : List ℤ) → xs ≡ cut_to s (count_after (length xs) asked) 0 xs
all_wanted s None xs = refl
all_wanted s (Some m) xs = sym (take_all (length xs + m - s.block * 0) xs (omega arith))

same_count : (j n m : ℕ) → 1 ≤ j → j * n ≤ j * m → m ≤ n → m ≡ n
same_count j n m some most le = let back : n ≤ m = le_of_mul-le-mul_left {k = j} most some in omega arith

-- What was decoded before an interval: its coded data sets have the blocks of the samples, and no others.
record IsBefore (s : Parameters) (bits : List Bool) (before : List ℤ) (begin : ℕ) (h : Decoded s bits (Some (length before)) before Reached begin) : Type 0 where
  pub begins : place s (0 + length (blocks_in_all s 0 h.sets)) ≡ 0
  pub count : length before ≡ s.block * (0 + length (blocks_in_all s 0 h.sets))
  pub all : before ≡ h.all
  pub front : begin ≡ length h.front
  pub byte : s.pad ≡ true → (0 + length h.front) % 8 ≡ 0

is_before : (s : Parameters) (bits : List Bool) (before : List ℤ) (begin : ℕ) → IsLegal s → (b : BeginsInterval s bits before begin) → IsBefore s bits before begin b.decoded
is_before s bits before begin legal b =
    let j : 1 ≤ s.block = grind (arith, legal.block) in
    let h = b.decoded in
    let end = s.interval * b.intervals in
    let n = length (blocks_in_all s 0 h.sets) in
    let begins : place s end ≡ 0 = mul-mod_right s.interval b.intervals in
    let inside = end_inside s end 0 h.sets legal.interval_from begins (omega arith) (subst (λ (m : ℕ). AreTaken s (Some m) 0 h.sets) b.len h.taken) in
    let reach : 0 + n ≡ end = same_count s.block end (0 + n) j (omega (arith, b.len, h.ends.0)) inside in
    let size : length before ≡ s.block * (0 + n) = b.len ∙ ap (λ m. s.block * m) (sym reach) in
    let whole : length before - s.block * 0 ≡ length h.all = omega (arith, size, h.len) in
    record {
      begins = ap (place s) reach ∙ begins;
      count = size;
      all = h.asked_for ∙ ap (λ m. take m h.all) whole ∙ take-length h.all;
      front = omega (arith, h.bits_used, h.ends.1);
      byte = λ pads. lies_to_byte s 0 0 h.sets h.front (ap (λ m. s.pad && m == 0) begins ∙ ap (λ v. v && 0 == 0) pads) reach (λ none. refl) h.lie;
    }

-- coded data sets that decode to all samples that are asked for of them, and others after them
decodes_after : {s : Parameters} {bits : List Bool} {before xs : List ℤ} (asked : Option ℕ) {ending : Ending} {begin used : ℕ}
    → (h : Decoded s bits (Some (length before)) before Reached begin) → before ≡ h.all → begin ≡ length h.front
    → DecodedFrom s (0 + length (blocks_in_all s 0 h.sets)) (0 + length h.front) (last_of (pos 0) h.all) h.rest (count_after (length before) asked) xs ending
    used → Decoded s bits (count_after (length before) asked) (before ++ xs) ending (begin + used)
decodes_after {s} {before} asked {ending} h all front d =
    let there = count_after (length before) asked in
    let n = length (blocks_in_all s 0 h.sets) in
    let m = length (blocks_in_all s (0 + n) d.sets) in
    let blocks = blocks-append s 0 h.sets d.sets in
    let count : length (blocks_in_all s 0 (h.sets ++ d.sets)) ≡ n + m = ap length blocks ∙ length-append (blocks_in_all s 0 h.sets) (blocks_in_all s (0 + n) d.sets) in
    let end : 0 + n + m ≡ 0 + length (blocks_in_all s 0 (h.sets ++ d.sets)) = omega (arith, count) in
    let first : before ≡ cut_to s there 0 h.all = all_wanted s asked before ∙ ap (cut_to s there 0) all in
    record {
      sets = h.sets ++ d.sets;
      front = h.front ++ d.front;
      rest = d.rest;
      parts = h.parts ∙ ap (λ l. h.front ++ l) d.parts ∙ sym (append_assoc h.front d.front d.rest);
      lie = lies-append s 0 0 h.sets d.sets h.front d.front h.lie d.lie;
      taken = taken-append s there 0 h.sets d.sets (taken_there s (Some (length before)) there 0 0 h.sets refl (λ i. wanted_more s asked (length before) (0 + i)) h.taken) d.taken;
      all = h.all ++ d.all;
      legal = All-append (IsSample s) h.all d.all h.legal d.legal;
      len = sizes s.block _ _ _ n m _ (length-append h.all d.all) h.len d.len count;
      blocks = ap (λ i. blocks_from s 0 (pos 0) i (h.all ++ d.all)) count ∙ (blocks_append s 0 (pos 0) n m h.all d.all h.len ∙ ((λ i. h.blocks i ++ d.blocks i) ∙ sym blocks));
      asked_for = (λ i. first i ++ d.asked_for i) ∙ cut_parts s there 0 n h.all d.all h.len;
      last = d.last;
      ends = subst (λ (i : ℕ). EndsWith s there i d.rest ending d.last) end d.ends;
      bits_used = omega (arith, d.bits_used, front, length-append h.front d.front);
    }
  where
    sizes : (j all a b n m count : ℕ) → all ≡ a + b → a ≡ j * n → b ≡ j * m → count ≡ n + m → all ≡ j * count
    sizes j all a b n m count e f g h = let k = ap (λ v. j * v) h in omega arith

-- What the bits decode to from the beginning of an interval on, all bits decode to after the samples before it.
pub decoding_begins_afresh : DecodingBeginsAfresh
decoding_begins_afresh s legal bits before xs asked ending begin used b d =
    let h = b.decoded in
    let is = is_before s bits before begin legal b in
    let c = 0 + length (blocks_in_all s 0 h.sets) in
    let rest : drop begin bits ≡ h.rest = ap (drop begin) h.parts ∙ drop_at h.front h.rest begin (sym is.front) in
    let there = stands_after legal c (0 + length h.front) (last_of (pos 0) h.all) is.begins is.byte
    (subst (λ (l : List Bool). Decoded s l asked xs ending used) rest d) in
    grind (arith, common_steps, decodes_after)
