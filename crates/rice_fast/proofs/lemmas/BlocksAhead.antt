-- A buffered block by each option, from its fields.
use Rattle.rice_fast.proofs.Words.{◌≡◌, ℕ, zero, suc, ◌+◌, ◌-◌, ◌*◌, ◌/◌, ◌^◌, ◌<◌, ◌≤◌, ◌==◌, Bool, true, false, inl, inr, List, [], ◌∷◌, ◌++◌, length, take, drop, refl, sym, ◌∙◌, ap, subst, arith}
use Rattle.rice_fast.proofs.Words.{replicate, Option, None, Some, All, flat_map, slice_index_or, take-add, drop-drop, length-drop, take-append-drop, take-replicate, All-drop, word}
use Rattle.rice_fast.proofs.Words.{fundamental_sequence, joined_parts, pair_codes, place, Parameters, id_len, k_max, value_at, value_count, values_at, sample_at, legal_values, length-values}
use Rattle.rice_fast.proofs.Words.{ranks_of_values, BlockData, block_data, NoCompression, SecondExtension, Split, reference_bits, sent_from, IsBlock, IsReference, IsZeroAtReference, AllFit}
use Rattle.rice_fast.proofs.Words.{GivesBlock, reference_place, high_pieces, low_pieces, coded-placed, zero-placed, contents_of_patterns, contents_restored, one_bit, bool_cases, BlockAhead, HeadAhead}
use Rattle.rice_fast.proofs.Words.{HighsAhead, LowsAhead, PairsAhead, HaveParts, residuals_at}
use Rattle.std.specs.Prelude.{sum, ◌&&◌}
use Rattle.rice_fast.proofs.lemmas.Residuals.{length-residuals, patterns_alone, ranks_alone, residuals_fit}

-- three and four parts that follow one another
three-parts : (bits : List Bool) {a b c : List Bool} (k l m : ℕ) → a ≡ take k bits → b ≡ take l (drop k bits) → c ≡ take m (drop (k + l) bits) → take (k + l + m) bits ≡ a ++ (b ++ c)
three-parts bits {b} {c} k l m p q r =
    let all : k + l + m ≡ k + (l + m) = omega arith in
    let second : take (l + m) (drop k bits) ≡ b ++ c = take-add l m (drop k bits) ∙ (λ j. sym q j ++ (ap (take m) (drop-drop l k bits) ∙ sym r) j) in
    ap (λ i. take i bits) all ∙ (take-add k (l + m) bits ∙ (λ j. sym p j ++ second j))

four-parts : (bits : List Bool) {a b c d : List Bool} (k l m n : ℕ) → a ≡ take k bits → b ≡ take l (drop k bits) → c ≡ take m (drop (k + l) bits)
    → d ≡ take n (drop (k + l + m) bits) → take (k + l + m + n) bits ≡ a ++ (b ++ (c ++ d))
four-parts bits {b} {c} {d} k l m n p q r t =
    let all : k + l + m + n ≡ k + (l + (m + n)) = omega arith in
    let third : drop m (drop (k + l) bits) ≡ drop (k + l + m) bits = drop-drop m (k + l) bits in
    let last : take (m + n) (drop (k + l) bits) ≡ c ++ d = take-add m n (drop (k + l) bits) ∙ (λ j. sym r j ++ (ap (take n) third ∙ sym t) j) in
    let second : take (l + (m + n)) (drop k bits) ≡ b ++ (c ++ d) = take-add l (m + n) (drop k bits) ∙ (λ j. sym q j ++ (ap (take (m + n)) (drop-drop l k bits) ∙ last) j) in
    ap (λ i. take i bits) all ∙ (take-add k (l + (m + n)) bits ∙ (λ j. sym p j ++ second j))

-- what a block has: its reference and its residuals
abbrev contents_of : Option ℕ → List ℕ → BlockData
contents_of r ds = record { reference = r; residuals = ds }

-- levels are restored from these residuals after the head of a block
record IsRestoredFrom (s : Parameters) (from : ℕ) (ds levels : List ℕ) : Type 0 where
  some : 1 ≤ s.block
  bits : 1 ≤ s.bits
  len : length levels ≡ s.block
  legal : All (λ l. l < value_count s) levels
  residuals : residuals_at s from levels ≡ ds

-- they are the levels of the block that has these contents
record ContentsAhead (s : Parameters) (b before : ℕ) (r : Option ℕ) (sent levels : List ℕ) : Type 0 where
  block : IsBlock s b (contents_of r (reference_place r ++ sent))
  zero : IsZeroAtReference (contents_of r (reference_place r ++ sent))
  fit : AllFit s (contents_of r (reference_place r ++ sent))
  gives : GivesBlock s b (value_at s before) (values_at s levels) 0 (contents_of r (reference_place r ++ sent) ∷ [])

contents_ahead : {buffered : List Bool} {s : Parameters} {b before skip from omitted len : ℕ} (sent : List ℕ) {levels : List ℕ} → (head : HeadAhead buffered s b before skip from omitted len)
    → IsRestoredFrom s from (reference_place head.reference ++ sent) levels → ContentsAhead s b before head.reference sent levels
contents_ahead {s} {b} {before} {from} sent {levels} head restored =
    let r = head.reference in
    let ds = reference_place r ++ sent in
    let samples = values_at s levels in
    let len : length ds ≡ s.block = sym (ap length restored.residuals) ∙ (length-residuals s from levels ∙ restored.len) in
    let many : length samples ≡ s.block = length-values s levels ∙ restored.len in
    let zero = zero-placed r sent in
    let legal = legal_values s levels restored.legal in
    let contents : block_data s b (value_at s before) samples ≡ contents_of r ds = elim (bool_cases s.preprocess) [
      | inl e ↦
          contents_restored (value_at s before) (value_at s from) samples head.is e (record { len = len; zero = zero; some = restored.some })
          (record { legal = sample_at s from head.begins; some = head.value; none = head.same })
          (record { legal = legal; len = many; ranks = ranks_of_values s from levels ∙ (sym (ranks_alone s from levels e) ∙ restored.residuals) })
      | inr e ↦
          contents_of_patterns s b (value_at s before) ds samples (no_reference r head.is e) e (sym (patterns_alone s from levels e) ∙ restored.residuals)
          ∙ ap (λ o. contents_of o ds) (sym (none_is r head.is e))
    ] in
    record {
      block = record { reference = head.is; len = len };
      zero = zero;
      fit = subst (All (λ d. d < value_count s)) restored.residuals (residuals_fit s from levels restored.bits head.begins restored.legal);
      gives = record { len = many; legal = legal; blocks_are = ap (λ x. x ∷ []) contents };
    }
  where
    none_is : (r : Option ℕ) → IsReference s b r → s.preprocess ≡ false → r ≡ None
    none_is None is e = refl
    none_is (Some v) is e = absurd (let f : true ≡ false = is.there ∙ ap (λ p. p && (place s b == 0)) e in cc)

    no_reference : (r : Option ℕ) → IsReference s b r → s.preprocess ≡ false → IsReference s b None
    no_reference r is e = subst (IsReference s b) (none_is r is e) is

-- the first are as they are said to be, and the others as they are
split_at : (n : ℕ) (front xs : List ℕ) → take n xs ≡ front → xs ≡ front ++ drop n xs
split_at n front xs e = sym (take-append-drop n xs) ∙ ap (λ z. z ++ drop n xs) e

-- high parts of zeros change nothing, and neither do low parts of no bits
no_highs : (n k : ℕ) (ls : List ℕ) → length ls ≡ n → joined_parts k (replicate n 0) ls ≡ ls
no_highs zero k [] e = refl
no_highs zero k (l ∷ ls) e = absurd (omega (arith, e))
no_highs (suc n) k [] e = absurd (omega (arith, e))
no_highs (suc n) k (l ∷ ls) e =
    let none : 0 * 2 ^ k + l ≡ l = omega arith in
    let rest = no_highs n k ls (omega (arith, e)) in
    λ j. none j ∷ rest j

no_lows : (hs ls : List ℕ) → length ls ≡ length hs → All (λ l. l < 2 ^ 0) ls → joined_parts 0 hs ls ≡ hs
no_lows [] ls e low = refl
no_lows (h ∷ hs) [] e low = absurd (omega (arith, e))
no_lows (h ∷ hs) (l ∷ ls) e low =
    let none : l < 1 = low 0 0 (omega arith) in
    let first : h * 2 ^ 0 + l ≡ h = omega (arith, none) in
    let rest = no_lows hs ls (omega (arith, e)) (λ i d lt. low (suc i) d (omega (arith, lt))) in
    λ j. first j ∷ rest j

-- parts of which the first are zeros, joined
zeros-joined : (n k : ℕ) (highs lows : List ℕ) → length lows ≡ length highs → n ≤ length highs → take n highs ≡ replicate n 0 → take n lows ≡ replicate n 0
    → joined_parts k highs lows ≡ replicate n 0 ++ joined_parts k (drop n highs) (drop n lows)
zeros-joined zero k highs lows same few e f = refl
zeros-joined (suc n) k [] lows same few e f = absurd (omega (arith, few))
zeros-joined (suc n) k (x ∷ xs) [] same few e f = absurd (omega (arith, same))
zeros-joined (suc n) k (x ∷ xs) (y ∷ ys) same few e f =
    let high : x ≡ 0 = ap (λ l. slice_index_or l 0 0) e in
    let low : y ≡ 0 = ap (λ l. slice_index_or l 0 0) f in
    let none : 0 * 2 ^ k + 0 ≡ 0 = omega arith in
    let first : x * 2 ^ k + y ≡ 0 = (λ j. high j * 2 ^ k + low j) ∙ none in
    let rest = zeros-joined n k xs ys (omega (arith, same)) (omega (arith, few)) (ap (drop 1) e) (ap (drop 1) f) in
    λ j. first j ∷ rest j

-- the fields of a block, and levels that have residuals with its parts
pub record PartsOfBlock (buffered : List Bool) (s : Parameters) (size words omitted k from : ℕ) (highs lows levels : List ℕ) : Type 0 where
  pub some : 2 ≤ size
  pub size_is : size ≡ s.block
  pub bits : 1 ≤ s.bits
  pub highs_are : length highs ≡ size
  pub lows_are : length lows ≡ size
  pub ahead : LowsAhead buffered words omitted k lows
  pub near : HaveParts s from k highs lows levels
  pub within : words + (size - omitted) * k ≤ length buffered

restored_from : {buffered : List Bool} {s : Parameters} {size words omitted k from : ℕ} {highs lows levels ds : List ℕ} → PartsOfBlock buffered s size words omitted k from highs lows levels
    → joined_parts k highs lows ≡ ds → IsRestoredFrom s from ds levels
restored_from parts joined = record {
  some = omega (arith, parts.some, parts.size_is);
  bits = parts.bits;
  len = parts.near.len ∙ (parts.highs_are ∙ parts.size_is);
  legal = parts.near.legal;
  residuals = parts.near.residuals ∙ joined;
}

-- a block by split k
pub split_ahead : {buffered : List Bool} {s : Parameters} {b before size from omitted head n k : ℕ} {highs lows levels : List ℕ} → k ≤ k_max s
    → word (id_len s) (k + 1) ≡ take (id_len s) buffered → HeadAhead buffered s b before (id_len s) from omitted head → HighsAhead buffered head omitted highs n
    → PartsOfBlock buffered s size (head + n) omitted k from highs lows levels → BlockAhead buffered s b (value_at s before) levels (head + n + (size - omitted) * k) 0
split_ahead {buffered} {s} {b} {before} {size} {omitted} {head = head_len} {n} {k} {highs} {lows} {levels} small id head high parts =
    let r = head.reference in
    let a = head.part in
    let m = (size - omitted) * k in
    let few = head.few in
    let head_is = head.len_is in
    let ms = drop omitted highs in
    let ls = drop omitted lows in
    let sent = joined_parts k ms ls in
    let same : length lows ≡ length highs = parts.lows_are ∙ sym parts.highs_are in
    let as_many : length ls ≡ length ms = length-drop omitted lows ∙ (ap (λ l. l - omitted) same ∙ sym (length-drop omitted highs)) in
    let low = All-drop (λ l. l < 2 ^ k) omitted lows parts.ahead.low in
    let joined : joined_parts k highs lows ≡ reference_place r ++ sent =
    zeros-joined omitted k highs lows same (omega (arith, few, parts.some, parts.highs_are)) high.zeros parts.ahead.zeros ∙ ap (λ xs. xs ++ sent) (sym head.place) in
    let contents = contents_ahead sent head (restored_from parts joined) in
    let first : flat_map fundamental_sequence ms ≡ take n (drop (id_len s + a) buffered) = high.spelled ∙ ap (λ h. take n (drop h buffered)) head_is in
    let second : flat_map (word k) ls ≡ take m (drop (id_len s + a + n) buffered) = parts.ahead.spelled ∙ (λ j. take ((parts.lows_are j - omitted) * k) (drop (head_is j + n) buffered)) in
    let spelled : flat_map (λ d. fundamental_sequence (d / 2 ^ k)) (sent_from r (reference_place r ++ sent)) ++ flat_map (word k) (sent_from r (reference_place r ++ sent))
    ≡ flat_map fundamental_sequence ms ++ flat_map (word k) ls =
    ap (λ xs. flat_map (λ d. fundamental_sequence (d / 2 ^ k)) xs ++ flat_map (word k) xs) (coded-placed r sent) ∙ (λ j. high_pieces k ms ls as_many low j ++ low_pieces k ms ls as_many j) in
    let all : head_len + n + m ≡ id_len s + a + n + m = omega (arith, head_is) in
    record {
      set = Split k (contents_of r (reference_place r ++ sent));
      form = (contents.block, contents.zero, small);
      run_sound = tt;
      residuals_sound = contents.fit;
      within = parts.within;
      bits =
          ap (λ l. take l buffered) all
          ∙ (four-parts buffered (id_len s) a n m id head.bits first second
          ∙ ap (λ xs. word (id_len s) (k + 1) ++ (reference_bits s r ++ xs)) (sym spelled));
      turns_are = refl;
      few = omega arith;
      legal = parts.near.legal;
      gives = contents.gives;
    }

-- a block without compression
pub uncompressed_ahead : {buffered : List Bool} {s : Parameters} {b before size from omitted head : ℕ} {lows levels : List ℕ}
    → word (id_len s) (2 ^ id_len s - 1) ≡ take (id_len s) buffered → HeadAhead buffered s b before (id_len s) from omitted head
    → PartsOfBlock buffered s size head omitted s.bits from (take size (replicate 80 0)) lows levels → size ≤ 64
    → BlockAhead buffered s b (value_at s before) levels (head + (size - omitted) * s.bits) 0
uncompressed_ahead {buffered} {s} {b} {before} {size} {omitted} {head = head_len} {lows} {levels} id head parts most =
    let r = head.reference in
    let a = head.part in
    let m = (size - omitted) * s.bits in
    let head_is = head.len_is in
    let sent = drop omitted lows in
    let zeros : take size (replicate 80 0) ≡ replicate size 0 = take-replicate size 80 0 (omega (arith, most)) in
    let joined : joined_parts s.bits (take size (replicate 80 0)) lows ≡ reference_place r ++ sent =
    ap (λ hs. joined_parts s.bits hs lows) zeros
    ∙ (no_highs size s.bits lows parts.lows_are ∙ (split_at omitted (replicate omitted 0) lows parts.ahead.zeros ∙ ap (λ z. z ++ sent) (sym head.place))) in
    let contents = contents_ahead sent head (restored_from parts joined) in
    let words : flat_map (word s.bits) sent ≡ take m (drop (id_len s + a) buffered) = parts.ahead.spelled ∙ (λ j. take ((parts.lows_are j - omitted) * s.bits) (drop (head_is j) buffered)) in
    let all : head_len + m ≡ id_len s + a + m = omega (arith, head_is) in
    record {
      set = NoCompression (contents_of r (reference_place r ++ sent));
      form = (contents.block, contents.zero, contents.fit);
      run_sound = tt;
      residuals_sound = tt;
      within = parts.within;
      bits =
          ap (λ l. take l buffered) all
          ∙ (three-parts buffered (id_len s) a m id head.bits words
          ∙ ap (λ xs. word (id_len s) (2 ^ id_len s - 1) ++ (reference_bits s r ++ flat_map (word s.bits) xs)) (sym (coded-placed r sent)));
      turns_are = refl;
      few = omega arith;
      legal = parts.near.legal;
      gives = contents.gives;
    }

-- a block by second extension
pub pairs_block_ahead : {buffered : List Bool} {s : Parameters} {b before size from omitted head n v searched : ℕ} {numbers lows levels : List ℕ}
    → word (id_len s) 0 ≡ take (id_len s) buffered → v < 2 → 0 < v → word 1 v ≡ take 1 (drop (id_len s) buffered)
    → HeadAhead buffered s b before (id_len s + 1) from omitted head → PairsAhead buffered head omitted numbers n searched → PartsOfBlock buffered s size (head + n) omitted 0 from numbers lows levels
    → BlockAhead buffered s b (value_at s before) levels (head + n + (size - omitted) * 0) searched
pairs_block_ahead {buffered} {s} {b} {before} {size} {omitted} {head = head_len} {n} {v} {numbers} {lows} {levels} id lt pos bit head pairs parts =
    let r = head.reference in
    let a = head.part in
    let head_is = head.len_is in
    let sent = drop omitted numbers in
    let placed : numbers ≡ reference_place r ++ sent = split_at omitted (replicate omitted 0) numbers pairs.zeros ∙ ap (λ z. z ++ sent) (sym head.place) in
    let joined : joined_parts 0 numbers lows ≡ reference_place r ++ sent = no_lows numbers lows (parts.lows_are ∙ sym parts.highs_are) parts.ahead.low ∙ placed in
    let contents = contents_ahead sent head (restored_from parts joined) in
    let codes : flat_map fundamental_sequence (pair_codes numbers) ≡ take n (drop (id_len s + 1 + a) buffered) = pairs.spelled ∙ ap (λ h. take n (drop h buffered)) head_is in
    let all : head_len + n + (size - omitted) * 0 ≡ id_len s + 1 + a + n = omega (arith, head_is) in
    record {
      set = SecondExtension (contents_of r (reference_place r ++ sent));
      form = contents.block;
      run_sound = tt;
      residuals_sound = (contents.zero, contents.fit);
      within = parts.within;
      bits =
          ap (λ l. take l buffered) all
          ∙ (four-parts buffered (id_len s) 1 a n id (sym (one_bit v lt pos) ∙ bit) head.bits codes
          ∙ ap (λ xs. word (id_len s) 0 ++ true ∷ (reference_bits s r ++ flat_map fundamental_sequence (pair_codes xs))) placed);
      turns_are = ap sum (sym placed) ∙ pairs.turns_are;
      few = omega (arith, pairs.few);
      legal = parts.near.legal;
      gives = contents.gives;
    }
