-- What is read of a block after its identifier.
use Rattle.std.proofs.Common.{◌≡◌, ℕ, suc, ◌+◌, ◌-◌, ◌*◌, ◌/◌, ◌^◌, ◌<◌, ◌≤◌, Bool, true, false, List, [], ◌∷◌, ◌++◌, length, refl, sym, ◌∙◌, ap, subst, arith, append_assoc, length-append, replicate}
use Rattle.std.proofs.{Common.take, Common.drop, Common.length-drop, Common.Option, Common.Some, Common.None, lemmas.Grind.common_steps}
use Rattle.rice_code.proofs.Words.{All, flat_map, is_some, slice_index, OnSome, append-nil, length-replicate, length-take-le, take-append-drop, All-replicate, Reader, Takes, Stops, BitFault}
use Rattle.rice_code.proofs.Words.{sequence_reads, takes-append, stops-append, length-word, Parameters, IsBlockSize, IsLegal, value_count, k_max, is_reference, pair_codes, joined_parts, count_pairs}
use Rattle.rice_code.proofs.Words.{length-words, length-joined, pow_pos, word, fundamental_sequence, BlockData, CodedDataSet, NoCompression, SecondExtension, Split, sent_residuals, sent_from}
use Rattle.rice_code.proofs.Words.{reference_bits, run_tail, IsForm, IsReference, IsBlock, Row, CountRow, WordRow, PairRow, ones, BlockRead, BlockCut, PartsRead, PartsCut, reference_place, set_tail}
use Rattle.rice_code.proofs.lemmas.decode.RowsOfFields.{put_rest, ones-append, ones-zeros, ones-sequence, ones-sequences}
use Rattle.rice_code.proofs.lemmas.decode.JoinedResiduals.{high_pieces, low_pieces, highs_small, joined_highs}
use Rattle.rice_code.proofs.lemmas.{code.FormsReadInOneWay.after_reference, encode.OptionTexts.no_digits}
pub use Rattle.rice_bits.proofs.lemmas.bits.JoinedBits.{up_to_end}
use borrow.Rule.Slice.PartMut.{put_mid}

-- residuals put after the place of the reference sample are those that are sent
pub coded-placed : (r : Option ℕ) (vs : List ℕ) → sent_from r (reference_place r ++ vs) ≡ vs
coded-placed None vs = refl
coded-placed (Some v) vs = refl

-- the residual at the place of the reference sample, if there is one, is 0
pub zero-placed : (r : Option ℕ) (vs : List ℕ) → OnSome r (slice_index (reference_place r ++ vs) 0 ≡ 0)
zero-placed None vs = tt
zero-placed (Some v) vs = refl

-- what holds of 0 and of the residuals that are sent holds of all residuals of the block
pub all-placed : (P : ℕ → Type 0) (r : Option ℕ) (vs : List ℕ) → P 0 → All P vs → All P (reference_place r ++ vs)
all-placed P None vs z h = h
all-placed P (Some v) vs z h = grind (arith, common_steps)

-- as many residuals are coded at a block, whatever they are
pub length-coded_at : (s : Parameters) (b : ℕ) (c : BlockData) (r : Option ℕ) (count : ℕ) → IsBlock s b c → IsReference s b r
    → count + length (reference_place r) ≡ s.block → length (sent_residuals c) ≡ count
length-coded_at s b c r count h k e = grind (arith, common_steps)

-- where a block has a reference sample, it is sent in as many bits as a sample has
pub length-reference : (s : Parameters) (b : ℕ) (r : Option ℕ) → IsReference s b r → is_reference s b ≡ true → length (reference_bits s r) ≡ s.bits
length-reference s b None h k = absurd (let f : false ≡ true = h.there ∙ k in cc)
length-reference s b (Some v) h k = length-word s.bits v

-- nothing begins with less than a reference
pub short_reference : {s : Parameters} {b : ℕ} {r : Option ℕ} {bits : List Bool} (rest more : List Bool) → IsReference s b r → is_reference s b ≡ true → length bits < s.bits →
    bits ≡ (reference_bits s r ++ rest) ++ more → ⊥
short_reference {s} {b} {r} rest more h k lt e =
    omega (arith, ap length e, length-append (reference_bits s r ++ rest) more, length-append (reference_bits s r) rest, length-reference s b r h k)

-- a reference sample is the first of what follows the identifier
pub bits_after_reference : {s : Parameters} {b : ℕ} {r q : Option ℕ} (bits rest more : List Bool) → IsReference s b r → IsReference s b q →
    reference_bits s r ++ bits ≡ (reference_bits s q ++ rest) ++ more → (r ≡ q) × (bits ≡ rest ++ more)
bits_after_reference {s} {b} {r} {q} bits rest more h k e =
    let a = after_reference r q h k bits rest [] more (append-nil (reference_bits s r ++ bits) ∙ e) in
    (a.0, sym (append-nil bits) ∙ a.1)

short_words : (width count : ℕ) (vs : List ℕ) (bits more : List Bool) → length vs ≡ count → length bits < count * width → bits ≡ flat_map (word width) vs ++ more → ⊥
short_words width count vs bits more n lt e = grind (arith, common_steps, length-append, length-words)

-- a row that was read alone follows other numbers
pub row_after_others : {I : Type 0} {piece : ℕ → List Bool} (P : ℕ → Type 0) {old new : Reader I} {count : ℕ} (before : List ℕ) {alone after : List ℕ}
    → Row piece P old new count [] alone → after ≡ before ++ alone → Row piece P old new count before after
row_after_others P before row e = grind (arith, common_steps)

-- a block by no compression was read: its reference, and then a row of words
pub no_compression_read : {I : Type 0} {old mid new : Reader I} {first last : ℕ} {s : Parameters} {b : ℕ} {r : Option ℕ} {count : ℕ} {items : List ℕ}
    → IsReference s b r → count + length (reference_place r) ≡ s.block → 0 < value_count s → Takes old mid (reference_bits s r)
    → Row (word s.bits) (λ v. v < 2 ^ s.bits) mid new count (reference_place r) items → last + old.taken ≡ first + new.taken
    → BlockRead old new first last s b NoCompression (record { reference = r; sound = true }) items
no_compression_read {old} {mid} {new} {s} {r} h n z t row steps =
    let len : length (reference_place r ++ row.values) ≡ s.block = omega (arith, length-append (reference_place r) row.values, row.len) in
    let fit = all-placed (λ d. d < value_count s) r row.values z row.each in
    record {
      contents = record { reference = r; residuals = reference_place r ++ row.values };
      form = (record { reference = h; len = len }, zero-placed r row.values, fit);
      reference_is = refl;
      takes = rw (coded-placed r row.values) (takes-append old mid new _ _ t row.takes);
      reported = λ _. (tt, fit, sym row.appended);
      refused = λ e. absurd cc;
      steps = omega arith;
    }

-- a block by no compression is cut off: too few bits are left for its words
pub no_compression_cut : {I : Type 0} {old mid new : Reader I} {s : Parameters} {b : ℕ} {r : Option ℕ} (count : ℕ) {bits : List Bool} {f : BitFault}
    → IsReference s b r → count + length (reference_place r) ≡ s.block → Takes old mid (reference_bits s r)
    → length bits < count * s.bits → Stops mid new bits f → BlockCut old new s b NoCompression f
no_compression_cut {old} {mid} {new} {s} {b} {r} count {bits} {f} h n t short stops = record {
  bits = reference_bits s r ++ bits;
  stops = stops-append old mid new _ bits f t stops;
  none = λ c more form e.
      (let a = bits_after_reference bits (flat_map (word s.bits) (sent_residuals c)) more h form.0.reference e in
      short_words s.bits count (sent_residuals c) bits more (length-coded_at s b c r count form.0 h n) short a.1);
}

-- a block is cut off inside its reference
pub cut_at_reference : {I : Type 0} {old new : Reader I} (s : Parameters) (b : ℕ) (option : BlockData → CodedDataSet) (rest : BlockData → List Bool) {bits : List Bool} {f : BitFault}
    → ((c : BlockData) → set_tail s (option c) ≡ reference_bits s c.reference ++ rest c)
    → ((c : BlockData) → IsForm s b (option c) → IsReference s b c.reference) → is_reference s b ≡ true → length bits < s.bits → Stops old new bits f
    → BlockCut old new s b option f
cut_at_reference s b option rest {bits} tail refs k short stops = grind (arith, common_steps, short_reference)

-- a run is cut off inside its reference: so few bits begin with no run
pub run_cut_at_reference : {s : Parameters} (b : ℕ) (bits : List Bool) → is_reference s b ≡ true → length bits < s.bits
    → (r : Option ℕ) (m : ℕ) (more : List Bool) → IsReference s b r → bits ≡ run_tail s r m ++ more → ⊥
run_cut_at_reference {s} b bits k short r m more h e = short_reference (fundamental_sequence m) more h k short e

-- a run is cut off after its reference: zeros alone begin with no codeword of a run
pub run_cut : {s : Parameters} (b : ℕ) (r : Option ℕ) (zeros : ℕ) → IsReference s b r
    → (q : Option ℕ) (m : ℕ) (more : List Bool) → IsReference s b q → reference_bits s r ++ replicate zeros false ≡ run_tail s q m ++ more → ⊥
run_cut {s} b r zeros h q m more k e =
    let a = bits_after_reference (replicate zeros false) (fundamental_sequence m) more h k e in
    omega (arith, ap ones a.1, ones-zeros zeros, ones-append (fundamental_sequence m) more, ones-sequence m)

-- a block by second extension was read, sound or not: its reference, and then a row of pairs
pub second_extension_read : {I : Type 0} {old mid new : Reader I} {first second last : ℕ} {s : Parameters} {b : ℕ} {r : Option ℕ} {half : ℕ} {items : List ℕ} (sound : Bool)
    → IsReference s b r → half + half ≡ s.block → Takes old mid (reference_bits s r)
    → PairRow mid new half items second last → second + old.taken ≡ first + mid.taken
    → (sound ≡ true → OnSome r (slice_index items 0 ≡ 0) × All (λ d. d < value_count s) items)
    → (sound ≡ false → OnSome r (slice_index items 0 ≡ 0) × All (λ d. d < value_count s) items → ⊥)
    → BlockRead old new first last s b SecondExtension (record { reference = r; sound = sound }) items
second_extension_read {old} {mid} {new} {r} {items} sound h n t row steps reported refused = record {
  contents = record { reference = r; residuals = items };
  form = record { reference = h; len = row.len ∙ n };
  reference_is = refl;
  takes = takes-append old mid new _ _ t row.takes;
  reported = λ e. (reported e, (reported e).1, refl);
  refused = refused;
  steps = omega (arith, row.steps);
}

-- a block by second extension is cut off: fewer ones are left than it has pairs
pub second_extension_cut : {I : Type 0} {old mid new : Reader I} {s : Parameters} {b : ℕ} {r : Option ℕ} {half : ℕ} {bits : List Bool} {f : BitFault}
    → IsReference s b r → half + half ≡ s.block → Takes old mid (reference_bits s r)
    → ones bits < half → Stops mid new bits f → BlockCut old new s b SecondExtension f
second_extension_cut {old} {mid} {new} {s} {b} {r} {half} {bits} {f} h n t short stops = record {
  bits = reference_bits s r ++ bits;
  stops = stops-append old mid new _ bits f t stops;
  none = λ c more form e.
      (let a = bits_after_reference bits (flat_map fundamental_sequence (pair_codes c.residuals)) more h form.reference e in
      omega (arith, ap ones a.1, ones-append (flat_map fundamental_sequence (pair_codes c.residuals)) more, ones-sequences (pair_codes c.residuals), count_pairs half c.residuals (form.len ∙ sym n)));
}

all-suffix : (P : ℕ → Type 0) (r : Option ℕ) (vs : List ℕ) → All P (reference_place r ++ vs) → All P vs
all-suffix P None vs h = h
all-suffix P (Some v) vs h = λ i d lt. h (suc i) d (omega arith)

-- a split of a block, with so many parts after its reference
pub record IsSplitOf (s : Parameters) (b k : ℕ) (r : Option ℕ) (count : ℕ) : Type 0 where
  pub reference : IsReference s b r
  pub small : k ≤ k_max s
  pub parts : count + length (reference_place r) ≡ s.block

-- a split was read, sound or not: its reference, and then the parts whose joined residuals are those of the block
pub split_read : {I : Type 0} {old mid new : Reader I} {first last : ℕ} {s : Parameters} {b k : ℕ} {r : Option ℕ} {count most : ℕ} {small : Bool} {reported items : List ℕ} (sound : Bool)
    → IsSplitOf s b k r count → Takes old mid (reference_bits s r) → (p : PartsRead mid new most k small count reported) → last + old.taken ≡ first + new.taken
    → (sound ≡ true → All (λ d. d < value_count s) (joined_parts k p.highs p.lows)) → (sound ≡ true → items ≡ reference_place r ++ joined_parts k p.highs p.lows)
    → (sound ≡ false → All (λ d. d < value_count s) (joined_parts k p.highs p.lows) → ⊥)
    → BlockRead old new first last s b (Split k) (record { reference = r; sound = sound }) items
split_read {old} {mid} {new} {s} {k} {r} {count} {reported} sound split t p steps fit same refused =
    let ds = joined_parts k p.highs p.lows in
    let same_len : length p.lows ≡ length p.highs = p.as_many_lows ∙ sym p.as_many_highs in
    let nd : length ds ≡ count = length-joined k p.highs p.lows same_len ∙ p.as_many_highs in
    let hp : flat_map (λ d. fundamental_sequence (d / 2 ^ k)) ds ≡ flat_map fundamental_sequence p.highs = high_pieces k p.highs p.lows same_len p.low in
    let lp : flat_map (word k) ds ≡ flat_map (word k) p.lows = low_pieces k p.highs p.lows same_len in
    record {
      contents = record { reference = r; residuals = reference_place r ++ ds };
      form = (record { reference = split.reference; len = omega (arith, length-append (reference_place r) ds) }, zero-placed r ds, split.small);
      reference_is = refl;
      takes = rw (coded-placed r ds, hp, lp) (takes-append old mid new _ _ t p.takes);
      reported = λ e. (let q = all-placed (λ d. d < value_count s) r ds (pow_pos s.bits) (fit e) in (q, q, sym (same e)));
      refused = λ e q. refused e (all-suffix (λ d. d < value_count s) r ds q);
      steps = omega arith;
    }

-- a high part is too large
pub split_large : {I : Type 0} {old mid new : Reader I} {first last : ℕ} {s : Parameters} {b k : ℕ} {r : Option ℕ} {count : ℕ} {small : Bool} {reported items : List ℕ}
    → IsReference s b r → k ≤ k_max s → count + length (reference_place r) ≡ s.block → Takes old mid (reference_bits s r)
    → PartsRead mid new ((value_count s - 1) / 2 ^ k) k small count reported → small ≡ false → last + old.taken ≡ first + new.taken
    → BlockRead old new first last s b (Split k) (record { reference = r; sound = false }) items
split_large {old} {mid} {new} {first} {last} {s} {b} {k} {r} {count} {small} {reported} {items} h le n t p e steps =
    split_read false (record { reference = h; small = le; parts = n }) t p steps (λ f. absurd cc) (λ f. absurd cc)
    (λ f all. p.refused e (highs_small k (value_count s) p.highs p.lows (p.as_many_lows ∙ sym p.as_many_highs) (pow_pos s.bits) all))

-- high parts stand in their places
pub split_joined : {I : Type 0} {old mid new : Reader I} {first last : ℕ} {s : Parameters} {b k : ℕ} {r : Option ℕ} {count : ℕ} {small : Bool} {reported items : List ℕ} (sound : Bool)
    → IsSplitOf s b k r count → Takes old mid (reference_bits s r)
    → PartsRead mid new ((value_count s - 1) / 2 ^ k) k small count reported → small ≡ true → last + old.taken ≡ first + new.taken
    → items ≡ reference_place r ++ reported
    → (sound ≡ true → All (λ d. d < value_count s) reported) → (sound ≡ false → All (λ d. d < value_count s) reported → ⊥)
    → BlockRead old new first last s b (Split k) (record { reference = r; sound = sound }) items
split_joined {old} {mid} {new} {first} {last} {s} {b} {k} {r} {count} {small} {reported} {items} sound split t p e steps placed_so below above =
    let is : reported ≡ joined_parts k p.highs p.lows = (p.reported e).1 in
    split_read sound split t p steps (λ f. subst (λ xs. All (λ d. d < value_count s) xs) is (below f))
    (λ f. placed_so ∙ ap (λ xs. reference_place r ++ xs) is)
    (λ f all. above f (subst (λ xs. All (λ d. d < value_count s) xs) (sym is) all))

-- the high parts of what was joined
pub parts_small : {I : Type 0} (old new : Reader I) (most k : ℕ) (small : Bool) (count : ℕ) (reported : List ℕ)
    → PartsRead old new most k small count reported → small ≡ true → All (λ d. d / 2 ^ k ≤ most) reported
parts_small old new most k small count reported p e =
    subst (All (λ d. d / 2 ^ k ≤ most)) (sym (p.reported e).1) (joined_highs k most p.highs p.lows (p.as_many_lows ∙ sym p.as_many_highs) p.low (p.reported e).0)

-- a row of high parts, and then one of low parts
pub parts_read : {I : Type 0} {old mid new : Reader I} {most k : ℕ} {small : Bool} {count : ℕ} {reported lows residuals : List ℕ}
    → CountRow old mid most small count reported → WordRow k mid new count lows → (small ≡ true → residuals ≡ joined_parts k reported lows)
    → PartsRead old new most k small count residuals
parts_read {old} {mid} {new} {k} {reported} {lows} high low joined = record {
  highs = high.values;
  lows = low.values;
  as_many_highs = high.len;
  as_many_lows = low.len;
  low = low.each;
  takes = takes-append old mid new _ _ high.takes low.takes;
  reported = λ e. ((high.reported_are e).1, joined e ∙ (ap (λ xs. joined_parts k xs lows) (high.reported_are e).0 ∙ ap (joined_parts k high.values) low.appended));
  refused = high.refused;
}

joined_without_low : (ms : List ℕ) → joined_parts 0 ms (replicate (length ms) 0) ≡ ms
joined_without_low [] = refl
joined_without_low (m ∷ ms) =
    let same : m * 2 ^ 0 + 0 ≡ m = omega arith in
    λ i. same i ∷ joined_without_low ms i

-- parts without low digits are the counts alone
pub counts_read : {I : Type 0} (old new : Reader I) (most : ℕ) (small : Bool) (count : ℕ) (reported : List ℕ)
    → CountRow old new most small count reported → PartsRead old new most 0 small count reported
counts_read old new most small count reported high =
    let ms = high.values in
    let lows : List ℕ = replicate (length ms) 0 in
    record {
      highs = ms;
      lows = lows;
      as_many_highs = high.len;
      as_many_lows = length-replicate (length ms) 0 ∙ high.len;
      low = All-replicate (λ v. v < 1) (length ms) 0 (omega arith);
      takes = subst (λ bits. Takes old new bits) (sym (ap (λ bits. flat_map fundamental_sequence ms ++ bits) (no_digits lows) ∙ append-nil (flat_map fundamental_sequence ms))) high.takes;
      reported = λ e. ((high.reported_are e).1, (high.reported_are e).0 ∙ sym (joined_without_low ms));
      refused = high.refused;
    }

ones-high : (k : ℕ) (ds : List ℕ) → ones (flat_map (λ d. fundamental_sequence (d / 2 ^ k)) ds) ≡ length ds
ones-high k [] = refl
ones-high k (d ∷ ds) = omega (arith, ones-append (fundamental_sequence (d / 2 ^ k)) (flat_map (λ d. fundamental_sequence (d / 2 ^ k)) ds), ones-sequence (d / 2 ^ k), ones-high k ds)

-- too few high parts
pub parts_cut_high : {I : Type 0} (old new : Reader I) (k count : ℕ) (bits : List Bool) (f : BitFault) → ones bits < count → Stops old new bits f → PartsCut old new k count f
parts_cut_high old new k count bits f short stops = grind (arith, common_steps, ones-append, ones-high)

after_sequences : (k : ℕ) (ms ds : List ℕ) (x y : List Bool) → length ms ≡ length ds → flat_map fundamental_sequence ms ++ x ≡ flat_map (λ d. fundamental_sequence (d / 2 ^ k)) ds ++ y → x ≡ y
after_sequences k [] [] x y n e = e
after_sequences k (m ∷ ms) (d ∷ ds) x y n e =
    let a = sequence_reads m (d / 2 ^ k) (flat_map fundamental_sequence ms ++ x) (flat_map (λ d. fundamental_sequence (d / 2 ^ k)) ds ++ y)
    (sym (append_assoc (fundamental_sequence m) (flat_map fundamental_sequence ms) x)
    ∙ (e ∙ append_assoc (fundamental_sequence (d / 2 ^ k)) (flat_map (λ d. fundamental_sequence (d / 2 ^ k)) ds) y)) in
    after_sequences k ms ds x y (omega arith) a.1
after_sequences k _ _ x y n e = absurd (omega arith)

-- too few low parts
pub parts_cut_low : {I : Type 0} {old mid new : Reader I} {most : ℕ} (k : ℕ) {small : Bool} {count : ℕ} {reported : List ℕ} {bits : List Bool} {f : BitFault}
    → CountRow old mid most small count reported → length bits < count * k → Stops mid new bits f → PartsCut old new k count f
parts_cut_low {old} {mid} {new} k {count} {bits} {f} high short stops = record {
  bits = flat_map fundamental_sequence high.values ++ bits;
  stops = stops-append old mid new _ bits f high.takes stops;
  none = grind (arith, common_steps, after_sequences, append_assoc, short_words);
}

-- a split is cut off among its high and low parts
pub split_cut : {I : Type 0} {old mid new : Reader I} {s : Parameters} {b k : ℕ} {r : Option ℕ} {count : ℕ} {f : BitFault}
    → IsReference s b r → count + length (reference_place r) ≡ s.block → Takes old mid (reference_bits s r)
    → PartsCut mid new k count f → BlockCut old new s b (Split k) f
split_cut {old} {mid} {new} {s} {b} {k} {r} {count} {f} h n t cut = record {
  bits = reference_bits s r ++ cut.bits;
  stops = stops-append old mid new _ cut.bits f t cut.stops;
  none = grind (arith, common_steps, bits_after_reference, length-coded_at);
}

-- a block is two halves
pub two_halves : (n : ℕ) → IsBlockSize n → n / 2 + n / 2 ≡ n
two_halves n h = omega (arith, h.2)

one_at_most : (r : Option ℕ) → length (reference_place r) ≤ 1
one_at_most None = omega arith
one_at_most (Some v) = omega arith

size_limits : (n : ℕ) → IsBlockSize n → (1 ≤ n) × (n ≤ 64)
size_limits n h = (omega (arith, h.0), h.1)

-- the residuals that are sent of a block
pub sent_part : (s : Parameters) (r : Option ℕ) (first : ℕ) (xs : List ℕ) → IsLegal s → first ≡ length (reference_place r) → length xs ≡ s.block
    → (first ≤ 1) × (length xs - first + length (reference_place r) ≡ s.block) × (0 < length xs) × (length xs ≤ 64)
sent_part s r first xs legal e n = grind (arith, common_steps, one_at_most, size_limits)

-- the coded residuals of a block: where they begin, and how many there are
pub coded_part : (s : Parameters) (r : Option ℕ) (first : ℕ) (xs : List ℕ) → IsLegal s → first ≡ length (reference_place r) → length xs ≡ s.block
    → (first ≤ length xs) × (length (take (length xs - first) (drop first xs)) + length (reference_place r) ≡ s.block)
coded_part s r first xs legal e n = grind (arith, common_steps, one_at_most, size_limits, length-take-le, length-drop)

-- the residuals that are sent stand after the place of the reference sample
pub sent_placed : (first : ℕ) (r : Option ℕ) (xs ys : List ℕ) → take first xs ≡ reference_place r → take first ys ≡ take first xs → ys ≡ reference_place r ++ drop first ys
sent_placed first r xs ys e h = sym (take-append-drop first ys) ∙ ap (λ z. z ++ drop first ys) (h ∙ e)

-- residuals that are written after the place of the reference sample
pub residuals_after_reference : (first : ℕ) (r : Option ℕ) (xs ys : List ℕ) → take first xs ≡ reference_place r → first ≤ length xs → put_mid first (length xs - first) xs ys ≡ reference_place r ++ ys
residuals_after_reference first r xs ys e h = put_rest first xs ys h ∙ ap (λ z. z ++ ys) e

-- where there is a reference sample, its place holds a single 0
pub zero-place : (r : Option ℕ) → is_some r ≡ true → 0 ∷ [] ≡ reference_place r
zero-place None h = absurd cc
zero-place (Some v) h = refl
