-- What is read of a data set.
use Rattle.std.proofs.Common.{◌≡◌, ℕ, zero, suc, ◌+◌, ◌-◌, ◌*◌, ◌%◌, ◌^◌, ◌<◌, ◌≤◌, ◌∙◌, Bool, true, false, List, [], ◌∷◌, ◌++◌, length, refl, sym, ap, subst, arith, length-append, Option, cond}
use Rattle.rice_code.proofs.Words.{if◌then◌else◌, nat_lt, ◌==◌, ◌&&◌, nat_tests, mod-eq_of_lt, pow_mono, Reader, Takes, Stops, is_blank, BitFault, takes-append, stops-append, length-word}
use Rattle.rice_code.proofs.Words.{blank-append, blank-word_positive, Parameters, id_len, word, BlockData, CodedDataSet, NoCompression, SecondExtension, Split, ZeroBlocks, RemainderOfSegment}
use Rattle.rice_code.proofs.Words.{bits_of_set, run_number, no_compression_tail, second_extension_tail, split_tail, run_tail, IsForm, IsReference, BlockRead, BlockCut, SetRead, SetCut}
use Rattle.rice_code.proofs.Words.{Residuals, Zeros, BlockSummary, common_steps}
use Rattle.rice_code.proofs.lemmas.code.FormsReadInOneWay.{head_reads, identifier, tail, wide_id}

-- a word of less than the identifier begins nothing
pub cut_identifier : (s : Parameters) (b : ℕ) (bits : List Bool) → length bits < id_len s → (d : CodedDataSet) (more : List Bool) → IsForm s b d → bits ≡ bits_of_set s d ++ more → ⊥
cut_identifier s b bits lt d more form e = grind (arith, common_steps, length-append, length-word)

cut_plain : (s : Parameters) (b : ℕ) {id : ℕ} {bits : List Bool} → id ≡ 2 ^ id_len s - 1
    → ((c : BlockData) (more : List Bool) → IsForm s b (NoCompression c) → bits ≡ no_compression_tail s c ++ more → ⊥)
    → (d : CodedDataSet) (more : List Bool) → IsForm s b d → id ≡ identifier s d → bits ≡ tail s d ++ more → ⊥
unfolding identifier tail
cut_plain s b e none (NoCompression c) more form i t = none c more form t
cut_plain s b e none (SecondExtension c) more form i t = let w = wide_id s in omega arith
cut_plain s b e none (Split k c) more form i t = let w = wide_id s in let le : k ≤ 2 ^ id_len s - 3 = form.2 in omega arith
cut_plain s b e none (ZeroBlocks r z) more form i t = let w = wide_id s in omega arith
cut_plain s b e none (RemainderOfSegment r) more form i t = let w = wide_id s in omega arith

-- bits after the identifier of a split that begin with no split
record CutAfterId (s : Parameters) (b id k : ℕ) (bits : List Bool) : Type 0 where
  id_is : id ≡ k + 1
  below : id < 2 ^ id_len s - 1
  none : ((c : BlockData) (more : List Bool) → IsForm s b (Split k c) → bits ≡ split_tail s k c ++ more → ⊥)

cut_split : (s : Parameters) (b : ℕ) {id : ℕ} (k : ℕ) {bits : List Bool} → CutAfterId s b id k bits
    → (d : CodedDataSet) (more : List Bool) → IsForm s b d → id ≡ identifier s d → bits ≡ tail s d ++ more → ⊥
unfolding identifier tail
cut_split s b k cut (NoCompression c) more form i t = omega arith
cut_split s b k cut (SecondExtension c) more form i t = omega arith
cut_split s b k {bits} cut (Split m c) more form i t =
    let same : m ≡ k = omega arith in
    let T : ℕ → Type 0 = λ j. IsForm s b (Split j c) × (bits ≡ split_tail s j c ++ more) in
    let q = subst T same (form, t) in cut.none c more q.0 q.1
cut_split s b k cut (ZeroBlocks r z) more form i t = omega arith
cut_split s b k cut (RemainderOfSegment r) more form i t = omega arith

-- no bit follows an identifier of 0,
no_bit : (s : Parameters) (b : ℕ) {bits : List Bool} → length bits < 1
    → (d : CodedDataSet) (more : List Bool) → IsForm s b d → 0 ≡ identifier s d → bits ≡ tail s d ++ more → ⊥
unfolding identifier tail
no_bit s b lt (NoCompression c) more form i t = let w = wide_id s in omega arith
no_bit s b lt (SecondExtension c) more form i t = let l = ap length t in omega arith
no_bit s b lt (Split k c) more form i t = omega arith
no_bit s b lt (ZeroBlocks r z) more form i t = let l = ap length t in omega arith
no_bit s b lt (RemainderOfSegment r) more form i t = let l = ap length t in omega arith

-- a 1 and bits that begin with no block by second extension,
no_second : (s : Parameters) (b : ℕ) {bits : List Bool} → ((c : BlockData) (more : List Bool) → IsForm s b (SecondExtension c) → bits ≡ second_extension_tail s c ++ more → ⊥)
    → (d : CodedDataSet) (more : List Bool) → IsForm s b d → 0 ≡ identifier s d → true ∷ bits ≡ tail s d ++ more → ⊥
unfolding identifier tail
no_second s b none (NoCompression c) more form i t = let w = wide_id s in omega arith
no_second s b none (SecondExtension c) more form i t = none c more form cc
no_second s b none (Split k c) more form i t = omega arith
no_second s b none (ZeroBlocks r z) more form i t = absurd cc
no_second s b none (RemainderOfSegment r) more form i t = absurd cc

-- or a 0 and bits that begin with no run: no coded data set begins so
no_run : (s : Parameters) (b : ℕ) {bits : List Bool} → ((r : Option ℕ) (m : ℕ) (more : List Bool) → IsReference s b r → bits ≡ run_tail s r m ++ more → ⊥)
    → (d : CodedDataSet) (more : List Bool) → IsForm s b d → 0 ≡ identifier s d → false ∷ bits ≡ tail s d ++ more → ⊥
unfolding identifier tail
no_run s b none (NoCompression c) more form i t = let w = wide_id s in omega arith
no_run s b none (SecondExtension c) more form i t = absurd cc
no_run s b none (Split k c) more form i t = omega arith
no_run s b none (ZeroBlocks r z) more form i t = none r (run_number z) more form.0 cc
no_run s b none (RemainderOfSegment r) more form i t = none r 4 more form cc

-- a coded data set with an identifier of 0 is cut off in what follows it
cut_low : {I : Type 0} {old new : Reader I} {first last : ℕ} (s : Parameters) (b : ℕ) (bits : List Bool) {f : BitFault} → Stops old new bits f
    → ((d : CodedDataSet) (more : List Bool) → IsForm s b d → 0 ≡ identifier s d → bits ≡ tail s d ++ more → ⊥)
    → (is_blank bits ≡ true → last + old.taken ≡ first + new.taken) → SetCut (word (id_len s) 0) old new first last s b f
cut_low s b bits stops none steps = record {
  bits = bits;
  stops = stops;
  none = λ d more form e. (let w = wide_id s in let a = head_reads s b 0 d bits more (omega arith) form e in none d more form a.0 a.1);
  steps = steps;
}

-- a coded data set is cut off after its identifier
cut_after_id : {I : Type 0} {old mid new : Reader I} {first last : ℕ} {s : Parameters} {b : ℕ} (id : ℕ) {bits : List Bool} {f : BitFault}
    → id < 2 ^ id_len s → Takes old mid (word (id_len s) id) → Stops mid new bits f
    → ((d : CodedDataSet) (more : List Bool) → IsForm s b d → id ≡ identifier s d → bits ≡ tail s d ++ more → ⊥)
    → (is_blank (word (id_len s) id ++ bits) ≡ true → last + old.taken ≡ first + new.taken) → SetCut [] old new first last s b f
cut_after_id {old} {mid} {new} {s} {b} id {bits} {f} lt t stops none steps = record {
  bits = word (id_len s) id ++ bits;
  stops = stops-append old mid new _ bits f t stops;
  none = λ d more form e. (let a = head_reads s b id d bits more lt form e in none d more form a.0 a.1);
  steps = steps;
}

-- an identifier that is not 0 has a 1
not_blank : (w id : ℕ) (bits : List Bool) → 0 < id → id < 2 ^ w → is_blank (word w id ++ bits) ≡ true → ⊥
not_blank w id bits some lt blank =
    let none : false ≡ true = sym (ap (λ b. b && is_blank bits) (blank-word_positive w id some lt)) ∙ (sym (blank-append (word w id) bits) ∙ blank) in cc

-- A coded data set whose identifier is all ones is cut off where its block by no compression is.
pub no_compression_set_cut : {I : Type 0} {old mid new : Reader I} (first last : ℕ) {s : Parameters} {b id : ℕ} {f : BitFault}
    → id < 2 ^ id_len s → id ≡ 2 ^ id_len s - 1 → Takes old mid (word (id_len s) id) → BlockCut mid new s b NoCompression f → SetCut [] old new first last s b f
no_compression_set_cut {old} {mid} {new} first last {s} {b} {id} {f} lt e t cut =
    let wide = wide_id s in
    cut_after_id id lt t cut.stops (cut_plain s b e cut.none) (λ blank. absurd (not_blank (id_len s) id cut.bits (omega arith) lt blank))

-- One whose identifier is that of a split is cut off where its block by this split is.
pub split_set_cut : {I : Type 0} {old mid new : Reader I} (first last : ℕ) {s : Parameters} {b : ℕ} (id k : ℕ) {f : BitFault}
    → id < 2 ^ id_len s - 1 → id ≡ k + 1 → Takes old mid (word (id_len s) id) → BlockCut mid new s b (Split k) f → SetCut [] old new first last s b f
split_set_cut {old} {mid} {new} first last {s} {b} id k {f} lt e t cut =
    cut_after_id id (omega arith) t cut.stops (cut_split s b k (record { id_is = e; below = lt; none = cut.none }))
    (λ blank. absurd (not_blank (id_len s) id cut.bits (omega arith) (omega arith) blank))

-- One whose identifier is 0 is cut off where the bit after it and what follows are.
pub low_set_cut : {I : Type 0} {old mid new : Reader I} (first : ℕ) {second last : ℕ} {s : Parameters} {b id : ℕ} {f : BitFault}
    → id ≡ 0 → Takes old mid (word (id_len s) id) → second + old.taken ≡ first + mid.taken → SetCut (word (id_len s) 0) mid new second last s b f → SetCut [] old new first last s b f
low_set_cut {old} {mid} {new} first {last} {s} {f} e t steps cut = record {
  bits = word (id_len s) 0 ++ cut.bits;
  stops = stops-append old mid new (word (id_len s) 0) cut.bits f (rw e at t) cut.stops;
  none = cut.none;
  steps = λ blank. omega (arith, steps, cut.steps (after (is_blank (word (id_len s) 0)) (is_blank cut.bits) (sym (blank-append (word (id_len s) 0) cut.bits) ∙ blank)));
}
  where
    after : (x y : Bool) → (x && y) ≡ true → y ≡ true
    after true y h = h
    after false y h = absurd (let none : false ≡ true = h in cc)

-- one whose identifier and block by no compression were read was read
pub no_compression_set : {I : Type 0} {old mid new : Reader I} {first second last : ℕ} {s : Parameters} {b id : ℕ} (head : BlockSummary) {items : List ℕ}
    → id ≡ 2 ^ id_len s - 1 → Takes old mid (word (id_len s) id) → second + old.taken ≡ first + mid.taken
    → BlockRead mid new second last s b NoCompression head items → SetRead [] old new first last s b (Residuals head) items
no_compression_set {old} {mid} {new} {s} head e t steps read = record {
  set = NoCompression read.contents;
  form = read.form;
  rest = bits_of_set s (NoCompression read.contents);
  begins = refl;
  takes = rw (← e) (takes-append old mid new _ _ t read.takes);
  tells = grind (arith, common_steps);
  steps = omega (arith, read.steps);
}

-- one whose identifier and block by a split were read was read
pub split_set : {I : Type 0} {old mid new : Reader I} {first second last : ℕ} {s : Parameters} {b : ℕ} (id k : ℕ) (head : BlockSummary) {items : List ℕ}
    → id ≡ k + 1 → Takes old mid (word (id_len s) id) → second + old.taken ≡ first + mid.taken
    → BlockRead mid new second last s b (Split k) head items → SetRead [] old new first last s b (Residuals head) items
split_set {old} {mid} {new} {s} id k head e t steps read = record {
  set = Split k read.contents;
  form = read.form;
  rest = bits_of_set s (Split k read.contents);
  begins = refl;
  takes = rw (← e) (takes-append old mid new _ _ t read.takes);
  tells = grind (arith, common_steps);
  steps = omega (arith, read.steps);
}

-- low data sets are data sets
pub low_set : {I : Type 0} {old mid new : Reader I} {first second last : ℕ} {s : Parameters} {b id : ℕ} {taken : Rattle.rice_code.specs.declared.decode.options.SetSummary.SetSummary} {items : List ℕ}
    → id ≡ 0 → Takes old mid (word (id_len s) id) → second + old.taken ≡ first + mid.taken
    → SetRead (word (id_len s) 0) mid new second last s b taken items → SetRead [] old new first last s b taken items
low_set {old} {mid} {new} {s} e t steps read = record {
  set = read.set;
  form = read.form;
  rest = bits_of_set s read.set;
  begins = refl;
  takes = subst (Takes old new) (sym read.begins) (rw e at (takes-append old mid new _ _ t read.takes));
  tells = read.tells;
  steps = omega (arith, read.steps);
}

-- one bit
bit_word : (v : ℕ) → v < 2 → word 1 v ≡ (if v == 0 then false ∷ [] else true ∷ [])
unfolding word
bit_word zero h = refl
bit_word (suc zero) h = refl
bit_word (suc (suc v)) h = absurd (omega arith)

-- a word of one digit that is 0 is one bit, a 0,
pub zero_bit : word 1 0 ≡ false ∷ []
zero_bit = bit_word 0 (omega arith)

-- and one of a digit that is not 0 is a 1
pub one_bit : (v : ℕ) → v < 2 → 0 < v → word 1 v ≡ true ∷ []
one_bit (suc zero) h k = bit_word 1 (omega arith)
one_bit _ h k = absurd (omega arith)

-- no bit is left after an identifier of 0: the coded data set is cut off there
pub low_bit_cut : {I : Type 0} {old new : Reader I} (first last : ℕ) (s : Parameters) (b : ℕ) {bits : List Bool} {f : BitFault}
    → length bits < 1 → Stops old new bits f → last + old.taken ≡ first + new.taken → SetCut (word (id_len s) 0) old new first last s b f
low_bit_cut first last s b {bits} lt stops steps = cut_low s b bits stops (no_bit s b lt) (λ blank. steps)

-- the bit is a 1, and the block by second extension after it is cut off
pub second_low_cut : {I : Type 0} {old mid new : Reader I} (first last : ℕ) {s : Parameters} {b v : ℕ} {f : BitFault}
    → v < 2 → 0 < v → Takes old mid (word 1 v) → BlockCut mid new s b SecondExtension f → SetCut (word (id_len s) 0) old new first last s b f
second_low_cut {old} {mid} {new} first last {s} {b} {v} {f} lt pos t cut =
    cut_low s b (true ∷ cut.bits) (stops-append old mid new (true ∷ []) cut.bits f (rw (one_bit v lt pos) at t) cut.stops) (no_second s b cut.none)
    (λ blank. absurd (let no : false ≡ true = blank in cc))

-- the bit is a 0, and what is left after it begins with no run
pub run_low_cut : {I : Type 0} {old mid new : Reader I} {first : ℕ} (second : ℕ) {last : ℕ} (s : Parameters) (b : ℕ) {bits : List Bool} {f : BitFault}
    → Takes old mid (word 1 0) → second + old.taken ≡ first + mid.taken → Stops mid new bits f → last + mid.taken ≡ second + new.taken
    → ((r : Option ℕ) (m : ℕ) (more : List Bool) → IsReference s b r → bits ≡ run_tail s r m ++ more → ⊥) → SetCut (word (id_len s) 0) old new first last s b f
run_low_cut {old} {mid} {new} second s b {bits} {f} t before stops after none =
    cut_low s b (false ∷ bits) (stops-append old mid new (false ∷ []) bits f (rw zero_bit at t) stops) (no_run s b none) (λ blank. omega (arith, before, after))

-- the bit is a 1, and a block by second extension was read after it
pub second_low : {I : Type 0} {old mid new : Reader I} {first second last : ℕ} {s : Parameters} {b v : ℕ} (head : BlockSummary) {items : List ℕ}
    → v < 2 → 0 < v → Takes old mid (word 1 v) → second + old.taken ≡ first + mid.taken
    → BlockRead mid new second last s b SecondExtension head items → SetRead (word (id_len s) 0) old new first last s b (Residuals head) items
second_low {old} {mid} {new} {s} {v} head lt pos t steps read = record {
  set = SecondExtension read.contents;
  form = read.form;
  rest = true ∷ second_extension_tail s read.contents;
  begins = refl;
  takes = takes-append old mid new (true ∷ []) _ (rw (one_bit v lt pos) at t) read.takes;
  tells = grind (arith, common_steps);
  steps = omega (arith, read.steps);
}

-- the bit is a 0, and a run whose codeword has so many zeros was read after it: with four of them a remainder of segment
pub run_low : {I : Type 0} {old mid new : Reader I} {first : ℕ} (second : ℕ) {last : ℕ} {s : Parameters} {b : ℕ} {r : Option ℕ} (zeros : ℕ) {items : List ℕ}
    → Takes old mid (word 1 0) → second + old.taken ≡ first + mid.taken
    → IsReference s b r → Takes mid new (run_tail s r zeros) → last + mid.taken ≡ second + new.taken → SetRead (word (id_len s) 0) old new first last s b (Zeros r zeros) items
run_low {old} {mid} {new} {first} second {last} {s} {b} {r} zeros {items} t steps h u more =
    by_zeros (zeros == 4) refl
  where
    run_is : (m : ℕ) → (m == 4) ≡ false → (1 ≤ (if nat_lt m 4 then m + 1 else m)) × (run_number (if nat_lt m 4 then m + 1 else m) ≡ m)
    run_is m e = (grind (arith, nat_tests), grind (arith, nat_tests))

    whole : Takes old new (false ∷ run_tail s r zeros)
    whole = takes-append old mid new (false ∷ []) _ (rw zero_bit at t) u

    by_zeros : (b' : Bool) → (zeros == 4) ≡ b' → SetRead (word (id_len s) 0) old new first last s b (Zeros r zeros) items
    by_zeros true e = record {
      set = RemainderOfSegment r;
      form = h;
      rest = false ∷ run_tail s r 4;
      begins = refl;
      takes = (let z : zeros ≡ 4 = grind (arith, nat_tests) in subst (λ m. Takes old new (false ∷ run_tail s r m)) z whole);
      tells = sym (ap (λ c. cond c (RemainderOfSegment r) (ZeroBlocks r (if nat_lt zeros 4 then zeros + 1 else zeros))) e);
      steps = omega arith;
    }
    by_zeros false e = record {
      set = ZeroBlocks r (if nat_lt zeros 4 then zeros + 1 else zeros);
      form = (h, (run_is zeros e).0);
      rest = false ∷ run_tail s r (run_number (if nat_lt zeros 4 then zeros + 1 else zeros));
      begins = refl;
      takes = subst (λ m. Takes old new (false ∷ run_tail s r m)) (sym (run_is zeros e).1) whole;
      tells = sym (ap (λ c. cond c (RemainderOfSegment r) (ZeroBlocks r (if nat_lt zeros 4 then zeros + 1 else zeros))) e);
      steps = omega arith;
    }

-- the identifier of ones
pub ones_id : (s : Parameters) → (1 * 2 ^ id_len s) % 2 ^ 32 - 1 ≡ 2 ^ id_len s - 1
ones_id s = grind (arith, common_steps, pow_mono, mod-eq_of_lt)
