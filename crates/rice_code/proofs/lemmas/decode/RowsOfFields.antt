-- Pieces that a reader takes one after another.
use Rattle.std.proofs.Common.{◌≡◌, ℕ, zero, suc, ◌+◌, ◌-◌, ◌*◌, ◌/◌, ◌<◌, ◌≤◌, Bool, true, false, List, [], ◌∷◌, ◌++◌}
use Rattle.std.proofs.Common.{length, replicate, set, take, drop, refl, sym, ◌∙◌, ap, arith, append_assoc, length-append, None, sum, ◌^◌, subst}
use Rattle.rice_code.proofs.Words.{All, flat_map, ◌&&◌, append-nil, drop_all, length-drop, get_or_append_left, get_or-append-add, length-set, take_all, take_more_set, get_or_head, flat_map-append}
use Rattle.rice_code.proofs.Words.{All-append, sum_by-append, mul-le-mul_right, Reader, Takes, Stops, takes-none, takes-append, stops-append, length-words, length-fundamental_sequence, BitFault}
use Rattle.rice_code.proofs.Words.{pair_code, pair_codes, flat_map-push, word, fundamental_sequence, Row, CountRow, PairRow, ones, common_steps}
use borrow.Rule.Slice.PartMut.{put_mid}
use Rattle.rice_code.proofs.lemmas.meaning.CoveredBlocks.{and-split}

-- no pieces: the reader stays as it is, and no number is appended
pub row-none : {I : Type 0} (f : ℕ → List Bool) (P : ℕ → Type 0) (r : Reader I) (before : List ℕ) → r.refusal ≡ None → Row f P r r 0 before before
row-none f P r before h = record { values = []; len = refl; each = λ i d lt. absurd (omega arith); appended = sym (append-nil before); takes = takes-none r h }

all_front : (P : ℕ → Type 0) (xs ys : List ℕ) → All P (xs ++ ys) → All P xs
all_front P xs ys h = λ i d lt. subst P (get_or_append_left xs ys d i lt) (h i d (omega (arith, length-append xs ys, lt)))

-- what holds of all numbers of two lists holds of all of the second
pub all_back : (P : ℕ → Type 0) (xs ys : List ℕ) → All P (xs ++ ys) → All P ys
all_back P xs ys h = λ i d lt. subst P (get_or-append-add xs ys i d) (h (length xs + i) d (omega (arith, length-append xs ys, lt)))

-- no fundamental sequences: the reader stays as it is, and all of them are given
pub row_of_counts-none : {I : Type 0} (r : Reader I) (most : ℕ) (reported : List ℕ) → reported ≡ [] → r.refusal ≡ None → CountRow r r most true 0 reported
row_of_counts-none r most reported e h = record {
  values = [];
  len = refl;
  reported_are = λ _. (e, λ i d lt. absurd (omega arith));
  refused = λ f. absurd cc;
  takes = takes-none r h;
}

-- one more is given, where it is at most `most`
pub row_of_counts-more : {I : Type 0} {old mid new : Reader I} {most done : ℕ} {small : Bool} (fits : Bool) (m v : ℕ) (counts : List ℕ) → done < length counts
    → CountRow old mid most small done (take done counts) → Takes mid new (fundamental_sequence m)
    → (fits ≡ true → (v ≡ m) × (m ≤ most)) → (fits ≡ false → most < m) → CountRow old new most (small && fits) (done + 1) (take (done + 1) (set counts done v))
row_of_counts-more {old} {mid} {new} {most} {done} {small} fits m v counts lt r t good bad =
    let P : ℕ → Type 0 = λ x. x ≤ most in
    record {
      values = r.values ++ m ∷ [];
      len = omega (arith, length-append r.values (m ∷ []), r.len);
      reported_are = grind (arith, common_steps, and-split, take_more_set, All-append, get_or_head);
      refused = not_reported small fits (λ f h. r.refused f (all_front P r.values (m ∷ []) h)) (λ f h. omega (arith, bad f, all_back P r.values (m ∷ []) h 0 0 (omega arith)));
      takes = rw (flat_map-push fundamental_sequence r.values m) (takes-append old mid new _ _ r.takes t);
    }
  where
    not_reported : {Q : Type 0} (a b : Bool) → (a ≡ false → Q → ⊥) → (b ≡ false → Q → ⊥) → (a && b) ≡ false → Q → ⊥
    not_reported true true f g e q = absurd cc
    not_reported true false f g e q = g refl q
    not_reported false b f g e q = f refl q

-- fundamental sequences for all places
pub row_of_counts-whole : {I : Type 0} {old new : Reader I} {most : ℕ} {small : Bool} {done count : ℕ} {xs : List ℕ}
    → CountRow old new most small done (take done xs) → done ≡ count → length xs ≡ count → CountRow old new most small count xs
row_of_counts-whole {done} {xs} r e n = grind (arith, common_steps, take_all)

-- the rest of a list that was written over
pub put_rest : (a : ℕ) (xs ys : List ℕ) → a ≤ length xs → put_mid a (length xs - a) xs ys ≡ take a xs ++ ys
put_rest a xs ys h = grind (arith, common_steps, drop_all, length-drop, append-nil)

-- some pieces, and then others
pub row-append : {I : Type 0} {f : ℕ → List Bool} (P : ℕ → Type 0) {old mid new : Reader I} {m : ℕ} (n : ℕ) {before between after : List ℕ}
    → Row f P old mid m before between → Row f P mid new n between after → Row f P old new (m + n) before after
row-append {f} P {old} {mid} {new} n {before} r q = record {
  values = r.values ++ q.values;
  len = omega (arith, length-append r.values q.values, r.len, q.len);
  each = All-append P r.values q.values r.each q.each;
  appended = q.appended ∙ (ap (λ z. z ++ q.values) r.appended ∙ append_assoc before r.values q.values);
  takes = rw (flat_map-append f r.values q.values) (takes-append old mid new _ _ r.takes q.takes);
}

-- pieces for all places
pub row-whole : {I : Type 0} {f : ℕ → List Bool} (P : ℕ → Type 0) {old new : Reader I} {done count : ℕ} {before xs : List ℕ}
    → Row f P old new done before (take done xs) → done ≡ count → length xs ≡ count → Row f P old new count before xs
row-whole P {done} {xs} r e n =
    record { values = r.values; len = r.len ∙ e; each = r.each; appended = sym (take_all done xs (omega (arith, e, n))) ∙ r.appended; takes = r.takes }

-- one word more
pub row-word : {I : Type 0} {old mid new : Reader I} (width : ℕ) {done : ℕ} (v : ℕ) (words : List ℕ) → done < length words
    → Row (word width) (λ v. v < 2 ^ width) old mid done [] (take done words) → v < 2 ^ width → Takes mid new (word width v)
    → Row (word width) (λ v. v < 2 ^ width) old new (done + 1) [] (take (done + 1) (set words done v))
row-word {old} {mid} {new} width {done} v words lt r fits t = grind (arith, common_steps, row-append, get_or_head, take_more_set, append-nil)

too_few_bits : (done some count width short : ℕ) → done + some ≤ count → short < some * width → done * width + short < count * width
too_few_bits done some count width short h k =
    let m : (done + some) * width ≤ count * width = mul-le-mul_right width h in omega arith

-- some words, of those that follow, were cut off
pub words-stop : {I : Type 0} (width : ℕ) (P : ℕ → Type 0) {old mid new : Reader I} {done : ℕ} (some count : ℕ) {before after : List ℕ} {bits : List Bool} {f : BitFault}
    → Row (word width) P old mid done before after → Stops mid new bits f → length bits < some * width → done + some ≤ count
    → (all : List Bool) × (length all < count * width) × Stops old new all f
words-stop width P {old} {mid} {new} {done} some count {bits} {f} r s short h = (
  flat_map (word width) r.values ++ bits,
  (let e : length (flat_map (word width) r.values) ≡ done * width = length-words width r.values ∙ ap (λ n. n * width) r.len in
      omega (arith, e, length-append (flat_map (word width) r.values) bits, too_few_bits done some count width (length bits) h short)),
  stops-append old mid new _ bits f r.takes s,
)

-- the ones of two texts add up
pub ones-append : (xs ys : List Bool) → ones (xs ++ ys) ≡ ones xs + ones ys
ones-append [] ys = omega arith
ones-append (true ∷ xs) ys = omega (arith, ones-append xs ys)
ones-append (false ∷ xs) ys = ones-append xs ys

-- zeros have no ones
pub ones-zeros : (n : ℕ) → ones (replicate n false) ≡ 0
ones-zeros zero = refl
ones-zeros (suc n) = ones-zeros n

-- a fundamental sequence has a single one
pub ones-sequence : (m : ℕ) → ones (fundamental_sequence m) ≡ 1
ones-sequence m = ones-append (replicate m false) (true ∷ []) ∙ ap (λ n. n + 1) (ones-zeros m)

-- and so many of them have as many ones
pub ones-sequences : (ms : List ℕ) → ones (flat_map fundamental_sequence ms) ≡ length ms
ones-sequences [] = refl
ones-sequences (m ∷ ms) = omega (arith, ones-append (fundamental_sequence m) (flat_map fundamental_sequence ms), ones-sequence m, ones-sequences ms)

-- a fundamental sequence was cut off
pub sequences-stop : {I : Type 0} {old mid new : Reader I} (ms : List ℕ) (count m : ℕ) {f : BitFault}
    → Takes old mid (flat_map fundamental_sequence ms) → length ms < count → Stops mid new (replicate m false) f
    → (all : List Bool) × (ones all < count) × Stops old new all f
sequences-stop {old} {mid} {new} ms count m {f} t h s = (
  flat_map fundamental_sequence ms ++ replicate m false,
  omega (arith, ones-append (flat_map fundamental_sequence ms) (replicate m false), ones-sequences ms, ones-zeros m),
  stops-append old mid new _ _ f t s,
)

-- one pair more
pub pair_codes-push : (half : ℕ) (ds : List ℕ) (a b : ℕ) → length ds ≡ half + half → pair_codes ((ds ++ a ∷ []) ++ b ∷ []) ≡ pair_codes ds ++ pair_code a b ∷ []
pair_codes-push zero [] a b h = refl
pair_codes-push (suc half) (d ∷ e ∷ ds) a b h = ap (λ z. pair_code d e ∷ z) (pair_codes-push half ds a b (omega arith))
pair_codes-push _ _ a b h = absurd (omega arith)

-- the sum of numbers with two more after them
pub sum-push2 : (xs : List ℕ) (a b : ℕ) → sum ((xs ++ a ∷ []) ++ b ∷ []) ≡ sum xs + (a + b)
sum-push2 xs a b = omega (arith, sum_by-append (λ (x : ℕ). x) (xs ++ a ∷ []) (b ∷ []), sum_by-append (λ (x : ℕ). x) xs (a ∷ []))

-- no pairs: the reader stays as it is, and no step is made
pub pairs-none : {I : Type 0} (r : Reader I) (steps : ℕ) → r.refusal ≡ None → PairRow r r 0 [] steps steps
pairs-none r steps h = grind (arith, common_steps, takes-none)

-- a pair of numbers, by its code
pub record IsPairOf (g a b : ℕ) : Type 0 where
  pub code : pair_code a b ≡ g
  pub most : a + b ≤ g

-- one pair more after others: a step for each bit of its codeword, and as many turns as its numbers add up to
pub pairs-more : {I : Type 0} {old mid new : Reader I} {count : ℕ} {front after : List ℕ} {g : ℕ} (a b : ℕ) {first second : ℕ} (third : ℕ) {fourth : ℕ}
    → PairRow old mid count front first second → Takes mid new (fundamental_sequence g) → IsPairOf g a b
    → third + mid.taken ≡ second + new.taken → fourth ≡ third + (a + b) → after ≡ (front ++ a ∷ []) ++ b ∷ [] → PairRow old new (count + 1) after first fourth
pairs-more {old} {mid} {new} {count} {front} {g} a b {first} third {fourth} r t pair steps turns is =
    subst (λ xs. PairRow old new (count + 1) xs first fourth) (sym is)
    (let codes : flat_map fundamental_sequence (pair_codes ((front ++ a ∷ []) ++ b ∷ [])) ≡ flat_map fundamental_sequence (pair_codes front) ++ fundamental_sequence g =
    ap (flat_map fundamental_sequence) (pair_codes-push count front a b r.len ∙ ap (λ c. pair_codes front ++ c ∷ []) pair.code) ∙ flat_map-push fundamental_sequence (pair_codes front) g in
    record {
      len = omega (arith, length-append (front ++ a ∷ []) (b ∷ []), length-append front (a ∷ []), r.len);
      takes = rw codes (takes-append old mid new _ _ r.takes t);
      steps = omega (arith, sum-push2 front a b, r.steps);
      turns = omega (arith, sum-push2 front a b, r.turns, ap length codes, length-append (flat_map fundamental_sequence (pair_codes front)) (fundamental_sequence g), length-fundamental_sequence g);
    })

-- two numbers more are written
pub two_more : (done : ℕ) (xs : List ℕ) (a b : ℕ) → done < length xs / 2 → take (done + 1 + (done + 1)) (set (set xs (2 * done) a) (2 * done + 1) b) ≡ (take (done + done) xs ++ a ∷ []) ++ b ∷ []
two_more done xs a b h = grind (arith, common_steps, take_more_set, length-set)
