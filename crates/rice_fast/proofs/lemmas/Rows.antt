-- Rows of samples of a block, restored and spelled one after another.
use Rattle.rice_fast.proofs.Words.{◌≡◌, ℕ, zero, suc, ◌+◌, ◌-◌, ◌*◌, ◌^◌, ◌<◌, ◌≤◌, Bool, true, false, cond, List, [], ◌∷◌, ◌++◌, length, map, take, drop, take-take, replicate, refl, sym, ◌∙◌, ap}
use Rattle.rice_fast.proofs.Words.{subst, arith, append_assoc, length-append, Option, None, Some, All, IfSome, flat_map, slice_index_or, take-add, take-append_seam, add-mul, mul-add, mul-le-mul_left}
use Rattle.rice_fast.proofs.Words.{mul-le-mul_right, pow-le-pow_right, flat_map-append, pow_pos, drop-append-le, drop-replicate, get_or-take, length-drop, length-take-le, take-append-le}
use Rattle.rice_fast.proofs.Words.{take-replicate, take_all, All-append, All-cons, All-nil, All-replicate, All-take, word, joined_parts, Parameters, value_at, value_count, values_at, width, spelling}
use Rattle.rice_fast.proofs.Words.{spellings, last_number, pattern, ranks_below, length-spellings, length-values, LowsAhead, HaveParts, residuals_at, RowsAhead, SpellsParts, Fields}
use Rattle.std.proofs.Common.{take-append-drop}
use Rattle.rice_fast.proofs.lemmas.ahead.WordsInTurn.{words-front}
use Rattle.rice_fast.proofs.lemmas.vectors.HalfLanes.{last_is as last_at}
use Rattle.rice_fast.proofs.lemmas.HighParts.{after-both, first_of}
use Rattle.rice_fast.proofs.lemmas.Residuals.{first_residuals, residuals-append}
use Rattle.rice_fast.proofs.lemmas.vectors.LaneRanks.{last-append}

-- a row of words: those of the first lanes, after the numbers that are omitted
pub lanes_lows : {buffered : List Bool} {skip k many : ℕ} (o count : ℕ) (words : List ℕ) {row : List ℕ} → o ≤ 1 → 1 ≤ count → count ≤ many → length words ≡ many
    → All (λ l. l < 2 ^ k) words → flat_map (word k) words ≡ take (many * k) (drop skip buffered) → row ≡ take count (replicate o 0 ++ words) ++ replicate (many - count) 0
    → LowsAhead buffered skip o k (take count row) × All (λ l. l < 2 ^ k) row
lanes_lows {buffered} {skip} {k} {many} zero count words {row} few some most len low bits is =
    let first : take count row ≡ take count words = first_of count many words row (omega (arith, len, most)) is in
    let n : length (take count row) - 0 ≡ count = omega (arith, ap length first, length-take-le count words (omega (arith, len, most))) in (
      record {
        zeros = refl;
        low = subst (All (λ l. l < 2 ^ k)) (sym first) (All-take (λ l. l < 2 ^ k) count words low);
        spelled =
            ap (flat_map (word k)) first
            ∙ (words-front k count words (omega (arith, len, most)) ∙ (ap (take (count * k)) bits ∙ (take-take (count * k) (many * k) (drop skip buffered) (mul-le-mul_right k most)
            ∙ ap (λ m. take (m * k) (drop skip buffered)) (sym n))));
      },
      subst (All (λ l. l < 2 ^ k)) (sym is) (All-append (λ l. l < 2 ^ k) (take count words) (replicate (many - count) 0) (All-take (λ l. l < 2 ^ k) count words low)
          (All-replicate (λ l. l < 2 ^ k) (many - count) 0 (pow_pos k))),
    )
lanes_lows {buffered} {skip} {k} {many} (suc zero) (suc m) words {row} few some most len low bits is =
    let first : take (suc m) row ≡ 0 ∷ take m words = first_of (suc m) many (0 ∷ words) row (omega (arith, len, most)) is in
    let n : length (take (suc m) row) - 1 ≡ m = omega (arith, ap length first, length-take-le m words (omega (arith, len, most))) in
    let all = All-cons (λ l. l < 2 ^ k) 0 (take m words) (pow_pos k) (All-take (λ l. l < 2 ^ k) m words low) in (
      record {
        zeros = ap (take 1) first;
        low = subst (All (λ l. l < 2 ^ k)) (sym first) all;
        spelled =
            ap (λ xs. flat_map (word k) (drop 1 xs)) first
            ∙ (words-front k m words (omega (arith, len, most)) ∙ (ap (take (m * k)) bits ∙ (take-take (m * k) (many * k) (drop skip buffered) (mul-le-mul_right k (omega (arith, most)))
            ∙ ap (λ c. take (c * k) (drop skip buffered)) (sym n))));
      },
      subst (All (λ l. l < 2 ^ k)) (sym is) (All-append (λ l. l < 2 ^ k) (0 ∷ take m words) (replicate (many - suc m) 0) all (All-replicate (λ l. l < 2 ^ k) (many - suc m) 0 (pow_pos k))),
    )
lanes_lows (suc zero) zero words few some most len low bits is = absurd (omega (arith, some))
lanes_lows (suc (suc o)) count words few some most len low bits is = absurd (omega (arith, few))

-- one row more of words
lows-row : {buffered : List Bool} {skip omitted k at : ℕ} {lows : List ℕ} (row : List ℕ) → omitted ≤ length lows → LowsAhead buffered skip omitted k lows
    → at ≡ skip + (length lows - omitted) * k → LowsAhead buffered at 0 k row → LowsAhead buffered skip omitted k (lows ++ row)
lows-row {buffered} {skip} {omitted} {k} {at} {lows} row few before place more =
    let part = length lows - omitted in
    let count = length row in
    let plain : count - 0 ≡ count = omega arith in
    let both : part + count ≡ length (lows ++ row) - omitted = omega (arith, length-append lows row, few) in
    let all : part * k + count * k ≡ (length (lows ++ row) - omitted) * k = sym (add-mul part count k) ∙ ap (λ n. n * k) both in
    record {
      zeros = take-append-le omitted lows row few ∙ before.zeros;
      low = All-append (λ l. l < 2 ^ k) lows row before.low more.low;
      spelled =
          ap (flat_map (word k)) (drop-append-le omitted lows row few)
          ∙ (flat_map-append (word k) (drop omitted lows) row
          ∙ ((λ j. before.spelled j ++ (more.spelled ∙ (ap (λ n. take (n * k) (drop at buffered)) plain ∙ ap (λ m. take (count * k) (drop m buffered)) place)) j)
          ∙ (after-both buffered skip (part * k) (count * k) ∙ ap (λ n. take n (drop skip buffered)) all)));
    }

-- what the first parts join to is the first of all joined parts
take-joined : (n k : ℕ) (ms ls : List ℕ) → take n (joined_parts k ms ls) ≡ joined_parts k (take n ms) (take n ls)
take-joined zero k ms ls = refl
take-joined (suc n) k [] ls = refl
take-joined (suc n) k (m ∷ ms) [] = refl
take-joined (suc n) k (m ∷ ms) (l ∷ ls) = ap (λ ds. (m * 2 ^ k + l) ∷ ds) (take-joined n k ms ls)

joined-append : (k : ℕ) (hs ls more_highs more_lows : List ℕ) → length ls ≡ length hs
    → joined_parts k (hs ++ more_highs) (ls ++ more_lows) ≡ joined_parts k hs ls ++ joined_parts k more_highs more_lows
joined-append k [] [] more_highs more_lows e = refl
joined-append k [] (l ∷ ls) more_highs more_lows e = absurd (omega (arith, e))
joined-append k (h ∷ hs) [] more_highs more_lows e = absurd (omega (arith, e))
joined-append k (h ∷ hs) (l ∷ ls) more_highs more_lows e = ap (λ ds. (h * 2 ^ k + l) ∷ ds) (joined-append k hs ls more_highs more_lows (omega (arith, e)))

-- the spellings of two lists, and of the first of some levels
spelled_both : (s : Parameters) (xs ys : List ℕ) → spellings s (values_at s xs) ++ spellings s (values_at s ys) ≡ spellings s (values_at s (xs ++ ys))
spelled_both s [] ys = refl
spelled_both s (x ∷ xs) ys = append_assoc (spelling s (value_at s x)) (spellings s (values_at s xs)) (spellings s (values_at s ys)) ∙ ap (λ l. spelling s (value_at s x) ++ l) (spelled_both s xs ys)

front_spelled : (s : Parameters) (count : ℕ) (levels : List ℕ) → count ≤ length levels → take (width s * count) (spellings s (values_at s levels)) ≡ spellings s (values_at s (take count levels))
front_spelled s count levels most =
    let first = spellings s (values_at s (take count levels)) in
    let rest = spellings s (values_at s (drop count levels)) in
    let len : length first ≡ width s * count = length-spellings s (values_at s (take count levels))
    ∙ ap (λ n. width s * n) (length-values s (take count levels) ∙ length-take-le count levels most) in
    ap (λ ls. take (width s * count) (spellings s (values_at s ls))) (sym (take-append-drop count levels))
    ∙ (ap (take (width s * count)) (sym (spelled_both s (take count levels) (drop count levels)))
    ∙ (ap (λ n. take n (first ++ rest)) (sym len) ∙ take-append_seam first rest))

-- a row of lanes whose levels were restored and spelled, and the first samples of it
pub row_spelled : {s : Parameters} {p k many : ℕ} (count : ℕ) {highs lows levels bytes : List ℕ} → 1 ≤ count → count ≤ many → length highs ≡ many
    → HaveParts s p k highs lows levels → take (width s * many) bytes ≡ spellings s (values_at s levels)
    → SpellsParts s p k count (take count highs) (take count lows) (slice_index_or levels (count - 1) 0) bytes
row_spelled {s} {p} {k} {many} count {highs} {lows} {levels} {bytes} some most len near spelled =
    let all : length levels ≡ many = near.len ∙ len in
    let first = take count levels in
    let first_len : length first ≡ count = length-take-le count levels (omega (arith, all, most)) in
    let fewer = mul-le-mul_left (width s) most in
    record {
      levels = first;
      near = record {
        len = first_len ∙ sym (length-take-le count highs (omega (arith, len, most)));
        legal = All-take (λ l. l < value_count s) count levels near.legal;
        residuals = sym (first_residuals count s p levels (omega (arith, all, most))) ∙ (ap (take count) near.residuals ∙ take-joined count k highs lows);
      };
      last_is = sym (get_or-take count levels (count - 1) 0 (omega (arith, some)));
      spelled =
          sym (take-take (width s * count) (width s * many) bytes fewer)
          ∙ (ap (take (width s * count)) spelled ∙ (front_spelled s count levels (omega (arith, all, most))
          ∙ ap (λ ls. spellings s (values_at s ls)) (sym (take_all count first (omega (arith, first_len))))));
    }

-- what holds of a value, if there is one
pub if_some : {A : Type 0} (P Q : A → Type 0) (x : Option A) → ((a : A) → P a → Q a) → IfSome x P → IfSome x Q
if_some P Q None f h = tt
if_some P Q (Some a) f h = f a h

-- without compression a low part is a whole residual
pub whole_parts : {s : Parameters} {p k many : ℕ} {highs lows zeros levels : List ℕ} → length lows ≡ many → highs ≡ replicate many 0 → zeros ≡ replicate many 0
    → HaveParts s p 0 lows zeros levels → HaveParts s p k highs lows levels
whole_parts {s} {p} {k} {many} {highs} {lows} {zeros} {levels} len none blank near = record {
  len = near.len ∙ (len ∙ (sym (length-zeros many) ∙ ap length (sym none)));
  legal = near.legal;
  residuals = near.residuals ∙ (ap (joined_parts 0 lows) blank ∙ (same many k lows len ∙ ap (λ hs. joined_parts k hs lows) (sym none)));
}
  where
    length-zeros : (n : ℕ) → length {A = ℕ} (replicate n 0) ≡ n
    length-zeros zero = refl
    length-zeros (suc n) = ap suc (length-zeros n)

    same : (n k : ℕ) (ls : List ℕ) → length ls ≡ n → joined_parts 0 ls (replicate n 0) ≡ joined_parts k (replicate n 0) ls
    same zero k [] e = refl
    same zero k (l ∷ ls) e = absurd (omega (arith, e))
    same (suc n) k [] e = absurd (omega (arith, e))
    same (suc n) k (l ∷ ls) e =
        let one : l * 2 ^ 0 + 0 ≡ 0 * 2 ^ k + l = omega arith in
        let rest = same n k ls (omega (arith, e)) in
        λ j. one j ∷ rest j

-- the same of a row whose samples are written
pub whole_row : {s : Parameters} {p k many count last : ℕ} {highs : List ℕ} (lows : List ℕ) {zeros bytes : List ℕ} → count ≤ many → length lows ≡ many
    → highs ≡ replicate many 0 → zeros ≡ replicate many 0 → SpellsParts s p 0 count (take count lows) (take count zeros) last bytes
    → SpellsParts s p k count (take count highs) (take count lows) last bytes
whole_row {many} {count} lows few len none blank row = record {
  levels = row.levels;
  near = whole_parts (length-take-le count lows (omega (arith, len, few))) (ap (take count) none ∙ take-replicate count many 0 few) (ap (take count) blank ∙ take-replicate count many 0 few) row.near;
  last_is = row.last_is;
  spelled = row.spelled;
}

-- before the first row no sample is spelled
pub no_rows : (buffered : List Bool) (s : Parameters) (f : Fields) (highs bytes : List ℕ) → f.from < value_count s → RowsAhead buffered s f highs 0 f.from bytes
no_rows buffered s f highs bytes begins =
    let none : width s * 0 ≡ 0 = omega arith in
    record {
      levels = [];
      lows = [];
      len = refl;
      words = λ some. absurd (omega (arith, some));
      near = record { len = refl; legal = All-nil (λ l. l < value_count s); residuals = nothing s.preprocess };
      last_is = refl;
      legal = begins;
      spelled = ap (λ n. take n bytes) none;
    }
  where
    nothing : (b : Bool) → cond b (ranks_below (value_count s) f.from []) (map (pattern s) (values_at s [])) ≡ []
    nothing true = refl
    nothing false = refl

-- where the words of a row begin: those before it are passed, and after the first row none is omitted
pub record RowPlace (f : Fields) (at omitted place : ℕ) : Type 0 where
  pub few : omitted ≤ 1
  pub first : at ≡ 0 → omitted ≡ f.omitted
  pub later : 0 < at → omitted ≡ 0
  pub begins : place ≡ f.words + (at - f.omitted) * f.k

-- the first row is at its place
pub first_place : (f : Fields) → f.omitted ≤ 1 → RowPlace f 0 f.omitted f.words
first_place f few =
    let none : 0 - f.omitted ≡ 0 = omega arith in
    let words_of : (0 - f.omitted) * f.k ≡ 0 * f.k = ap (λ n. n * f.k) none in
    record { few = few; first = λ _. refl; later = λ some. absurd (omega (arith, some)); begins = omega (arith, words_of) }

-- after a row that is at its place, the next is at its own
pub next_place : {f : Fields} {at omitted place : ℕ} (count : ℕ) → f.omitted ≤ 1 → 1 ≤ count → RowPlace f at omitted place →
    RowPlace f (at + count) 0 (place + (count - omitted) * f.k)
next_place {f} {at} {omitted} {place} count few some here = record {
  few = omega arith;
  first = λ none. absurd (omega (arith, none, some));
  later = λ more. refl;
  begins = ap (λ p. p + (count - omitted) * f.k) here.begins ∙ moved at here.first here.later;
}
  where
    moved : (at : ℕ) → (at ≡ 0 → omitted ≡ f.omitted) → (0 < at → omitted ≡ 0) → f.words + (at - f.omitted) * f.k + (count - omitted) * f.k ≡ f.words + (at + count - f.omitted) * f.k
    moved zero first later =
        let e : count - omitted ≡ count - f.omitted = ap (λ o. count - o) (first refl) in
        let start : 0 - f.omitted ≡ 0 = omega arith in
        let none : (0 - f.omitted) * f.k ≡ 0 * f.k = ap (λ n. n * f.k) start in
        let same : count - omitted ≡ 0 + count - f.omitted = omega (arith, e) in
        let part : (count - omitted) * f.k ≡ (0 + count - f.omitted) * f.k = ap (λ n. n * f.k) same in
        omega (arith, none, part)
    moved (suc n) first later =
        let passed : count - omitted ≡ count - 0 = ap (λ o. count - o) (later (omega arith)) in
        let e : count - omitted ≡ count = omega (arith, passed) in
        let all : suc n - f.omitted + count ≡ suc n + count - f.omitted = omega (arith, few) in
        let parts : (suc n + count - f.omitted) * f.k ≡ (suc n - f.omitted) * f.k + count * f.k = ap (λ m. m * f.k) (sym all) ∙ add-mul (suc n - f.omitted) count f.k in
        let part : (count - omitted) * f.k ≡ count * f.k = ap (λ m. m * f.k) e in
        omega (arith, parts, part)

-- the high parts of a row, where all are zeros
pub zeros_of_row : (at many : ℕ) {highs row : List ℕ} → at + many ≤ 80 → highs ≡ replicate 80 0 → row ≡ take many (take (80 - at) (drop at highs)) → row ≡ replicate many 0
zeros_of_row at many {highs} inside zeros is =
    is ∙ (take-take many (80 - at) (drop at highs) (omega (arith, inside))
    ∙ (ap (λ xs. take many (drop at xs)) zeros ∙ (ap (take many) (drop-replicate at 80 0) ∙ take-replicate many (80 - at) 0 (omega (arith, inside)))))

-- one row more
pub one_row_more : {buffered : List Bool} {s : Parameters} {f : Fields} {at omitted place count last l : ℕ} {highs row bytes : List ℕ} (now : List ℕ) → f.omitted ≤ 1 → 1 ≤ count
    → at + count ≤ length highs → RowPlace f at omitted place → RowsAhead buffered s f highs at last bytes → length row ≡ count → LowsAhead buffered place omitted f.k row
    → SpellsParts s last f.k count (take count (drop at highs)) row l (drop (width s * at) now) → take (width s * at) now ≡ take (width s * at) bytes → RowsAhead buffered s f highs (at + count) l now
one_row_more {buffered} {s} {f} {at} {omitted} {place} {count} {last} {l} {highs} {row} {bytes} now few some room here before row_len more spelled front =
    let part = take count (drop at highs) in
    let levels = before.levels ++ spelled.levels in
    let after : length (drop at highs) ≡ length highs - at = length-drop at highs in
    let many : length spelled.levels ≡ count = spelled.near.len ∙ length-take-le count (drop at highs) (omega (arith, after, room)) in
    let end : length spelled.levels ≡ suc (count - 1) = omega (arith, many, some) in
    let last_level : l ≡ last_number last spelled.levels = spelled.last_is ∙ sym (last_at last (count - 1) spelled.levels end) in
    let whole : take count spelled.levels ≡ spelled.levels = take_all count spelled.levels (omega (arith, many)) in
    let same : length before.lows ≡ length (take at highs) = before.len ∙ sym (length-take-le at highs (omega (arith, room))) in
    let place_of : width s * (at + count) ≡ width s * at + width s * count = mul-add (width s) at count in
    record {
      levels = levels;
      lows = before.lows ++ row;
      len = length-append before.lows row ∙ (λ j. before.len j + row_len j);
      words = λ _. words at here before.lows before.len before.words;
      near = record {
        len = length-append before.levels spelled.levels ∙ ((λ j. before.near.len j + spelled.near.len j) ∙ (sym (length-append (take at highs) part) ∙ ap length (sym (take-add at count highs))));
        legal = All-append (λ l. l < value_count s) before.levels spelled.levels before.near.legal spelled.near.legal;
        residuals =
            residuals-append s f.from before.levels spelled.levels
            ∙ ((λ j. before.near.residuals j ++ (ap (λ r. residuals_at s r spelled.levels) (sym before.last_is) ∙ spelled.near.residuals) j)
            ∙ (sym (joined-append f.k (take at highs) before.lows part row same) ∙ ap (λ hs. joined_parts f.k hs (before.lows ++ row)) (sym (take-add at count highs))));
      };
      last_is = last_level ∙ (ap (λ p. last_number p spelled.levels) before.last_is ∙ sym (last-append f.from before.levels spelled.levels));
      legal = subst (λ v. v < value_count s) (sym spelled.last_is) (spelled.near.legal (count - 1) 0 (omega (arith, many, some)));
      spelled =
          ap (λ n. take n now) place_of
          ∙ (take-add (width s * at) (width s * count) now
          ∙ ((λ j. (front ∙ before.spelled) j ++ (spelled.spelled ∙ ap (λ ls. spellings s (values_at s ls)) whole) j) ∙ spelled_both s before.levels spelled.levels));
    }
  where
    words : (n : ℕ) → RowPlace f n omitted place → (lows : List ℕ) → length lows ≡ n → (0 < n → LowsAhead buffered f.words f.omitted f.k lows) → LowsAhead buffered f.words f.omitted f.k (lows ++ row)
    words zero here [] e h =
        let none : 0 - f.omitted ≡ 0 = omega arith in
        let words_of : (0 - f.omitted) * f.k ≡ 0 * f.k = ap (λ n. n * f.k) none in
        let start : place ≡ f.words = here.begins ∙ omega (arith, words_of) in
        subst (λ p. LowsAhead buffered p f.omitted f.k row) start (subst (λ o. LowsAhead buffered place o f.k row) (here.first refl) more)
    words zero here (x ∷ lows) e h = absurd (omega (arith, e))
    words (suc n) here lows e h =
        let later : omitted ≡ 0 = here.later (omega arith) in
        lows-row row (omega (arith, few, e)) (h (omega arith)) (here.begins ∙ ap (λ m. f.words + (m - f.omitted) * f.k) (sym e)) (subst (λ o. LowsAhead buffered place o f.k row) later more)

-- the greatest level fits a lane
pub greatest_fits : (s : Parameters) (k : ℕ) {values : ℕ} → s.bits ≤ k → 1 ≤ values → values ≡ value_count s → values - 1 < 2 ^ k
greatest_fits s k h some is =
    let most : 2 ^ s.bits ≤ 2 ^ k = pow-le-pow_right {n = 2} (omega arith) {i = s.bits} {j = k} h in
    omega (arith, some, is, most)
