-- The head of a buffered block, and its high parts in rows of sixteen.
use Rattle.rice_fast.proofs.Words.{◌≡◌, ℕ, zero, suc, ◌+◌, ◌-◌, ◌*◌, ◌^◌, ◌<◌, ◌≤◌, Bool, true, List, ◌++◌, length, take, drop, take-take, replicate, refl, sym, ◌∙◌, ap, subst, arith, Some, flat_map}
use Rattle.rice_fast.proofs.Words.{take-add, take-append-add, flat_map-append, drop-append-le, drop-drop, length-take-le, take-append-le, word, fundamental_sequence, BeginWithSequences, Parameters}
use Rattle.rice_fast.proofs.Words.{value_at, value_count, is_reference, pattern, HeadAhead, HighsAhead}

-- a reference sample
pub head_after_reference : {buffered : List Bool} {s : Parameters} {b before skip from v bits : ℕ} → is_reference s b ≡ true
    → bits ≡ s.bits → v < 2 ^ bits → word bits v ≡ take bits (drop skip buffered) → from < value_count s → pattern s (value_at s from) ≡ v → HeadAhead buffered s b before skip from 1 (skip + bits)
head_after_reference {buffered} {s} {skip} {v} {bits} there bits_are fits value begins pat =
    record {
      reference = Some v;
      is = record { there = sym there; fits = subst (λ w. v < 2 ^ w) bits_are fits };
      place = refl;
      few = omega arith;
      begins = begins;
      value = pat;
      same = tt;
      part = s.bits;
      len_is = ap (λ n. skip + n) bits_are;
      bits = (λ j. word (sym bits_are j) v) ∙ (value ∙ (λ j. take (bits_are j) (drop skip buffered)));
      short = omega (arith, bits_are);
    }

-- bits that follow one another, after others
pub after-both : (buffered : List Bool) (skip l n : ℕ) → take l (drop skip buffered) ++ take n (drop (skip + l) buffered) ≡ take (l + n) (drop skip buffered)
after-both buffered skip l n = sym (take-add l n (drop skip buffered) ∙ ap (λ bits. take l (drop skip buffered) ++ take n bits) (drop-drop l skip buffered))

-- the first numbers of a row of lanes, without the zeros after them
pub first_of : (count many : ℕ) (xs row : List ℕ) → count ≤ length xs → row ≡ take count xs ++ replicate (many - count) 0 → take count row ≡ take count xs
first_of count many xs row h e =
    let len : length (take count xs) ≡ count = length-take-le count xs h in
    ap (take count) e ∙ (take-append-le count (take count xs) (replicate (many - count) 0) (omega (arith, len)) ∙ take-take count count xs (omega arith))

-- a row of fundamental sequences
pub row-highs : {buffered : List Bool} {skip : ℕ} (o : ℕ) {n : ℕ} (count : ℕ) {numbers row : List ℕ} → o ≤ 1 → o < count
    → BeginWithSequences (drop skip buffered) (count - o) numbers n → row ≡ take count (replicate o 0 ++ numbers) → HighsAhead buffered skip o row n
row-highs {buffered} {skip} zero {n} count {numbers} few some found is =
    record {
      zeros = refl;
      spelled = ap (flat_map fundamental_sequence) is ∙ subst (λ c. flat_map fundamental_sequence (take c numbers) ≡ take n (drop skip buffered)) (omega arith) found.spelled;
    }
row-highs {buffered} {skip} (suc zero) {n} (suc m) {numbers} few some found is =
    record {
      zeros = ap (take 1) is;
      spelled = ap (λ xs. flat_map fundamental_sequence (drop 1 xs)) is ∙ subst (λ c. flat_map fundamental_sequence (take c numbers) ≡ take n (drop skip buffered)) (omega arith) found.spelled;
    }
row-highs (suc zero) zero few some found is = absurd (omega (arith, some))
row-highs (suc (suc o)) count few some found is = absurd (omega (arith, few))

-- a row that is stored after those before it
pub stored_row : (row count : ℕ) (numbers old new : List ℕ) → count ≤ 16 → 16 * row ≤ length old → length numbers ≡ 16
    → take (16 * (row + 1)) new ≡ take (16 * row) old ++ numbers → take (16 * row + count) new ≡ take (16 * row) old ++ take count numbers
stored_row row count numbers old new most room len value =
    let front = take (16 * row) old in
    let front_len : length front ≡ 16 * row = length-take-le (16 * row) old room in
    sym (take-take (16 * row + count) (16 * (row + 1)) new (omega (arith, most)))
    ∙ (ap (take (16 * row + count)) value ∙ (ap (λ n. take (n + count) (front ++ numbers)) (sym front_len) ∙ take-append-add front numbers count))

-- one row more of fundamental sequences
pub highs-row : {buffered : List Bool} {skip omitted len n : ℕ} {highs row : List ℕ} → omitted ≤ length highs → HighsAhead buffered skip omitted highs len
    → HighsAhead buffered (skip + len) 0 row n → HighsAhead buffered skip omitted (highs ++ row) (len + n)
highs-row {buffered} {skip} {omitted} {len} {n} {highs} {row} few before more =
    record {
      zeros = take-append-le omitted highs row few ∙ before.zeros;
      spelled =
          ap (flat_map fundamental_sequence) (drop-append-le omitted highs row few)
          ∙ (flat_map-append fundamental_sequence (drop omitted highs) row ∙ ((λ j. before.spelled j ++ more.spelled j) ∙ after-both buffered skip len n));
    }
