-- Words that are read one by one.
use Rattle.rice_fast.proofs.Words.{◌≡◌, ℕ, ◌+◌, ◌*◌, ◌^◌, ◌<◌, Bool, List, [], ◌∷◌, ◌++◌, length, take, drop, set, sym, ◌∙◌, ap, subst, arith, All, flat_map, take-add, add-mul, flat_map-append}
use Rattle.rice_fast.proofs.Words.{take_more_set, All-append, All-cons, All-nil, word}
use Rattle.std.proofs.lemmas.List.{append-nil}

-- The first `count` numbers are those of words of `width` bits.
pub record AreWords (bits : List Bool) (width count : ℕ) (numbers : List ℕ) : Type 0 where
  pub fit : All (λ v. v < 2 ^ width) (take count numbers)
  pub spelled : flat_map (word width) (take count numbers) ≡ take (count * width) bits

-- none, before the first,
pub no_words : (bits : List Bool) (width : ℕ) (numbers : List ℕ) → AreWords bits width 0 numbers
no_words bits width numbers = (let none : 0 * width ≡ 0 = omega arith in record { fit = All-nil (λ v. v < 2 ^ width); spelled = ap (λ n. take n bits) (sym none) })

-- and one more
pub one_more : {bits : List Bool} {width count : ℕ} (numbers : List ℕ) (v : ℕ) → count < length numbers → AreWords bits width count numbers
    → v < 2 ^ width → word width v ≡ take width (drop (count * width) bits) → AreWords bits width (count + 1) (set numbers count v)
one_more {bits} {width} {count} numbers v room before fits read =
    let more : take (count + 1) (set numbers count v) ≡ take count numbers ++ (v ∷ []) = take_more_set numbers count v room in
    let all : count * width + width ≡ (count + 1) * width = (let p = add-mul count 1 width in omega (arith, p)) in
    record {
      fit = subst (All (λ v. v < 2 ^ width)) (sym more) (
          All-append (λ v. v < 2 ^ width) (take count numbers) (v ∷ []) before.fit (All-cons (λ v. v < 2 ^ width) v [] fits (All-nil (λ v. v < 2 ^ width))));
      spelled =
          ap (flat_map (word width)) more
          ∙ (flat_map-append (word width) (take count numbers) (v ∷ [])
          ∙ ((λ j. before.spelled j ++ (append-nil (word width v) ∙ read) j) ∙ (sym (take-add (count * width) width bits) ∙ ap (λ n. take n bits) all)));
    }
