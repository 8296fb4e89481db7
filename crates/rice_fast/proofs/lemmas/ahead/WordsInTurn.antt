-- Words one after another, and the bits that they are.
use Rattle.rice_fast.proofs.Words.{◌≡◌, ℕ, ◌+◌, ◌*◌, ◌≤◌, Bool, List, ◌++◌, length, take, drop, sym, ◌∙◌, ap, arith, flat_map, take-add, flat_map-append, drop-drop, length-take-le, take-append-drop}
use Rattle.rice_fast.proofs.Words.{take_at, word, length-words}

-- words that were read from a place on, and words after them
pub record WordsInTurn (width : ℕ) (bits : List Bool) (from at m k : ℕ) (xs ys : List ℕ) : Type 0 where
  pub place : at ≡ from + m * width
  pub front : flat_map (word width) xs ≡ take (m * width) (drop from bits)
  pub after : flat_map (word width) ys ≡ take (k * width) (drop at bits)

-- words, and those after them
pub words-joined : (width : ℕ) (bits : List Bool) (from : ℕ) {at : ℕ} (m k : ℕ) (xs ys : List ℕ) → WordsInTurn width bits from at m k xs ys
    → flat_map (word width) (xs ++ ys) ≡ take ((m + k) * width) (drop from bits)
words-joined width bits from m k xs ys both =
    let n : m * width + k * width ≡ (m + k) * width = grind arith in
    let rest : flat_map (word width) ys ≡ take (k * width) (drop (m * width) (drop from bits)) =
    both.after ∙ ap (take (k * width)) (ap (λ a. drop a bits) both.place ∙ sym (drop-drop (m * width) from bits)) in
    flat_map-append (word width) xs ys ∙ ((λ j. both.front j ++ rest j) ∙ (sym (take-add (m * width) (k * width) (drop from bits)) ∙ ap (λ a. take a (drop from bits)) n))

-- the first of some words are spelled by the first digits of all
pub words-front : (width n : ℕ) (xs : List ℕ) → n ≤ length xs → flat_map (word width) (take n xs) ≡ take (n * width) (flat_map (word width) xs)
words-front width n xs h =
    let front = flat_map (word width) (take n xs) in
    let len : length front ≡ n * width = length-words width (take n xs) ∙ ap (λ k. k * width) (length-take-le n xs h) in
    let both : flat_map (word width) xs ≡ front ++ flat_map (word width) (drop n xs) = ap (flat_map (word width)) (sym (take-append-drop n xs))
    ∙ flat_map-append (word width) (take n xs) (drop n xs) in
    sym (ap (take (n * width)) both ∙ take_at front (flat_map (word width) (drop n xs)) (n * width) len)
