-- Bits without a 1.
use Rattle.std.proofs.Common.{◌≡◌, ℕ, zero, suc, ◌^◌, ◌<◌, Bool, true, false, List, [], ◌∷◌, ◌++◌, length, replicate, refl, sym, ◌∙◌, ap, arith}
use Rattle.std.specs.Prelude.{◌&&◌, ◌==◌}
use Rattle.std.proofs.lemmas.{Bool.Decides.nat_tests, Grind.common_steps, List.append-nil}
use Rattle.rice_bits.{proofs.lemmas.bits.WordsAndNumbers.word-zero, proofs.lemmas.bits.WordsAndNumbers.number_of-word, specs.Bits.word, specs.Bits.number_of, specs.Reader.is_blank}

-- bits in two parts have no 1 just where neither part has one
pub blank-append : (xs ys : List Bool) → is_blank (xs ++ ys) ≡ (is_blank xs && is_blank ys)
blank-append [] ys = refl
blank-append (true ∷ xs) ys = refl
blank-append (false ∷ xs) ys = blank-append xs ys

-- zeros have no 1 among them
pub blank-zeros : (n : ℕ) → is_blank (replicate n false) ≡ true
blank-zeros zero = refl
blank-zeros (suc n) = blank-zeros n

number_of-blank : (bits : List Bool) → is_blank bits ≡ true → number_of bits ≡ 0
unfolding number_of
number_of-blank [] h = refl
number_of-blank (true ∷ bits) h = absurd (cc)
number_of-blank (false ∷ bits) h = omega (arith, number_of-blank bits h)

-- the digits of a number above 0 have a 1, where they are enough for it
pub blank-word_positive : (w v : ℕ) → 0 < v → v < 2 ^ w → is_blank (word w v) ≡ false
blank-word_positive w v p h = go (is_blank (word w v)) refl
  where
    go : (b : Bool) → is_blank (word w v) ≡ b → is_blank (word w v) ≡ false
    go true e = absurd (omega (arith, number_of-blank (word w v) e, number_of-word w v h))
    go false e = e

-- the digits of 0 have no 1
pub blank-word_zero : (w v : ℕ) → v ≡ 0 → is_blank (word w v) ≡ true
blank-word_zero w v e = rw (e, word-zero w) (blank-zeros w)

-- digits are blank where they are those of 0
pub blank-word : (w v : ℕ) → v < 2 ^ w → is_blank (word w v) ≡ (v == 0)
blank-word w zero h = blank-word_zero w 0 refl
blank-word w (suc v) h = let some : (suc v == 0) ≡ false = grind (arith, nat_tests) in blank-word_positive w (suc v) (omega arith) h ∙ sym some

-- what is joined with true by `&&` stays as it is
pub and-true : (b : Bool) → (b && true) ≡ b
and-true true = refl
and-true false = refl

-- three that are joined by `&&` may be joined from either side
pub and-assoc : (a b c : Bool) → ((a && b) && c) ≡ (a && (b && c))
and-assoc true b c = refl
and-assoc false b c = refl

-- whether no 1 has come, kept up for one part and then for the next, is kept up for both
pub blank_joined : (a b c : Bool) (xs ys : List Bool) → b ≡ (a && is_blank xs) → c ≡ (b && is_blank ys) → c ≡ (a && is_blank (xs ++ ys))
blank_joined a b c xs ys p q =
    q ∙ ap (λ z. z && is_blank ys) p ∙ and-assoc a (is_blank xs) (is_blank ys) ∙ ap (λ z. a && z) (sym (blank-append xs ys))

-- where a 1 was among the first bits, and zeros are taken from the front of all, some bit is left
pub one_after_zeros : (old more new : List Bool) (n : ℕ) → is_blank old ≡ false → old ++ more ≡ replicate n false ++ new → 0 < length new
one_after_zeros old more [] n some e =
    let zeros : is_blank (replicate n false ++ []) ≡ true = ap is_blank (append-nil (replicate n false)) ∙ blank-zeros n in
    let joined : is_blank (old ++ more) ≡ (is_blank old && is_blank more) = blank-append old more in
    grind (arith, common_steps)
one_after_zeros old more (b ∷ new) n some e = omega arith
