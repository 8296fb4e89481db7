-- Words, fundamental sequences and lists of pieces are read in one way.
use Rattle.std.proofs.Common.{◌≡◌, ℕ, zero, suc, ◌+◌, ◌*◌, ◌/◌, ◌%◌, ◌^◌, Bool, List, [], ◌∷◌, ◌++◌, length, refl, sym, ◌∙◌, ap, arith, append_assoc}
use Rattle.std.{proofs.lemmas.Grind.common_steps, proofs.lemmas.Nat.mod-pow-add, specs.Prelude.flat_map, specs.List.AllZip}
use Rattle.rice_bits.specs.Bits.{word, fundamental_sequence}

-- lists that are one have one head
same_heads : {a b : Bool} {x y : List Bool} → a ∷ x ≡ b ∷ y → a ≡ b
same_heads e = cc

-- and one tail
same_tails : {a b : Bool} {x y : List Bool} → a ∷ x ≡ b ∷ y → x ≡ y
same_tails e = cc

-- the lowest digits are the first of them and the others
pub digit_split : (w a : ℕ) → a % 2 ^ suc w ≡ (a / 2 ^ w % 2) * 2 ^ w + a % 2 ^ w
digit_split w a = let e : suc w ≡ 1 + w = omega arith in ap (λ k. a % 2 ^ k) e ∙ mod-pow-add a 1 w

-- one more digit
next_digit : (w a b : ℕ) → a / 2 ^ w % 2 ≡ b / 2 ^ w % 2 → a % 2 ^ w ≡ b % 2 ^ w → a % 2 ^ suc w ≡ b % 2 ^ suc w
next_digit w a b e f = digit_split w a ∙ (ap (λ d. d * 2 ^ w + a % 2 ^ w) e ∙ (ap (λ r. (b / 2 ^ w % 2) * 2 ^ w + r) f ∙ sym (digit_split w b)))

-- A word is read in one way, as the number of its digits.
pub word_reads : (w a b : ℕ) (x y : List Bool) → word w a ++ x ≡ word w b ++ y → (a % 2 ^ w ≡ b % 2 ^ w) × (x ≡ y)
unfolding word
word_reads zero a b x y e = (omega arith, e)
word_reads (suc w) a b x y e = grind (arith, common_steps, same_tails, next_digit, same_heads, word_reads w a b x y (same_tails e))

-- So is a fundamental sequence.
pub sequence_reads : (m n : ℕ) (x y : List Bool) → fundamental_sequence m ++ x ≡ fundamental_sequence n ++ y → (m ≡ n) × (x ≡ y)
sequence_reads zero zero x y e = (refl, same_tails e)
sequence_reads zero (suc n) x y e = absurd cc
sequence_reads (suc m) zero x y e = absurd cc
sequence_reads (suc m) (suc n) x y e = grind (arith, common_steps, same_tails, sequence_reads m n x y (same_tails e))

-- So are bits whose number is known.
pub bits_read : (a b x y : List Bool) → length a ≡ length b → a ++ x ≡ b ++ y → (a ≡ b) × (x ≡ y)
bits_read [] [] x y n e = (refl, e)
bits_read [] (c ∷ b) x y n e = absurd cc
bits_read (c ∷ a) [] x y n e = absurd cc
bits_read (c ∷ a) (d ∷ b) x y n e =
    let first : c ≡ d = cc in
    let others : a ++ x ≡ b ++ y = cc in
    let rest = bits_read a b x y (omega arith) others in
    ((λ i. first i ∷ rest.0 i), rest.1)

-- So are as many pieces, if each is.
pub pieces_read : {X : Type 0} (f : X → List Bool) (R : X → X → Type 0) → ((a b : X) (x y : List Bool) → f a ++ x ≡ f b ++ y → R a b × (x ≡ y)) →
    (xs ys : List X) (x y : List Bool) → length xs ≡ length ys → flat_map f xs ++ x ≡ flat_map f ys ++ y → AllZip R xs ys × (x ≡ y)
pieces_read f R one [] [] x y n e = (tt, e)
pieces_read f R one [] (b ∷ bs) x y n e = absurd cc
pieces_read f R one (a ∷ as') [] x y n e = absurd cc
pieces_read f R one (a ∷ as') (b ∷ bs) x y n e =
    let first = one a b (flat_map f as' ++ x) (flat_map f bs ++ y) (sym (append_assoc (f a) (flat_map f as') x) ∙ (e ∙ append_assoc (f b) (flat_map f bs) y)) in
    let rest = pieces_read f R one as' bs x y (omega arith) first.1 in
    ((first.0, rest.0), rest.1)
