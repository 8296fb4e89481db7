-- Bytes and their bits.
use Rattle.std.proofs.Common.{◌≡◌, ℕ, zero, suc, ◌+◌, ◌*◌, ◌<◌, Bool, false, List, [], ◌∷◌, ◌++◌, length, drop, take, replicate, refl, sym, ap, arith, append_assoc, length-append, get_or}
use Rattle.std.proofs.{lemmas.List.length-replicate, lemmas.List.get_or_past, lemmas.List.replicate-append-replicate, lemmas.List.drop_at, lemmas.Grind.common_steps, Math.Seq.take-length}
use Rattle.std.{proofs.lemmas.Bool.cases_lt, specs.Prelude.All}
use Rattle.rice_bits.proofs.lemmas.bits.WordsAndNumbers.{length-word, word-zero, number_of-word, word-number_of}
use Rattle.rice_bits.specs.Bits.{bits_in_bytes, padded_bits, word, bits_of, whole_bytes}

-- no bytes have no bits
pub bits_of-nil : bits_of [] ≡ []
unfolding bits_of
bits_of-nil = refl

-- the bits of bytes are the eight digits of the first, and then the bits of the others
pub bits_of-first : (b : ℕ) (bytes : List ℕ) → bits_of (b ∷ bytes) ≡ word 8 b ++ bits_of bytes
unfolding bits_of
bits_of-first b bytes = refl

-- the bits of bytes and others after them are those of the first, and then those of the others
pub bits_of-append : (xs ys : List ℕ) → bits_of (xs ++ ys) ≡ bits_of xs ++ bits_of ys
unfolding bits_of
bits_of-append [] ys = refl
bits_of-append (x ∷ xs) ys = rw (bits_of-append xs ys) (sym (append_assoc (word 8 x) _ _))

-- each byte has eight bits
pub length-bits_of : (xs : List ℕ) → length (bits_of xs) ≡ 8 * length xs
unfolding bits_of
length-bits_of [] = refl
length-bits_of (x ∷ xs) = omega (arith, length-append (word 8 x) (bits_of xs), length-word 8 x, length-bits_of xs)

-- the bits of bytes that are 0 are zeros, eight for each
pub bits_of-zeros : (n : ℕ) → bits_of (replicate n 0) ≡ replicate (8 * n) false
unfolding bits_of
bits_of-zeros zero = refl
bits_of-zeros (suc n) =
    let e : 8 + 8 * n ≡ 8 * suc n = omega arith in
    rw (word-zero 8, bits_of-zeros n, ← e) (replicate-append-replicate 8 (8 * n) false)

-- the first byte of bits is that of their first word
whole_word : (b : ℕ) (rest : List Bool) → b < 256 → whole_bytes (word 8 b ++ rest) ≡ b ∷ whole_bytes rest
unfolding whole_bytes word
whole_word b rest h = ap (λ n. n ∷ whole_bytes rest) (unfold word in number_of-word 8 b h)

-- there is no whole byte where there are fewer than eight bits
pub whole_short : (rest : List Bool) → length rest < 8 → whole_bytes rest ≡ []
unfolding whole_bytes
whole_short [] h = refl
whole_short (a ∷ []) h = refl
whole_short (a ∷ b ∷ []) h = refl
whole_short (a ∷ b ∷ c ∷ []) h = refl
whole_short (a ∷ b ∷ c ∷ d ∷ []) h = refl
whole_short (a ∷ b ∷ c ∷ d ∷ e ∷ []) h = refl
whole_short (a ∷ b ∷ c ∷ d ∷ e ∷ f ∷ []) h = refl
whole_short (a ∷ b ∷ c ∷ d ∷ e ∷ f ∷ g ∷ []) h = refl
whole_short (a ∷ b ∷ c ∷ d ∷ e ∷ f ∷ g ∷ i ∷ rest) h = absurd (omega arith)

-- the whole bytes of the bits of bytes, and fewer than eight bits after them, are these bytes
pub whole-bits : (bytes : List ℕ) (rest : List Bool) → ((i : ℕ) → get_or bytes i 0 < 256) → length rest < 8 → whole_bytes (bits_of bytes ++ rest) ≡ bytes
unfolding bits_of
whole-bits [] rest f h = whole_short rest h
whole-bits (b ∷ bytes) rest f h =
    rw (append_assoc (word 8 b) (bits_of bytes) rest, whole_word b (bits_of bytes ++ rest) (f 0), whole-bits bytes rest (λ i. f (suc i)) h) refl

-- the bits that are no whole byte
pub rest-bits : (bytes : List ℕ) (rest : List Bool) → length rest < 8 → drop (bits_in_bytes (length (bits_of bytes ++ rest))) (bits_of bytes ++ rest) ≡ rest
rest-bits bytes rest h = grind (arith, common_steps, length-append, length-bits_of, drop_at)

-- each number in the list is a byte, and so is the 0 past its end
pub each_byte : (bytes : List ℕ) → All (λ b. b < 256) bytes → (i : ℕ) → get_or bytes i 0 < 256
each_byte bytes f i = grind (arith, common_steps, cases_lt, get_or_past)

-- eight bits more make one byte more
next_byte : (n : ℕ) → bits_in_bytes (suc (suc (suc (suc (suc (suc (suc (suc n)))))))) ≡ suc (suc (suc (suc (suc (suc (suc (suc (bits_in_bytes n))))))))
next_byte n = omega arith

-- bits of whole bytes are their front, eight bits at a time
byte_again : {a b c d e f g h : Bool} (bits : List Bool) → bits_of (whole_bytes bits) ≡ take (bits_in_bytes (length bits)) bits
    → bits_of (whole_bytes (a ∷ b ∷ c ∷ d ∷ e ∷ f ∷ g ∷ h ∷ bits)) ≡ a ∷ b ∷ c ∷ d ∷ e ∷ f ∷ g ∷ h ∷ take (bits_in_bytes (length bits)) bits
unfolding bits_of whole_bytes
byte_again {a} {b} {c} {d} {e} {f} {g} {h} bits rest = (let first = word-number_of (a ∷ b ∷ c ∷ d ∷ e ∷ f ∷ g ∷ h ∷ []) in λ i. first i ++ rest i)

-- fewer than eight bits have no whole byte
short_bytes : (bits : List Bool) → length bits < 8 → bits_of (whole_bytes bits) ≡ take (bits_in_bytes (length bits)) bits
short_bytes bits h = grind (arith, common_steps, whole_short, bits_of-nil)

-- the whole bytes have the bits that they were made of
pub bits_of-whole_bytes : (bits : List Bool) → bits_of (whole_bytes bits) ≡ take (bits_in_bytes (length bits)) bits
bits_of-whole_bytes (a ∷ b ∷ c ∷ d ∷ e ∷ f ∷ g ∷ h ∷ bits) = grind (arith, common_steps, byte_again, next_byte, bits_of-whole_bytes bits)
bits_of-whole_bytes [] = short_bytes [] (omega arith)
bits_of-whole_bytes (a ∷ []) = short_bytes (a ∷ []) (omega arith)
bits_of-whole_bytes (a ∷ b ∷ []) = short_bytes (a ∷ b ∷ []) (omega arith)
bits_of-whole_bytes (a ∷ b ∷ c ∷ []) = short_bytes (a ∷ b ∷ c ∷ []) (omega arith)
bits_of-whole_bytes (a ∷ b ∷ c ∷ d ∷ []) = short_bytes (a ∷ b ∷ c ∷ d ∷ []) (omega arith)
bits_of-whole_bytes (a ∷ b ∷ c ∷ d ∷ e ∷ []) = short_bytes (a ∷ b ∷ c ∷ d ∷ e ∷ []) (omega arith)
bits_of-whole_bytes (a ∷ b ∷ c ∷ d ∷ e ∷ f ∷ []) = short_bytes (a ∷ b ∷ c ∷ d ∷ e ∷ f ∷ []) (omega arith)
bits_of-whole_bytes (a ∷ b ∷ c ∷ d ∷ e ∷ f ∷ g ∷ []) = short_bytes (a ∷ b ∷ c ∷ d ∷ e ∷ f ∷ g ∷ []) (omega arith)

-- padded bits are whole bytes
pub bits_of-padded : (bits : List Bool) → bits_of (whole_bytes (padded_bits bits)) ≡ padded_bits bits
bits_of-padded bits = grind (arith, common_steps, length-append, length-replicate, bits_of-whole_bytes, take-length)
