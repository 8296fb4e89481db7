-- Eight bytes, and the digits of the number that they spell.
use Rattle.std.proofs.Common.{◌≡◌, ℕ, zero, suc, ◌+◌, ◌*◌, ◌/◌, ◌%◌, ◌^◌, ◌<◌, ◌≤◌, List, ◌++◌, length, drop, take, reverse, refl, sym, ◌∙◌, ap, arith}
use Rattle.std.specs.{Int.to_be_bytes, Int.to_le_bytes, Int.swap_bytes, Int.byte_at, Int.bytes_high_first, Int.bytes_low_first, Int.w64, Prelude.All}
use Rattle.std.proofs.lemmas.{List.take-append-drop, List.length-take-le, Nat.be_bytes_8, Nat.shr_split, Nat.pow-add, List.Elements.All-cons, List.Elements.All-nil}
use Rattle.std.proofs.Math.Nat.{mod-lt, pow-suc}
use Rattle.rice_bits.{proofs.lemmas.bits.BytesAndBits.bits_of-append, proofs.lemmas.bits.BytesAndBits.each_byte, proofs.lemmas.bits.BytesAndBits.length-bits_of, specs.Bits.word, specs.Bits.bits_of}
use Rattle.rice_bits.proofs.lemmas.bits.WordsAndNumbers.{word-nil, word-low, word-split}

-- the lowest digits are those of the low part
pub word-mod : (k b n : ℕ) → k ≤ b → word k (n % 2 ^ b) ≡ word k n
word-mod k b n h = sym (word-low k b (n / 2 ^ b) (n % 2 ^ b) h) ∙ ap (word k) (shr_split n b)

-- powers of 256
pub pow_bytes : (k : ℕ) → 256 ^ k ≡ 2 ^ (8 * k)
pow_bytes zero = refl
pow_bytes (suc k) =
    let e : 8 * suc k ≡ 8 + 8 * k = omega arith in
    rw (e, pow-add 2 8 (8 * k), ← pow_bytes k) (omega (arith, pow-suc 256 k))

-- a byte of a number has its digits
byte_digits : (k n : ℕ) → word 8 (byte_at k n) ≡ word 8 (n / 2 ^ (8 * k))
byte_digits zero n = let e : n / 1 ≡ n = omega arith in word-mod 8 8 n (omega arith) ∙ ap (word 8) (sym e)
byte_digits (suc k) n = word-mod 8 8 (n / 256 ^ suc k) (omega arith) ∙ ap (λ p. word 8 (n / p)) (pow_bytes (suc k))

-- bytes of a number, the highest first, have its digits
pub bits_of-high_first : (k n : ℕ) → bits_of (bytes_high_first k n) ≡ word (8 * k) n
unfolding bits_of
bits_of-high_first zero n = sym (word-nil n)
bits_of-high_first (suc k) n =
    let e : 8 + 8 * k ≡ 8 * suc k = omega arith in
    let front : word 8 (byte_at k n) ++ bits_of (bytes_high_first k n) ≡ word 8 (n / 2 ^ (8 * k)) ++ word (8 * k) (n % 2 ^ (8 * k)) =
    rw (byte_digits k n, bits_of-high_first k n, word-mod (8 * k) (8 * k) n (omega arith)) refl in
    front ∙ (sym (word-split 8 (8 * k) n) ∙ ap (λ w. word w n) e)

-- the eight bytes of a number, highest first, have its lowest 64 digits
pub bits_of-eight : (n : ℕ) → bits_of (to_be_bytes w64 n) ≡ word 64 n
bits_of-eight n = bits_of-high_first 8 n

byte_below : (k n : ℕ) → byte_at k n < 256
byte_below zero n = mod-lt n (omega arith)
byte_below (suc k) n = mod-lt (n / 256 ^ suc k) (omega arith)

-- and each is a byte
all_bytes : (j k n : ℕ) → All (λ b. b < 256) (bytes_low_first j k n)
all_bytes j zero n = All-nil (λ b. b < 256)
all_bytes j (suc k) n = All-cons (λ b. b < 256) (byte_at j n) (bytes_low_first (suc j) k n) (byte_below j n) (all_bytes (suc j) k n)

-- each of the eight bytes of a number, lowest first, is below 256
pub eight-fit : (n : ℕ) → All (λ b. b < 256) (to_le_bytes w64 n)
eight-fit n = all_bytes 0 8 n

-- the bytes of a number whose bytes are swapped
pub eight-swapped : (n r : ℕ) → r ≡ swap_bytes w64 n → to_le_bytes w64 r ≡ to_be_bytes w64 n
eight-swapped n r e = ap reverse (be_bytes_8 (to_le_bytes w64 n) r refl (each_byte (to_le_bytes w64 n) (eight-fit n)) e)

-- the bits of the first bytes, and those of the others
pub split-bytes : (q : ℕ) (bytes : List ℕ) → bits_of (take q bytes) ++ bits_of (drop q bytes) ≡ bits_of bytes
split-bytes q bytes = sym (bits_of-append (take q bytes) (drop q bytes)) ∙ ap bits_of (take-append-drop q bytes)

-- the first bytes have eight bits each, where there are so many
pub length-front : (q : ℕ) (bytes : List ℕ) → q ≤ length bytes → length (bits_of (take q bytes)) ≡ 8 * q
length-front q bytes h = length-bits_of (take q bytes) ∙ ap (λ n. 8 * n) (length-take-le q bytes h)
