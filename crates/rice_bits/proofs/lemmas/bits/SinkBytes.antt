-- Bits that are gathered in bytes, with zeros after them.
use Rattle.std.proofs.Common.{◌≡◌, ℕ, ◌+◌, ◌-◌, ◌*◌, ◌/◌, ◌%◌, ◌^◌, ◌<◌, ◌≤◌, Bool, true, false, List, [], ◌∷◌, ◌++◌, length, drop, take, replicate, refl, sym, ◌∙◌, ap, inl, inr, arith, append_assoc}
use Rattle.std.proofs.lemmas.List.{append-nil, replicate-append-replicate, length-replicate, length-drop, length-set, length-take-le, take-append-drop, take-replicate, take_all, take_at, drop-drop}
use Rattle.std.proofs.lemmas.{List.drop-replicate, List.drop-set-lt, List.drop_all, List.drop_at, List.drop_more, List.get_or_past, List.get_or-set_same, List.take-set, Grind.common_steps}
use Rattle.std.proofs.{lemmas.Nat.or_shifted, lemmas.Nat.pow-add, lemmas.Nat.pow_pos, lemmas.Nat.shr_below, lemmas.Nat.shr_split, lemmas.Nat.mod_below, Math.Seq.take-append-add, lemmas.Bool.cases_lt}
use Rattle.std.{proofs.Common.length-append, proofs.Common.get_or, proofs.Common.mod-eq_of_lt, proofs.Common.bit_or, proofs.Common.set, specs.Int.to_be_bytes, specs.Int.w64, specs.List.slice_index}
use Rattle.rice_bits.proofs.lemmas.bits.WordsAndNumbers.{length-word, word-nil, word-zero, word-cat, word-split, word-fs, length-fundamental_sequence, shift_fits, join_below}
use Rattle.rice_bits.proofs.lemmas.bits.BytesAndBits.{bits_of-nil, bits_of-append, bits_of-first, bits_of-zeros, length-bits_of, whole-bits, rest-bits}
use Rattle.rice_bits.specs.Bits.{IsBitSink, bits_in_bytes, fundamental_sequence, word, bits_of, whole_bytes}
use Rattle.rice_bits.proofs.lemmas.bits.{EightBytes.bits_of-eight, EightBytes.split-bytes, EightBytes.length-front, WordsReadInOneWay.word_reads}

-- the length of what a view shows
pub length_viewed : (bytes : List ℕ) (capacity n : ℕ) (bits : List Bool) → IsBitSink capacity n bytes → length bytes ≡ capacity
    → take n (bits_of bytes) ≡ bits → length bits ≡ n
length_viewed bytes capacity n bits h size e =
    ap length (sym e) ∙ length-take-le n (bits_of bytes) (omega (arith, h.room, size, length-bits_of bytes))

-- the first g digits of a byte, and the others
byte_parts : (g b : ℕ) → g < 8 → word 8 b ≡ word g (b / 2 ^ (8 - g)) ++ word (8 - g) (b % 2 ^ (8 - g))
byte_parts g b h =
    let size : g + (8 - g) ≡ 8 = omega arith in
    ap (λ w. word w b) (sym size) ∙ word-split g (8 - g) b

-- the bits before a place in a byte, and the others
bits_at : (bytes : List ℕ) (at g : ℕ) → at < length bytes → g < 8 → bits_of bytes
    ≡ (bits_of (take at bytes) ++ word g (slice_index bytes at / 2 ^ (8 - g))) ++ (word (8 - g) (slice_index bytes at % 2 ^ (8 - g)) ++ bits_of (drop (at + 1) bytes))
bits_at bytes at g h m =
    let b : ℕ = slice_index bytes at in
    let rest : bits_of (drop at bytes) ≡ word g (b / 2 ^ (8 - g)) ++ (word (8 - g) (b % 2 ^ (8 - g)) ++ bits_of (drop (at + 1) bytes)) =
    ap bits_of (drop_more bytes at 0 h) ∙ (bits_of-first b (drop (at + 1) bytes)
    ∙ (ap (λ d. d ++ bits_of (drop (at + 1) bytes)) (byte_parts g b m) ∙ append_assoc (word g (b / 2 ^ (8 - g))) (word (8 - g) (b % 2 ^ (8 - g))) (bits_of (drop (at + 1) bytes)))) in
    grind (arith, common_steps, split-bytes, append_assoc)

-- how many bits stand before a byte's digits
length_before : (bytes : List ℕ) (at g v : ℕ) → at ≤ length bytes → length (bits_of (take at bytes) ++ word g v) ≡ 8 * at + g
length_before bytes at g v h =
    omega (arith, length-append (bits_of (take at bytes)) (word g v), length-front at bytes h, length-word g v)

-- the bits are those of the whole bytes, and the digits that stand after these
whole_bytes_and_digits : (bytes : List ℕ) (n : ℕ) → n ≤ 8 * length bytes
    → take n (bits_of bytes) ≡ bits_of (take (n / 8) bytes) ++ word (n % 8) (slice_index bytes (n / 8) / 2 ^ (8 - n % 8))
whole_bytes_and_digits bytes n h = elim (cases_lt (n / 8) (length bytes)) [
  | inl i ↦
      let size : 8 * (n / 8) + n % 8 ≡ n = omega arith in
      ap (take n) (bits_at bytes (n / 8) (n % 8) i (omega arith))
      ∙ take_at (bits_of (take (n / 8) bytes) ++ word (n % 8) (slice_index bytes (n / 8) / 2 ^ (8 - n % 8)))
      (word (8 - n % 8) (slice_index bytes (n / 8) % 2 ^ (8 - n % 8)) ++ bits_of (drop (n / 8 + 1) bytes)) n
      (length_before bytes (n / 8) (n % 8) (slice_index bytes (n / 8) / 2 ^ (8 - n % 8)) (omega arith) ∙ size)
  | inr i ↦
      let none : n % 8 ≡ 0 = omega arith in
      rw (none, word-nil (slice_index bytes (n / 8) / 2 ^ 8), append-nil (bits_of (take (n / 8) bytes)), take_all (n / 8) bytes i)
      (take_all n (bits_of bytes) (omega (arith, length-bits_of bytes)))
]

zero_low : (b p : ℕ) → 0 < p → b % p % p ≡ 0 % p → b % p ≡ 0
zero_low b p h e = sym (mod-eq_of_lt (mod_below b p h)) ∙ (e ∙ mod-eq_of_lt h)

-- digits that are zeros at the front of zeros
low_zeros : (w b z : ℕ) (rest : List Bool) → word w (b % 2 ^ w) ++ rest ≡ replicate z false → b % 2 ^ w ≡ 0
low_zeros w b z rest e =
    let size : w + length rest ≡ z =
    ap (λ k. k + length rest) (sym (length-word w (b % 2 ^ w))) ∙ (sym (length-append (word w (b % 2 ^ w)) rest) ∙ (ap length e ∙ length-replicate z false)) in
    let more : w + (z - w) ≡ z = omega (arith, size) in
    let zeros : replicate z false ≡ word w 0 ++ replicate (z - w) false = grind (arith, common_steps, replicate-append-replicate, word-zero) in
    zero_low b (2 ^ w) (pow_pos w) (word_reads w (b % 2 ^ w) 0 rest (replicate (z - w) false) (e ∙ zeros)).0

-- zeros after bits
zeros_after : (bits xs : List Bool) (n z : ℕ) → bits ≡ xs ++ replicate z false → length xs ≡ n → (take n bits ≡ xs) × (drop n bits ≡ replicate z false)
zeros_after bits xs n z e size = grind (arith, common_steps, take_at, drop_at)

-- more of the zeros after bits
pub fewer_zeros_after : (bits : List Bool) (n m size : ℕ) → length bits ≡ size → n ≤ m → m ≤ size → drop n bits ≡ replicate (size - n) false
    → (take m bits ≡ take n bits ++ replicate (m - n) false) × (drop m bits ≡ replicate (size - m) false)
fewer_zeros_after bits n m size e h i zeros =
    let front : length (take n bits) ≡ n = length-take-le n bits (omega (arith, e)) in
    let more : length (take n bits) + (m - n) ≡ m = omega (arith, front) in
    let step : n + (m - n) ≡ m = omega arith in
    let left : size - n - (m - n) ≡ size - m = omega arith in (
      ap (take m) (sym (take-append-drop n bits))
          ∙ (ap (λ k. take k (take n bits ++ drop n bits)) (sym more)
          ∙ (take-append-add (take n bits) (drop n bits) (m - n)
          ∙ ap (λ d. take n bits ++ d) (ap (take (m - n)) zeros ∙ take-replicate (m - n) (size - n) false (omega arith)))),
      ap (λ k. drop k bits) (sym step)
          ∙ (sym (drop-drop (m - n) n bits)
          ∙ (ap (drop (m - n)) zeros ∙ (drop-replicate (m - n) (size - n) false ∙ ap (λ k. replicate k false) left))),
    )

-- the byte in which bits end has zeros after them
pub last_zeros : (bytes : List ℕ) (n : ℕ) → n ≤ 8 * length bytes → drop n (bits_of bytes) ≡ replicate (8 * length bytes - n) false
    → slice_index bytes (n / 8) % 2 ^ (8 - n % 8) ≡ 0
last_zeros bytes n h zeros =
    let at : ℕ = n / 8 in
    let g : ℕ = n % 8 in
    let b : ℕ = slice_index bytes at in
    let back : List Bool = bits_of (drop (at + 1) bytes) in elim (cases_lt at (length bytes)) [
      | inl i ↦
          let whole : 8 * at + g ≡ n = omega arith in
          low_zeros (8 - g) b (8 * length bytes - n) back
          (sym (drop_at (bits_of (take at bytes) ++ word g (b / 2 ^ (8 - g))) (word (8 - g) (b % 2 ^ (8 - g)) ++ back) n (length_before bytes at g (b / 2 ^ (8 - g)) (omega arith) ∙ whole))
          ∙ (ap (drop n) (sym (bits_at bytes at g i (omega arith))) ∙ zeros))
      | inr i ↦ ap (λ d. d % 2 ^ (8 - g)) (get_or_past bytes at 0 i) ∙ mod-eq_of_lt (pow_pos (8 - g))
    ]

-- the digits of the byte in which bits end, and the zeros after them
last_byte : (bytes : List ℕ) (n : ℕ) → n ≤ 8 * length bytes → drop n (bits_of bytes) ≡ replicate (8 * length bytes - n) false
    → word 8 (slice_index bytes (n / 8)) ≡ word (n % 8) (slice_index bytes (n / 8) / 2 ^ (8 - n % 8)) ++ replicate (8 - n % 8) false
last_byte bytes n h zeros =
    byte_parts (n % 8) (slice_index bytes (n / 8)) (omega arith)
    ∙ ap (λ d. word (n % 8) (slice_index bytes (n / 8) / 2 ^ (8 - n % 8)) ++ d) (ap (word (8 - n % 8)) (last_zeros bytes n h zeros) ∙ word-zero (8 - n % 8))

-- bytes after the bits
bytes_after : (bytes : List ℕ) (n q : ℕ) → n ≤ 8 * length bytes → n ≤ 8 * q → drop n (bits_of bytes) ≡ replicate (8 * length bytes - n) false
    → bits_of (drop q bytes) ≡ replicate (8 * length bytes - 8 * q) false
bytes_after bytes n q h place zeros = elim (cases_lt q (length bytes)) [
  | inl i ↦
      sym (drop_at (bits_of (take q bytes)) (bits_of (drop q bytes)) (8 * q) (length-front q bytes (omega arith)))
      ∙ (ap (drop (8 * q)) (split-bytes q bytes) ∙ (fewer_zeros_after (bits_of bytes) n (8 * q) (8 * length bytes) (length-bits_of bytes) place (omega arith) zeros).1)
  | inr i ↦ grind (arith, common_steps, drop_all, bits_of-nil)
]

-- a fundamental sequence as zeros and a digit
fs-parts : (m : ℕ) (bits : List Bool) → (bits ++ replicate m false) ++ word 1 1 ≡ bits ++ fundamental_sequence m
fs-parts m bits = ap (λ d. (bits ++ replicate m false) ++ d) (word-fs 0) ∙ append_assoc bits (replicate m false) (true ∷ [])

-- the zeros after bits, as far as there is room
zeros_within_room : (bytes : List ℕ) (xs : List Bool) (z room : ℕ) → bits_of bytes ≡ xs ++ replicate z false → length xs ≤ 8 * room → 8 * room ≤ length xs + z
    → bits_of (take room bytes) ≡ xs ++ replicate (8 * room - length xs) false
zeros_within_room bytes xs z room e h i =
    let k : ℕ = 8 * room - length xs in
    let size : length xs + k ≡ 8 * room = omega arith in
    let all : length xs + z ≡ 8 * length bytes = ap (λ n. length xs + n) (sym (length-replicate z false)) ∙ (sym (length-append xs (replicate z false)) ∙ (ap length (sym e) ∙ length-bits_of bytes)) in
    sym (take_at (bits_of (take room bytes)) (bits_of (drop room bytes)) (8 * room) (length-front room bytes (omega (arith, all))))
    ∙ (ap (take (8 * room)) (split-bytes room bytes ∙ e)
    ∙ (ap (λ n. take n (xs ++ replicate z false)) (sym size)
    ∙ (take-append-add xs (replicate z false) k ∙ ap (λ d. xs ++ d) (take-replicate k z false (omega (arith, size))))))

-- digits that are moved up, and digits below them
add-mul-mul : (h p q v : ℕ) → h * (p * q) + v * q ≡ (h * p + v) * q
add-mul-mul h p q v = omega arith

-- digits that are moved to the front, with zeros after them
top-word : (size c j : ℕ) → c ≤ size → word size (j * 2 ^ (size - c)) ≡ word c j ++ replicate (size - c) false
top-word size c j h =
    let all : c + (size - c) ≡ size = omega arith in
    let plain : j * 2 ^ (size - c) + 0 ≡ j * 2 ^ (size - c) = omega arith in
    grind (arith, common_steps, word-cat, pow_pos, word-zero)

append_five : (a b c d e : List Bool) → a ++ (((b ++ c) ++ d) ++ e) ≡ ((a ++ b) ++ c) ++ (d ++ e)
append_five a b c d e =
    ap (λ z. a ++ z) (append_assoc (b ++ c) d e ∙ append_assoc b c (d ++ e)) ∙ (sym (append_assoc a b (c ++ (d ++ e))) ∙ sym (append_assoc (a ++ b) c (d ++ e)))

-- digits that are written in the byte in which bits end, and zeros after them
digits_written : (old : List ℕ) (n count s : ℕ) (digits : List Bool) {piece : List Bool} → n ≤ 8 * length old → n ≤ 8 * (n / 8 + count) → drop n (bits_of old) ≡ replicate (8 * length old - n) false
    → piece ≡ (word (n % 8) (slice_index old (n / 8) / 2 ^ (8 - n % 8)) ++ digits) ++ replicate s false
    → bits_of (take (n / 8) old) ++ (piece ++ bits_of (drop (n / 8 + count) old))
    ≡ (take n (bits_of old) ++ digits) ++ replicate (s + (8 * length old - 8 * (n / 8 + count))) false
digits_written old n count s digits room past zeros e =
    let front : List Bool = bits_of (take (n / 8) old) in
    let first : List Bool = word (n % 8) (slice_index old (n / 8) / 2 ^ (8 - n % 8)) in
    let back : List Bool = bits_of (drop (n / 8 + count) old) in
    let left : ℕ = 8 * length old - 8 * (n / 8 + count) in
    ap (λ d. front ++ (d ++ back)) e
    ∙ (append_five front first digits (replicate s false) back
    ∙ (ap (λ d. (d ++ digits) ++ (replicate s false ++ back)) (sym (whole_bytes_and_digits old n room))
    ∙ ap (λ d. (take n (bits_of old) ++ digits) ++ d) (ap (λ d. replicate s false ++ d) (bytes_after old n (n / 8 + count) room past zeros) ∙ replicate-append-replicate s left false)))

mul-mul : (h p q : ℕ) → h * p * q ≡ h * (p * q)
mul-mul h p q = omega arith

-- eight digits at the front of a word of 64
moved_to_front : (b h k n : ℕ) → b ≡ h * 2 ^ k → k + 56 ≡ n → b * 2 ^ 56 ≡ h * 2 ^ n
moved_to_front b h k n e f = ap (λ c. c * 2 ^ 56) e ∙ (mul-mul h (2 ^ k) (2 ^ 56) ∙ ap (λ c. h * c) (sym (pow-add 2 k 56) ∙ ap (λ c. 2 ^ c) f))

-- digits that are joined to those of a byte
joined_to_byte : (b g width value : ℕ) → b % 2 ^ (8 - g) ≡ 0 → g < 8 → g + width ≤ 64
    → b * 2 ^ 56 + value * 2 ^ (64 - (g + width)) ≡ (b / 2 ^ (8 - g) * 2 ^ width + value) * 2 ^ (64 - (g + width))
joined_to_byte b g width value zeros short narrow =
    let h : ℕ = b / 2 ^ (8 - g) in
    let s : ℕ = 64 - (g + width) in
    let byte : b ≡ h * 2 ^ (8 - g) = omega (arith, shr_split b (8 - g)) in
    let up : 8 - g + 56 ≡ 64 - g = omega arith in
    let split : width + s ≡ 64 - g = omega arith in
    let high : b * 2 ^ 56 ≡ h * 2 ^ (64 - g) = moved_to_front b h (8 - g) (64 - g) byte up in
    ap (λ n. n + value * 2 ^ s) (high ∙ ap (λ n. h * n) (ap (λ n. 2 ^ n) (sym split) ∙ pow-add 2 width s)) ∙ add-mul-mul h (2 ^ width) (2 ^ s) value

-- so they fit eight bytes
pub joined_below : (b g width value : ℕ) → b < 256 → b % 2 ^ (8 - g) ≡ 0 → g < 8 → g + width ≤ 64 → value < 2 ^ width
    → b * 2 ^ 56 + value * 2 ^ (64 - (g + width)) < 2 ^ 64
joined_below b g width value byte zeros short narrow below =
    let size : g + (8 - g) ≡ 8 = omega arith in
    let h : b / 2 ^ (8 - g) < 2 ^ g = shr_below b g (8 - g) (rw size byte) in
    rw (joined_to_byte b g width value zeros short narrow)
    (shift_fits (g + width) (64 - (g + width)) (b / 2 ^ (8 - g) * 2 ^ width + value) (join_below g width (b / 2 ^ (8 - g)) value h below) (omega arith))

-- digits that come after the bits
pub gathered-put : (old : List ℕ) {new : List ℕ} (n width value : ℕ) → n + width ≤ 8 * length old → n % 8 + width ≤ 64 → value < 2 ^ width → drop n (bits_of old) ≡ replicate (8 * length old - n) false
    → new ≡ take (length old) (take (n / 8) old ++ (to_be_bytes w64 (slice_index old (n / 8) * 2 ^ 56 + value * 2 ^ (64 - (n % 8 + width))) ++ drop (n / 8 + 8) old))
    → (take (n + width) (bits_of new) ≡ take n (bits_of old) ++ word width value) × (drop (n + width) (bits_of new) ≡ replicate (8 * length old - (n + width)) false)
gathered-put old {new} n width value room narrow below zeros e =
    let at : ℕ = n / 8 in
    let g : ℕ = n % 8 in
    let b : ℕ = slice_index old at in
    let h : ℕ = b / 2 ^ (8 - g) in
    let s : ℕ = 64 - (g + width) in
    let x : ℕ = b * 2 ^ 56 + value * 2 ^ s in
    let bits : List Bool = take n (bits_of old) ++ word width value in
    let eight : bits_of (to_be_bytes w64 x) ≡ (word g h ++ word width value) ++ replicate s false =
    bits_of-eight x
    ∙ (ap (word 64) (joined_to_byte b g width value (last_zeros old n (omega arith) zeros) (omega arith) (omega arith))
    ∙ (top-word 64 (g + width) (h * 2 ^ width + value) (omega arith) ∙ ap (λ d. d ++ replicate s false) (word-cat g width h value below))) in
    let all : bits_of (take at old ++ (to_be_bytes w64 x ++ drop (at + 8) old)) ≡ bits ++ replicate (s + (8 * length old - 8 * (at + 8))) false =
    bits_of-append (take at old) (to_be_bytes w64 x ++ drop (at + 8) old)
    ∙ (ap (λ d. bits_of (take at old) ++ d) (bits_of-append (to_be_bytes w64 x) (drop (at + 8) old))
    ∙ digits_written old n 8 s (word width value) (omega arith) (omega arith) zeros eight) in
    let size : length bits ≡ n + width = grind (arith, common_steps, length-append, length-take-le, length-bits_of, length-word) in
    zeros_after (bits_of new) bits (n + width) (8 * length old - (n + width))
    (ap bits_of e ∙ (zeros_within_room _ bits _ (length old) all (omega (arith, size)) (omega (arith, size)) ∙ ap (λ k. bits ++ replicate (8 * length old - k) false) size))
    size

-- a 1 that is joined to a number that ends in zeros
one_joined : (x g : ℕ) → x % 2 ^ (8 - g) ≡ 0 → g < 8 → bit_or x (2 ^ (7 - g)) ≡ (x / 2 ^ (8 - g) * 2 ^ 1 + 1) * 2 ^ (8 - (g + 1))
one_joined x g zeros short =
    let h : ℕ = x / 2 ^ (8 - g) in
    let s : ℕ = 8 - (g + 1) in
    let last : 7 - g ≡ s = omega arith in
    let split : 1 + s ≡ 8 - g = omega arith in
    let power : 2 ^ (8 - g) ≡ 2 ^ 1 * 2 ^ s = ap (λ n. 2 ^ n) (sym split) ∙ pow-add 2 1 s in
    let high : x ≡ h * 2 ^ (8 - g) = omega (arith, shr_split x (8 - g)) in
    let low : 2 ^ s < 2 ^ (8 - g) = omega (arith, power, pow_pos s) in
    ap (λ n. bit_or x (2 ^ n)) last
    ∙ (ap (λ n. bit_or n (2 ^ s)) high ∙ (or_shifted h (8 - g) (2 ^ s) low ∙ (ap (λ n. h * n + 2 ^ s) power ∙ one_more h (2 ^ s))))
  where
    one_more : (h q : ℕ) → h * (2 ^ 1 * q) + q ≡ (h * 2 ^ 1 + 1) * q
    one_more h q = omega arith

-- a byte among others
set_apart : (bytes : List ℕ) (i b : ℕ) → i < length bytes → bits_of (set bytes i b) ≡ bits_of (take i bytes) ++ (word 8 b ++ bits_of (drop (i + 1) bytes))
set_apart bytes i b h =
    let back : drop (i + 1) (set bytes i b) ≡ drop (i + 1) bytes = drop-set-lt (i + 1) bytes i b (omega arith) in
    sym (split-bytes i (set bytes i b))
    ∙ (ap (λ d. bits_of d ++ bits_of (drop i (set bytes i b))) (take-set bytes i b)
    ∙ ap (λ d. bits_of (take i bytes) ++ d)
    (ap bits_of (drop_more (set bytes i b) i 0 (omega (arith, length-set bytes i b)))
    ∙ (bits_of-first (get_or (set bytes i b) i 0) (drop (i + 1) (set bytes i b))
    ∙ ap (λ d. word 8 d ++ bits_of (drop (i + 1) (set bytes i b))) (get_or-set_same bytes i b 0 h) ∙ ap (λ d. word 8 b ++ bits_of d) back)))

-- a 1 that comes after the bits and some zeros
pub gathered-one : (old new : List ℕ) (n m : ℕ) → n + m < 8 * length old → drop n (bits_of old) ≡ replicate (8 * length old - n) false
    → new ≡ set old ((n + m) / 8) (bit_or (slice_index old ((n + m) / 8)) (2 ^ (7 - (n + m) % 8)))
    → (take (n + (m + 1)) (bits_of new) ≡ take n (bits_of old) ++ fundamental_sequence m) × (drop (n + (m + 1)) (bits_of new) ≡ replicate (8 * length old - (n + (m + 1))) false)
gathered-one old new n m room zeros e =
    let p : ℕ = n + m in
    let at : ℕ = p / 8 in
    let g : ℕ = p % 8 in
    let x : ℕ = slice_index old at in
    let h : ℕ = x / 2 ^ (8 - g) in
    let s : ℕ = 8 - (g + 1) in
    let far = fewer_zeros_after (bits_of old) n p (8 * length old) (length-bits_of old) (omega arith) (omega arith) zeros in
    let gap : p - n ≡ m = omega arith in
    let bits : List Bool = take n (bits_of old) ++ fundamental_sequence m in
    let byte : word 8 (bit_or x (2 ^ (7 - g))) ≡ (word g h ++ word 1 1) ++ replicate s false = grind (arith, common_steps, one_joined, last_zeros, top-word, word-cat) in
    let left : s + (8 * length old - 8 * (at + 1)) ≡ 8 * length old - (n + (m + 1)) = omega arith in
    let sequence : take p (bits_of old) ++ word 1 1 ≡ bits =
    ap (λ d. d ++ word 1 1) (far.0 ∙ ap (λ k. take n (bits_of old) ++ replicate k false) gap) ∙ fs-parts m (take n (bits_of old)) in
    let size : length bits ≡ n + (m + 1) =
    omega (arith, length-append (take n (bits_of old)) (fundamental_sequence m), length-take-le n (bits_of old) (omega (arith, length-bits_of old)), length-fundamental_sequence m) in
    zeros_after (bits_of new) bits (n + (m + 1)) (8 * length old - (n + (m + 1)))
    (ap bits_of e
    ∙ (set_apart old at (bit_or x (2 ^ (7 - g))) (omega arith)
    ∙ (digits_written old p 1 s (word 1 1) (omega arith) (omega arith) far.1 byte ∙ ((λ j. sequence j ++ replicate (left j) false)))))
    size

-- a byte, and zeros in front of others
byte_first : (b : ℕ) (bytes : List ℕ) (at : ℕ) → bits_of (b ∷ replicate at 0 ++ bytes) ≡ word 8 b ++ (replicate (8 * at) false ++ bits_of bytes)
byte_first b bytes at =
    bits_of-first b (replicate at 0 ++ bytes) ∙ ap (λ d. word 8 b ++ d) (bits_of-append (replicate at 0) bytes ∙ ap (λ d. d ++ bits_of bytes) (bits_of-zeros at))

three_zeros : (g h k : ℕ) (xs : List Bool) → (xs ++ replicate g false) ++ (replicate h false ++ replicate k false) ≡ xs ++ replicate (g + (h + k)) false
three_zeros g h k xs = grind (arith, common_steps, append_assoc, replicate-append-replicate)

-- what stands after whole bytes that are dropped moves to the front, and zeros come after it
zeros_dropped : (old new : List ℕ) (n count : ℕ) → n ≤ 8 * length old → n / 8 ≤ count → drop n (bits_of old) ≡ replicate (8 * length old - n) false
    → new ≡ take (length old) (slice_index old (n / 8) ∷ replicate count 0 ++ drop (count + 1) old)
    → bits_of new ≡ drop (bits_in_bytes (length (take n (bits_of old)))) (take n (bits_of old)) ++ replicate (8 * length old - n % 8) false
zeros_dropped old new n count room far zeros e =
    let at : ℕ = n / 8 in
    let g : ℕ = n % 8 in
    let b : ℕ = slice_index old at in
    let digits : List Bool = word g (b / 2 ^ (8 - g)) in
    let left : ℕ = 8 * length old - 8 * (count + 1) in
    let all : bits_of (b ∷ replicate count 0 ++ drop (count + 1) old) ≡ digits ++ replicate (8 - g + (8 * count + left)) false =
    byte_first b (drop (count + 1) old) count
    ∙ (ap (λ d. d ++ (replicate (8 * count) false ++ bits_of (drop (count + 1) old))) (last_byte old n room zeros)
    ∙ (ap (λ d. (digits ++ replicate (8 - g) false) ++ (replicate (8 * count) false ++ d)) (bytes_after old n (count + 1) room (omega (arith, far)) zeros)
    ∙ three_zeros (8 - g) (8 * count) left digits)) in
    grind (arith, common_steps, length-word, whole_bytes_and_digits, rest-bits, zeros_within_room)

-- the byte that is not whole comes to the front, when the others are dropped
pub gathered-dropped : (old new : List ℕ) (capacity n count : ℕ) → IsBitSink capacity n old → length old ≡ capacity → n / 8 ≤ count
    → new ≡ take (length old) (slice_index old (n / 8) ∷ replicate count 0 ++ drop (count + 1) old)
    → (take (n % 8) (bits_of new) ≡ drop (bits_in_bytes (length (take n (bits_of old)))) (take n (bits_of old))) × IsBitSink capacity (n % 8) new
gathered-dropped old new capacity n count h size far e =
    let bits : List Bool = take n (bits_of old) in
    let zeros : drop n (bits_of old) ≡ replicate (8 * length old - n) false = h.zeros ∙ ap (λ k. replicate (8 * k - n) false) (sym size) in
    let long : length bits ≡ n = length_viewed old capacity n bits h size refl in
    let rest : length (drop (bits_in_bytes (length bits)) bits) ≡ n % 8 = omega (arith, long, length-drop (bits_in_bytes (length bits)) bits) in
    let all = zeros_after (bits_of new) (drop (bits_in_bytes (length bits)) bits) (n % 8) (8 * length old - n % 8) (zeros_dropped old new n count (omega (arith, h.room, size)) far zeros e) rest in
    (all.0, record { room = omega (arith, h.room); zeros = all.1 ∙ ap (λ k. replicate (8 * k - n % 8) false) size; small = h.small })

-- the whole bytes that bits are gathered in are the whole bytes of these bits
pub gathered-whole : (bytes : List ℕ) (n : ℕ) → n ≤ 8 * length bytes → ((i : ℕ) → get_or (take (n / 8) bytes) i 0 < 256)
    → whole_bytes (take n (bits_of bytes)) ≡ take (n / 8) bytes
gathered-whole bytes n room f = grind (arith, common_steps, whole_bytes_and_digits, whole-bits, length-word)
