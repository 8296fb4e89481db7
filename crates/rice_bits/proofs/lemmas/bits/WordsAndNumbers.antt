-- Words: their lengths, their parts, and the numbers that they spell.
use Rattle.std.proofs.Common.{◌≡◌, ℕ, zero, suc, ◌+◌, ◌-◌, ◌*◌, ◌/◌, ◌%◌, ◌^◌, ◌<◌, ◌≤◌, Bool, true, false, List, [], ◌∷◌, ◌++◌, length, replicate, refl, sym, ◌∙◌, ap, arith, zero-add, length-append}
use Rattle.std.proofs.Common.{mod-eq_of_lt}
use Rattle.std.specs.Prelude.{◌==◌, if◌then◌else◌}
use Rattle.std.proofs.lemmas.Nat.{pow-add, mul-add-lt, shl_below, pow_pos, div-mul-add, shr_split, mod-pow-add, mod_below, Bits.bit_at_cat_low, Bits.bit_at_cat_high, Bits.bit_at-zero}
use Rattle.std.proofs.{Math.Nat.mul_comm, Math.Nat.pow-le-pow_right, Math.Nat.suc-add, Math.Nat.pow-suc, Math.Nat.mod-one, Math.Nat.mod-lt, lemmas.List.length-replicate, lemmas.Grind.common_steps}
use Rattle.rice_bits.specs.Bits.{word, number_of, fundamental_sequence}

-- a word has as many digits as its width
pub length-word : (w v : ℕ) → length (word w v) ≡ w
unfolding word
length-word zero v = refl
length-word (suc w) v = ap suc (length-word w v)

-- a word of width 0 has no digits
pub word-nil : (v : ℕ) → word 0 v ≡ []
unfolding word
word-nil v = refl

-- the digits below b are those of the low part
pub word-low : (k b h l : ℕ) → k ≤ b → word k (h * 2 ^ b + l) ≡ word k l
unfolding word
word-low zero b h l p = refl
word-low (suc k) b h l p =
    let q : k < b = omega arith in
    let r : k ≤ b = omega arith in
    rw (bit_at_cat_low h b l k q, word-low k b h l r) refl

-- a number joined of two parts has the digits of both
pub word-cat : (a b h l : ℕ) → l < 2 ^ b → word (a + b) (h * 2 ^ b + l) ≡ word a h ++ word b l
unfolding word
word-cat zero b h l p = rw zero-add (word-low b b h l (omega arith))
word-cat (suc a) b h l p =
    let e : a + b - b ≡ a = omega arith in
    let q : b ≤ a + b = omega arith in
    rw suc-add (rw (bit_at_cat_high h b l (a + b) p q, e, word-cat a b h l p) refl)

-- zeros spell the number 0
pub word-zero : (w : ℕ) → word w 0 ≡ replicate w false
unfolding word
word-zero zero = refl
word-zero (suc w) = rw (bit_at-zero w, word-zero w) refl

-- the digits of the parts of a number
pub word-split : (a b v : ℕ) → word (a + b) v ≡ word a (v / 2 ^ b) ++ word b (v % 2 ^ b)
word-split a b v =
    ap (word (a + b)) (sym (shr_split v b)) ∙ word-cat a b (v / 2 ^ b) (v % 2 ^ b) (mod_below v (2 ^ b) (pow_pos b))

-- v zeros, and then the digits of a smaller width
pub word-wide : (a b v : ℕ) → v < 2 ^ b → word (a + b) v ≡ replicate a false ++ word b v
word-wide a b v p =
    let e : 0 * 2 ^ b + v ≡ v = omega arith in
    ap (word (a + b)) (sym e) ∙ word-cat a b 0 v p ∙ ap (λ z. z ++ word b v) (word-zero a)

-- what a digit adds to a number
bit-worth : (d p : ℕ) → d < 2 → (if d == 1 then p else 0) ≡ d * p
bit-worth zero p h = omega arith
bit-worth (suc zero) p h = omega arith
bit-worth (suc (suc d)) p h = absurd (omega arith)

-- the number that the digits spell is the low part of the value
pub number_of-word-mod : (w v : ℕ) → number_of (word w v) ≡ v % 2 ^ w
unfolding word number_of
number_of-word-mod zero v = sym (mod-one v)
number_of-word-mod (suc w) v =
    let e : 1 + w ≡ suc w = omega arith in
    let split : v % 2 ^ suc w ≡ (v / 2 ^ w % 2) * 2 ^ w + v % 2 ^ w = ap (λ n. v % 2 ^ n) (sym e) ∙ mod-pow-add v 1 w in
    rw (length-word w v, number_of-word-mod w v, split, bit-worth (v / 2 ^ w % 2) (2 ^ w) (mod-lt (v / 2 ^ w) (omega arith))) refl

-- so it is the value itself, where that fits the width
pub number_of-word : (w v : ℕ) → v < 2 ^ w → number_of (word w v) ≡ v
number_of-word w v h = number_of-word-mod w v ∙ mod-eq_of_lt h

-- a number fits as many digits as the bits that spell it
pub number_of-lt : (bits : List Bool) → number_of bits < 2 ^ length bits
unfolding number_of
number_of-lt [] = omega arith
number_of-lt (true ∷ bits) = omega (arith, number_of-lt bits, pow-suc 2 (length bits))
number_of-lt (false ∷ bits) = omega (arith, number_of-lt bits, pow-suc 2 (length bits))

-- a bit and the digits below it
pub one_more : (n x : ℕ) → x < 2 ^ n → word (suc n) (2 ^ n + x) ≡ true ∷ word n x
unfolding word
one_more n x h =
    let e : 1 * 2 ^ n + x ≡ 2 ^ n + x = omega arith in
    rw (← e, div-mul-add 1 (2 ^ n) x h, word-low n n 1 x (omega arith)) refl

zero_more : (n x : ℕ) → x < 2 ^ n → word (suc n) (0 + x) ≡ false ∷ word n x
unfolding word
zero_more n x h =
    let e : 0 * 2 ^ n + x ≡ 0 + x = omega arith in
    rw (← e, div-mul-add 0 (2 ^ n) x h, word-low n n 0 x (omega arith)) refl

-- the number that bits spell, written with as many digits, gives these bits again
pub word-number_of : (bits : List Bool) → word (length bits) (number_of bits) ≡ bits
unfolding number_of
word-number_of [] = word-nil 0
word-number_of (true ∷ bits) = one_more (length bits) (number_of bits) (number_of-lt bits) ∙ ap (λ z. true ∷ z) (word-number_of bits)
word-number_of (false ∷ bits) = zero_more (length bits) (number_of bits) (number_of-lt bits) ∙ ap (λ z. false ∷ z) (word-number_of bits)

-- the fundamental sequence of m has m + 1 bits
pub length-fundamental_sequence : (m : ℕ) → length (fundamental_sequence m) ≡ m + 1
length-fundamental_sequence m = length-append (replicate m false) (true ∷ []) ∙ ap (λ n. n + 1) (length-replicate m false)

word_one : word 1 1 ≡ true ∷ []
unfolding word
word_one = refl

-- the fundamental sequence of m is the number 1 in m + 1 digits
pub word-fs : (m : ℕ) → word (m + 1) 1 ≡ fundamental_sequence m
word-fs m = word-wide m 1 1 (omega arith) ∙ ap (λ z. replicate m false ++ z) word_one

-- a number with more digits after it
unfoldable pub followed_by : ℕ → List Bool → ℕ
followed_by v digits = v * 2 ^ length digits + number_of digits

-- what stands before the digits
pub high-followed_by : (v : ℕ) (digits : List Bool) → followed_by v digits / 2 ^ length digits ≡ v
unfolding followed_by
high-followed_by v digits = div-mul-add v (2 ^ length digits) (number_of digits) (number_of-lt digits)

-- the digits themselves
pub word-followed_by : (v : ℕ) (digits : List Bool) → word (length digits) (followed_by v digits) ≡ digits
unfolding followed_by
word-followed_by v digits = word-low (length digits) (length digits) v (number_of digits) (omega arith) ∙ word-number_of digits

-- a number that is shifted up, where there is room
pub shift_fits : (a b v : ℕ) → v < 2 ^ a → a + b ≤ 64 → v * 2 ^ b < 2 ^ 64
shift_fits a b v p h = omega (arith, shl_below v a b p, pow-le-pow_right {n = 2} (omega arith) {i = a + b} {j = 64} h)

-- a number joined of two parts fits the digits of both
pub join_below : (a b h l : ℕ) → h < 2 ^ a → l < 2 ^ b → h * 2 ^ b + l < 2 ^ (a + b)
join_below a b h l p q = grind (arith, common_steps, pow-add, mul_comm, mul-add-lt)
