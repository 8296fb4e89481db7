-- Numbers joined of high parts and low parts, in lanes of 8 bits.
use Rattle.rice_fast.proofs.Words.{◌≡◌, ℕ, zero, suc, ◌+◌, ◌*◌, ◌/◌, ◌%◌, ◌^◌, ◌<◌, ◌≤◌, List, [], ◌∷◌, length, map, replicate, refl, ◌∙◌, ap, arith, Fits, w8, All, Each1, digits_l, number_l, zip2}
use Rattle.rice_fast.proofs.lemmas.vectors.NumbersInLanes.{each_of}

-- bytes as pairs, and back

abbrev paired : List ℕ → List ℕ
paired (a ∷ b ∷ xs) = (a + 256 * b) ∷ paired xs
paired _ = []

abbrev pub parted : List ℕ → List ℕ
parted [] = []
parted (c ∷ ys) = c % 256 ∷ c / 256 ∷ parted ys

abbrev pub twice : ℕ → ℕ
twice zero = zero
twice (suc n) = suc (suc (twice n))

pairs_of : (n : ℕ) (xs : List ℕ) → length xs ≡ twice n → Each1 (Fits w8) xs → digits_l 65536 n (number_l 256 xs) ≡ paired xs
pairs_of zero [] e h = refl
pairs_of zero (a ∷ xs) e h = absurd (omega arith)
pairs_of (suc n) [] e h = absurd (omega arith)
pairs_of (suc n) (a ∷ []) e h = absurd (omega arith)
pairs_of (suc n) (a ∷ b ∷ xs) e h =
    let rest = number_l 256 xs in
    let first : (a + 256 * (b + 256 * rest)) % 65536 ≡ a + 256 * b = omega (arith, h.0.fits, h.1.0.fits) in
    let after : (a + 256 * (b + 256 * rest)) / 65536 ≡ rest = omega (arith, h.0.fits, h.1.0.fits) in
    let same = ap (digits_l 65536 n) after ∙ pairs_of n xs (omega arith) h.1.1 in
    λ j. first j ∷ same j

-- lanes of 16 bits, read as bytes, are the low and the high byte of each
pub bytes_of : (n : ℕ) (ys : List ℕ) → length ys ≡ n → Each1 (λ y. y < 65536) ys → digits_l 256 (twice n) (number_l 65536 ys) ≡ parted ys
bytes_of zero [] e h = refl
bytes_of zero (c ∷ ys) e h = absurd (omega arith)
bytes_of (suc n) [] e h = absurd (omega arith)
bytes_of (suc n) (c ∷ ys) e h =
    let rest = number_l 65536 ys in
    let first : (c + 65536 * rest) % 256 ≡ c % 256 = omega arith in
    let second : (c + 65536 * rest) / 256 % 256 ≡ c / 256 = omega (arith, h.0) in
    let after : (c + 65536 * rest) / 256 / 256 ≡ rest = omega (arith, h.0) in
    let same = ap (digits_l 256 (twice n)) after ∙ bytes_of n ys (omega arith) h.1 in
    λ j. first j ∷ second j ∷ same j

-- high parts

abbrev shifted : ℕ → ℕ → List ℕ → List ℕ
shifted w n cs = zip2 (λ c s. c * 2 ^ s % 65536) cs (replicate n w)

one_pair : (w a b : ℕ) → w ≤ 7 → a ≤ 255 / 2 ^ w → b ≤ 255 / 2 ^ w → ((a + 256 * b) * 2 ^ w % 65536 % 256 ≡ a * 2 ^ w) × ((a + 256 * b) * 2 ^ w % 65536 / 256 ≡ b * 2 ^ w)
one_pair zero a b h k l = (omega arith, omega arith)
one_pair (suc zero) a b h k l = (omega arith, omega arith)
one_pair (suc (suc zero)) a b h k l = (omega arith, omega arith)
one_pair (suc (suc (suc zero))) a b h k l = (omega arith, omega arith)
one_pair (suc (suc (suc (suc zero)))) a b h k l = (omega arith, omega arith)
one_pair (suc (suc (suc (suc (suc zero))))) a b h k l = (omega arith, omega arith)
one_pair (suc (suc (suc (suc (suc (suc zero)))))) a b h k l = (omega arith, omega arith)
one_pair (suc (suc (suc (suc (suc (suc (suc zero))))))) a b h k l = (omega arith, omega arith)
one_pair (suc (suc (suc (suc (suc (suc (suc (suc w)))))))) a b h k l = absurd (omega arith)

all_pairs : (w n : ℕ) (ms : List ℕ) → w ≤ 7 → length ms ≡ twice n → Each1 (λ m. m ≤ 255 / 2 ^ w) ms → parted (shifted w n (paired ms)) ≡ map (λ m. m * 2 ^ w) ms
all_pairs w zero [] h e k = refl
all_pairs w zero (m ∷ ms) h e k = absurd (omega arith)
all_pairs w (suc n) [] h e k = absurd (omega arith)
all_pairs w (suc n) (a ∷ []) h e k = absurd (omega arith)
all_pairs w (suc n) (a ∷ b ∷ ms) h e k =
    let one = one_pair w a b h k.0 k.1.0 in
    let rest = all_pairs w n ms h (omega arith) k.1.1 in
    λ j. one.0 j ∷ one.1 j ∷ rest j

shifted_below : (w n : ℕ) (cs : List ℕ) → Each1 (λ y. y < 65536) (shifted w n cs)
shifted_below w n [] = tt
shifted_below w zero (c ∷ cs) = tt
shifted_below w (suc n) (c ∷ cs) = (omega arith, shifted_below w n cs)

length-shifted : (w n : ℕ) (ms : List ℕ) → length ms ≡ twice n → length (shifted w n (paired ms)) ≡ n
length-shifted w zero [] e = refl
length-shifted w zero (m ∷ ms) e = absurd (omega arith)
length-shifted w (suc n) [] e = absurd (omega arith)
length-shifted w (suc n) (a ∷ []) e = absurd (omega arith)
length-shifted w (suc n) (a ∷ b ∷ ms) e = omega (arith, length-shifted w n ms (omega arith))

-- sixteen bytes, moved up in lanes of 16 bits two at a time, are each moved up, where all are so small that they stay within their bytes
pub highs-raised : (w : ℕ) (ms : List ℕ) → w ≤ 7 → length ms ≡ 16 → Each1 (Fits w8) ms → All (λ m. m ≤ 255 / 2 ^ w) ms
    → digits_l 256 16 (number_l 65536 (zip2 (λ c s. c * 2 ^ s % 65536) (digits_l 65536 8 (number_l 256 ms)) (replicate 8 w))) ≡ map (λ m. m * 2 ^ w) ms
highs-raised w ms h e fits small =
    ap (λ cs. digits_l 256 16 (number_l 65536 (shifted w 8 cs))) (pairs_of 8 ms e fits)
    ∙ (bytes_of 8 (shifted w 8 (paired ms)) (length-shifted w 8 ms e) (shifted_below w 8 (paired ms))
    ∙ all_pairs w 8 ms h e (each_of (λ m. m ≤ 255 / 2 ^ w) ms small))
