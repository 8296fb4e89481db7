-- How many bytes samples take.
use Rattle.std.proofs.Common.{◌≡◌, ℕ, zero, suc, ◌+◌, ◌*◌, ◌≤◌, List, [], ◌∷◌, ◌++◌, length, refl, ap, arith, ◌∙◌, length-append, ℤ}
use Rattle.std.{proofs.lemmas.Grind.common_steps, proofs.lemmas.Grind.flat_map-append, specs.Int.bytes_low_first, specs.Int.bytes_high_first, proofs.lemmas.Bool.Decides.nat_tests}
use Rattle.rice_samples.specs.{Spelling.spelling, Spelling.spellings, Parameters.Parameters, Parameters.width}

low_count : (i k v : ℕ) → length (bytes_low_first i k v) ≡ k
low_count i zero v = refl
low_count i (suc k) v = ap suc (low_count (suc i) k v)

high_count : (k v : ℕ) → length (bytes_high_first k v) ≡ k
high_count zero v = refl
high_count (suc k) v = ap suc (high_count k v)

-- one sample is spelled in as many bytes as the width says
pub length-spelling : (s : Parameters) (x : ℤ) → length (spelling s x) ≡ width s
length-spelling s x = grind (arith, common_steps, high_count, low_count)

-- and several samples in so many times as many
pub length-spellings : (s : Parameters) (xs : List ℤ) → length (spellings s xs) ≡ width s * length xs
length-spellings s [] = omega arith
length-spellings s (x ∷ xs) = length-append (spelling s x) (spellings s xs) ∙ (λ i. length-spelling s x i + length-spellings s xs i) ∙ next (width s) (length xs)
  where
    next : (w n : ℕ) → w + w * n ≡ w * suc n
    next w n = omega arith

-- the bytes of samples and of others after them stand one after the other
pub spellings-append : (s : Parameters) (xs ys : List ℤ) → spellings s (xs ++ ys) ≡ spellings s xs ++ spellings s ys
spellings-append s xs ys = flat_map-append (spelling s) xs ys

-- a sample has one byte to four
pub some_width : (s : Parameters) → 1 ≤ width s
some_width s = grind (arith, nat_tests)

-- and no more than four
pub narrow_width : (s : Parameters) → width s ≤ 4
narrow_width s = grind (arith, nat_tests)
