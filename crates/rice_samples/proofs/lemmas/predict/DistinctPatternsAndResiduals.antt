-- A sample has its own pattern, and after each other sample its own residual.
use Rattle.std.proofs.Common.{◌≡◌, ℕ, zero, suc, ◌+◌, ◌-◌, ◌*◌, ◌%◌, ◌^◌, ◌<◌, ◌≤◌, false, List, [], ◌∷◌, length, refl, ap, arith, sym, ◌∙◌, ℤ, pos, negsuc, neg_ℤ, ◌≤ℤ◌, ◌<ℤ◌, w64}
use Rattle.std.proofs.{Math.Nat.mul-add-mod_self_left, Math.Nat.mod-eq_of_lt, Math.Nat.mul-div_cancel_left, lemmas.Nat.mod-mul-add, lemmas.Nat.pow-add, lemmas.Nat.pow_pos, lemmas.Grind.common_steps}
use Rattle.std.{specs.Int.cast_unsigned, specs.Int.int_gap, specs.List.AllByRecursion, proofs.lemmas.Int.ints}
use Rattle.rice_samples.specs.{Residuals.twos_complement, Residuals.pattern, Residuals.residual, Residuals.residuals, Places.is_reference_sample, Places.is_reference}
use Rattle.rice_samples.proofs.lemmas.{setting.LevelsOfSamples.half_pow, setting.LevelsOfSamples.same_level, predict.Ranks.rank_injective}
use Rattle.rice_samples.specs.Parameters.{Parameters, IsSample}

-- the lowest digits of a small number in 64 bits
pub low_digits : (bits : ℕ) (x : ℤ) → bits ≤ 32 → neg_ℤ (pos (2 ^ bits)) ≤ℤ x → x <ℤ pos (2 ^ bits) → cast_unsigned w64 x % 2 ^ bits ≡ twos_complement bits x
low_digits bits (pos v) few from below = mod-eq_of_lt (omega (arith, ints))
low_digits bits (negsuc v) few from below = negative (2 ^ (64 - bits)) (2 ^ bits) v
    (let e : 64 ≡ 64 - bits + bits = omega arith in sym (ap (λ n. 2 ^ n) e ∙ pow-add 2 (64 - bits) bits)) (pow_pos (64 - bits)) (omega (arith, ints))
  where
    negative : (parts p v : ℕ) → parts * p ≡ 2 ^ 64 → 0 < parts → v < p → (2 ^ 64 - suc v) % p ≡ p - 1 - v
    negative zero p v e some lt = absurd (omega arith)
    negative (suc parts) p v e some lt = let f : 2 ^ 64 - suc v ≡ parts * p + (p - 1 - v) = omega arith in rw f (mod-mul-add parts p (p - 1 - v) (omega arith))

same_signed : (n : ℕ) {half : ℕ} {x y : ℤ} → 2 ^ n ≡ half + half → 0 < half → neg_ℤ (pos half) ≤ℤ x → int_gap (neg_ℤ (pos half)) x < 2 ^ n → neg_ℤ (pos half) ≤ℤ y
    → int_gap (neg_ℤ (pos half)) y < 2 ^ n → twos_complement n x ≡ twos_complement n y → x ≡ y
same_signed n {half = zero} e lt h k l m f = absurd (omega arith)
same_signed n {half = suc half} {x = pos v} {y = pos w} e lt h k l m f = ap (λ d. pos d) f
same_signed n {half = suc half} {x = pos v} {y = negsuc w} e lt h k l m f = absurd (omega (arith, ints))
same_signed n {half = suc half} {x = negsuc v} {y = pos w} e lt h k l m f = absurd (omega (arith, ints))
same_signed n {half = suc half} {x = negsuc v} {y = negsuc w} e lt h k l m f = ap (λ d. negsuc d) (omega (arith, ints))

same_unsigned : (n : ℕ) (x y : ℤ) → pos 0 ≤ℤ x → pos 0 ≤ℤ y → twos_complement n x ≡ twos_complement n y → x ≡ y
same_unsigned n (pos v) (pos w) h k f = ap (λ d. pos d) f
same_unsigned n (pos v) (negsuc w) h k f = absurd (omega (arith, ints))
same_unsigned n (negsuc v) y h k f = absurd (omega (arith, ints))

-- samples with the same pattern are the same
pub same_pattern : (s : Parameters) (x y : ℤ) → 1 ≤ s.bits → IsSample s x → IsSample s y → pattern s x ≡ pattern s y → x ≡ y
same_pattern s x y h k l e = grind (arith, common_steps, same_signed, half_pow, pow_pos, same_unsigned)

-- where a sample is no reference, its residual tells it
pub same_residual : (s : Parameters) (i : ℕ) (p : ℤ) {x y : ℤ} → 1 ≤ s.bits → IsSample s p → IsSample s x → IsSample s y → is_reference_sample s i ≡ false → residual s i p x ≡ residual s i p y → x ≡ y
same_residual s i p {x} {y} n h k l r e = grind (arith, common_steps, same_level, rank_injective, same_pattern)

-- samples that follow the same sample, with no reference sample among them, and have the same residuals are the same
pub same_residuals : (s : Parameters) (i : ℕ) (p : ℤ) {xs ys : List ℤ} → 1 ≤ s.bits → IsSample s p → AllByRecursion (IsSample s) xs → AllByRecursion (IsSample s) ys →
    ((t : ℕ) → t < length xs → is_reference_sample s (i + t) ≡ false) → residuals s i p xs ≡ residuals s i p ys → xs ≡ ys
same_residuals s i p {xs = []} {ys = []} n h k l r e = refl
same_residuals s i p {xs = []} {ys = y ∷ ys} n h k l r e = absurd cc
same_residuals s i p {xs = x ∷ xs} {ys = []} n h k l r e = absurd cc
same_residuals s i p {xs = x ∷ xs} {ys = y ∷ ys} n h k l r e =
    let one : residual s i p x ≡ residual s i p y = cc in
    let others : residuals s (i + 1) x xs ≡ residuals s (i + 1) y ys = cc in
    let here : is_reference_sample s i ≡ false = (let z : i ≡ i + 0 = omega arith in ap (λ m. is_reference_sample s m) z) ∙ r 0 (omega arith) in
    let first = same_residual s i p n h k.0 l.0 here one in
    let later = λ (t : ℕ) (lt : t < length xs). (let z : i + 1 + t ≡ i + suc t = omega arith in ap (λ m. is_reference_sample s m) z) ∙ r (suc t) (omega arith) in
    let rest = same_residuals s (i + 1) x n k.0 k.1 l.1 later (others ∙ ap (λ v. residuals s (i + 1) v ys) (sym first)) in
    λ j. first j ∷ rest j

-- only the first sample of a block is a reference
pub inside_block : (s : Parameters) (b t : ℕ) → 1 ≤ t → t < s.block → is_reference_sample s (s.block * b + t) ≡ false
inside_block s b t h lt = grind (arith, common_steps, mul-add-mod_self_left, mod-eq_of_lt)

-- the first sample of a block without a reference is no reference sample
pub no_reference_at : (s : Parameters) (b : ℕ) → 1 ≤ s.block → is_reference s b ≡ false → is_reference_sample s (s.block * b) ≡ false
no_reference_at s b h e = grind (arith, common_steps, mul-div_cancel_left)
