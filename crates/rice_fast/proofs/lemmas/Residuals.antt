-- Residuals of samples that are predicted, or not.
use Rattle.rice_fast.proofs.Words.{◌≡◌, ℕ, zero, suc, ◌+◌, ◌-◌, ◌%◌, ◌^◌, ◌<◌, ◌≤◌, Bool, true, false, cond, List, [], ◌∷◌, ◌++◌, length, map, take, drop, replicate, refl, sym, ◌∙◌, ap, subst, arith}
use Rattle.rice_fast.proofs.Words.{All, bit_and, zip2, mod-add-mod, take-append_seam, mod-mod-pow, and_mask, mod_below, pow_pos, length-take-le, take-append-drop, All-cons, All-nil, Parameters, least}
use Rattle.rice_fast.proofs.Words.{value_at, value_count, values_at, offset, AreLevelsOfParts, last_number, pattern, rank_below, ranks_below, level_of_pattern, level_from_pattern, rank_fits}
use Rattle.rice_fast.proofs.Words.{pattern_fits, gap_above, sample_at, HaveParts, residuals_at}
use Rattle.rice_fast.proofs.lemmas.{vectors.LaneRanks.length-ranks_below, vectors.RestoredLevels.ranks_below-append}

-- residuals by the predictor of their setting
pub ranks_alone : (s : Parameters) (p : ℕ) (xs : List ℕ) → s.preprocess ≡ true → residuals_at s p xs ≡ ranks_below (value_count s) p xs
ranks_alone s p xs e = ap (λ b. cond b (ranks_below (value_count s) p xs) (map (pattern s) (values_at s xs))) e

-- the patterns of samples that are not predicted
pub patterns_alone : (s : Parameters) (p : ℕ) (xs : List ℕ) → s.preprocess ≡ false → residuals_at s p xs ≡ map (pattern s) (values_at s xs)
patterns_alone s p xs e = ap (λ b. cond b (ranks_below (value_count s) p xs) (map (pattern s) (values_at s xs))) e

-- predicted samples have these parts, if their ranks have them
pub predicted_parts : {s : Parameters} {p k : ℕ} {highs lows levels : List ℕ} → s.preprocess ≡ true → AreLevelsOfParts s p k highs lows levels → HaveParts s p k highs lows levels
predicted_parts {s} {p} {levels} e near = record { len = near.len; legal = near.legal; residuals = ranks_alone s p levels e ∙ near.ranked }

-- each sample has one residual
pub length-residuals : (s : Parameters) (p : ℕ) (xs : List ℕ) → length (residuals_at s p xs) ≡ length xs
length-residuals s p xs = by s.preprocess
  where
    patterns : (xs : List ℕ) → length (map (pattern s) (values_at s xs)) ≡ length xs
    patterns [] = refl
    patterns (x ∷ xs) = ap suc (patterns xs)

    by : (b : Bool) → length (cond b (ranks_below (value_count s) p xs) (map (pattern s) (values_at s xs))) ≡ length xs
    by true = length-ranks_below (value_count s) p xs
    by false = patterns xs

-- the residuals of two rows of samples
pub residuals-append : (s : Parameters) (p : ℕ) (xs ys : List ℕ) → residuals_at s p (xs ++ ys) ≡ residuals_at s p xs ++ residuals_at s (last_number p xs) ys
residuals-append s p xs ys = by s.preprocess
  where
    patterns : (xs : List ℕ) → map (pattern s) (values_at s (xs ++ ys)) ≡ map (pattern s) (values_at s xs) ++ map (pattern s) (values_at s ys)
    patterns [] = refl
    patterns (x ∷ xs) = ap (λ ds. pattern s (value_at s x) ∷ ds) (patterns xs)

    by : (b : Bool) → cond b (ranks_below (value_count s) p (xs ++ ys)) (map (pattern s) (values_at s (xs ++ ys)))
        ≡ cond b (ranks_below (value_count s) p xs) (map (pattern s) (values_at s xs)) ++ cond b (ranks_below (value_count s) (last_number p xs) ys) (map (pattern s) (values_at s ys))
    by true = ranks_below-append (value_count s) p xs ys
    by false = patterns xs

-- the first residuals are those of the first samples
pub first_residuals : (n : ℕ) (s : Parameters) (p : ℕ) (xs : List ℕ) → n ≤ length xs → take n (residuals_at s p xs) ≡ residuals_at s p (take n xs)
first_residuals n s p xs most =
    let first = residuals_at s p (take n xs) in
    let rest = residuals_at s (last_number p (take n xs)) (drop n xs) in
    let len : length first ≡ n = length-residuals s p (take n xs) ∙ length-take-le n xs most in
    ap (λ ls. take n (residuals_at s p ls)) (sym (take-append-drop n xs))
    ∙ (ap (take n) (residuals-append s p (take n xs) (drop n xs)) ∙ (ap (λ m. take m (first ++ rest)) (sym len) ∙ take-append_seam first rest))

-- residuals of legal levels are below the number of values
pub residuals_fit : (s : Parameters) (p : ℕ) (xs : List ℕ) → 1 ≤ s.bits → p < value_count s → All (λ x. x < value_count s) xs → All (λ d. d < value_count s) (residuals_at s p xs)
residuals_fit s p xs some begins legal = by s.preprocess
  where
    first : (x : ℕ) (xs : List ℕ) → All (λ y. y < value_count s) (x ∷ xs) → x < value_count s
    first x xs all = all 0 0 (omega arith)

    others : (x : ℕ) (xs : List ℕ) → All (λ y. y < value_count s) (x ∷ xs) → All (λ y. y < value_count s) xs
    others x xs all i d k = all (suc i) d (omega (arith, k))

    ranks : (p : ℕ) (xs : List ℕ) → p < value_count s → All (λ x. x < value_count s) xs → All (λ d. d < value_count s) (ranks_below (value_count s) p xs)
    ranks p [] h all = All-nil (λ d. d < value_count s)
    ranks p (x ∷ xs) h all =
        let lt = first x xs all in
        All-cons (λ d. d < value_count s) (rank_below (value_count s) p x) (ranks_below (value_count s) x xs) (rank_fits (value_count s) p x h lt) (ranks x xs lt (others x xs all))

    patterns : (xs : List ℕ) → All (λ x. x < value_count s) xs → All (λ d. d < value_count s) (map (pattern s) (values_at s xs))
    patterns [] all = All-nil (λ d. d < value_count s)
    patterns (x ∷ xs) all =
        let lt = first x xs all in
        All-cons (λ d. d < value_count s) (pattern s (value_at s x)) (map (pattern s) (values_at s xs)) (pattern_fits s (value_at s x) some (sample_at s x lt)) (patterns xs (others x xs all))

    by : (b : Bool) → All (λ d. d < value_count s) (cond b (ranks_below (value_count s) p xs) (map (pattern s) (values_at s xs)))
    by true = ranks p xs begins legal
    by false = patterns xs legal

-- A sum of a pattern and the level o of the sample with the pattern 0, in a lane of so many bits, of which a mask is left.
abbrev turned : (bits o mask v : ℕ) → ℕ
turned bits o mask v = bit_and ((v + o) % 2 ^ bits) mask

-- the lowest digits of such a sum
low_digits : (s : Parameters) (bits o mask v : ℕ) → s.bits ≤ bits → mask ≡ value_count s - 1 → turned bits o mask v ≡ (v + o) % 2 ^ s.bits
low_digits s bits o mask v le is =
    let e : bits ≡ bits - s.bits + s.bits = omega (arith, le) in
    ap (λ m. bit_and ((v + o) % 2 ^ bits) m) is ∙ (and_mask ((v + o) % 2 ^ bits) s.bits ∙ (ap (λ k. (v + o) % 2 ^ k % 2 ^ s.bits) e ∙ mod-mod-pow (v + o) (bits - s.bits) s.bits))

-- it is the level of the sample with this pattern
record IsTurned (s : Parameters) (v l : ℕ) : Type 0 where
  legal : l < value_count s
  pattern_is : pattern s (value_at s l) ≡ v

one_turned : (s : Parameters) (bits o mask v : ℕ) → 1 ≤ s.bits → s.bits ≤ bits → s.bits ≤ 32 → o < value_count s → pattern s (value_at s o) ≡ 0 → mask ≡ value_count s - 1
    → v < value_count s → IsTurned s v (turned bits o mask v)
one_turned s bits o mask v some le few lt none is fits =
    let m = 2 ^ s.bits in
    let origin : (0 + offset s) % m ≡ o = ap (λ w. (w + offset s) % m) (sym none) ∙ (level_from_pattern s s.bits (value_at s o) some (omega arith) (sample_at s o lt) ∙ gap_above (least s) o) in
    let swap : v + (0 + offset s) % m ≡ (0 + offset s) % m + v = omega arith in
    let swapped : 0 + offset s + v ≡ v + offset s = omega arith in
    let low : turned bits o mask v ≡ (v + o) % m = low_digits s bits o mask v le is in
    let same : (v + o) % m ≡ (v + offset s) % m =
    ap (λ w. (v + w) % m) (sym origin) ∙ (ap (λ w. w % m) swap ∙ (mod-add-mod (0 + offset s) m v ∙ ap (λ w. w % m) swapped)) in
    let wide : turned 32 (offset s) mask v ≡ (v + offset s) % m = low_digits s 32 (offset s) mask v few is in
    record {
      legal = subst (λ l. l < value_count s) (sym low) (mod_below (v + o) m (pow_pos s.bits));
      pattern_is = ap (λ l. pattern s (value_at s l)) (low ∙ (same ∙ sym wide)) ∙ level_of_pattern s v (offset s) mask some few fits refl is;
    }

-- Patterns in lanes, turned to levels.
pub record AreTurned (s : Parameters) (vs levels : List ℕ) : Type 0 where
  pub legal : All (λ l. l < value_count s) levels
  pub patterns : map (pattern s) (values_at s levels) ≡ vs

-- the sums of patterns and the level of the sample with the pattern 0 are levels
pub patterns_turned : (s : Parameters) {bits o mask : ℕ} → 1 ≤ s.bits → s.bits ≤ bits → s.bits ≤ 32 → o < value_count s → pattern s (value_at s o) ≡ 0 → mask ≡ value_count s - 1
    → (n : ℕ) (vs : List ℕ) → length vs ≡ n → All (λ v. v < value_count s) vs → AreTurned s vs (zip2 bit_and (zip2 (λ a b. (a + b) % 2 ^ bits) vs (replicate n o)) (replicate n mask))
patterns_turned s some le few lt none is zero [] len fit = record { legal = All-nil (λ l. l < value_count s); patterns = refl }
patterns_turned s some le few lt none is zero (v ∷ vs) len fit = absurd (omega (arith, len))
patterns_turned s some le few lt none is (suc n) [] len fit = absurd (omega (arith, len))
patterns_turned s {bits} {o} {mask} some le few lt none is (suc n) (v ∷ vs) len fit =
    let one = one_turned s bits o mask v some le few lt none is (fit 0 0 (omega arith)) in
    let rest = patterns_turned s some le few lt none is n vs (omega (arith, len)) (λ i d k. fit (suc i) d (omega (arith, k))) in
    record {
      legal = All-cons (λ l. l < value_count s) (turned bits o mask v) (zip2 bit_and (zip2 (λ a b. (a + b) % 2 ^ bits) vs (replicate n o)) (replicate n mask)) one.legal rest.legal;
      patterns = λ j. one.pattern_is j ∷ rest.patterns j;
    }
