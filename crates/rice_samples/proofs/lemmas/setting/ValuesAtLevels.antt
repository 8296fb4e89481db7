-- Values by their levels.
use Rattle.std.proofs.Common.{◌≡◌, ℕ, suc, ◌-◌, ◌<◌, List, [], ◌∷◌, length, All, refl, sym, ap, arith, ◌∙◌, ℤ, pos, slice_index_or}
use Rattle.std.proofs.lemmas.{List.get_or-map, List.length-map, List.Elements.All-map, Grind.common_steps}
use Rattle.rice_samples.specs.Parameters.{Parameters, IsSample, least, level, value_at, value_count, values_at}
use Rattle.rice_samples.specs.Residuals.{rank_below, ranks, ranks_below, last_number, last_of}
use Rattle.rice_samples.proofs.lemmas.setting.{ValuesAboveLeast.gap_above, ValuesAboveLeast.sample_at, LevelsOfSamples.same_level}

-- the value at a level has this level
pub level_of_value : (s : Parameters) (l : ℕ) → level s (value_at s l) ≡ l
level_of_value s l = gap_above (least s) l

-- a sample is the value at its level
pub value_of_level : (s : Parameters) (x : ℤ) → IsSample s x → value_at s (level s x) ≡ x
value_of_level s x h = same_level s (value_at s (level s x)) x (sample_at s (level s x) h.1) h (level_of_value s (level s x))

-- the values at levels below the count of values are samples
pub legal_values : (s : Parameters) (ls : List ℕ) → All (λ l. l < value_count s) ls → All (IsSample s) (values_at s ls)
legal_values s ls h = All-map (IsSample s) (value_at s) ls (λ k d lt. sample_at s (slice_index_or ls k d) (h k d lt))

-- there are as many values as levels
pub length-values : (s : Parameters) (ls : List ℕ) → length (values_at s ls) ≡ length ls
length-values s ls = length-map ls (value_at s)

-- the ranks of values are those of their levels
pub ranks_of_values : (s : Parameters) (p : ℕ) (ls : List ℕ) → ranks s (value_at s p) (values_at s ls) ≡ ranks_below (value_count s) p ls
ranks_of_values s p [] = refl
ranks_of_values s p (l ∷ ls) = λ i. rank_below (value_count s) (level_of_value s p i) (level_of_value s l i) ∷ ranks_of_values s l ls i

-- the last of some samples, where there are any, stands at the last place
pub last_at : (p d : ℤ) (xs : List ℤ) → 0 < length xs → last_of p xs ≡ slice_index_or xs (length xs - 1) d
last_at p d [] h = absurd (omega arith)
last_at p d (x ∷ []) h = refl
last_at p d (x ∷ y ∷ ys) h =
    let e : suc (length (y ∷ ys) - 1) ≡ length (x ∷ y ∷ ys) - 1 = omega arith in
    last_at x d (y ∷ ys) (omega arith) ∙ ap (λ n. slice_index_or (x ∷ y ∷ ys) n d) e

-- the last of the values is the one at the last level
pub last_value : (s : Parameters) (p : ℤ) (ls : List ℕ) → 0 < length ls → value_at s (slice_index_or ls (length ls - 1) 0) ≡ last_of p (values_at s ls)
last_value s p ls h =
    let len = length-values s ls in
    let last : slice_index_or (values_at s ls) (length (values_at s ls) - 1) (pos 0) ≡ value_at s (slice_index_or ls (length ls - 1) 0) = grind (arith, common_steps, slice_index_or, get_or-map) in
    sym (last_at p (pos 0) (values_at s ls) (omega (arith, len)) ∙ last)

-- the value at the last of some levels, or at the one before them, is the last of the values
pub value_at_last : (s : Parameters) (p : ℕ) (ls : List ℕ) → value_at s (last_number p ls) ≡ last_of (value_at s p) (values_at s ls)
value_at_last s p [] = refl
value_at_last s p (l ∷ ls) = value_at_last s l ls
