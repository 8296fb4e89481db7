-- What a coder holds when it takes several samples.
use Rattle.std.proofs.Common.{◌≡◌, suc, ◌+◌, true, false, cond, ◌&&◌, List, [], ◌∷◌, ◌++◌, length, map, refl, ap, arith, sym, ◌∙◌, append_assoc, append-nil, length-append, Some, ℤ}
use Rattle.rice_code.specs.encode.OpenSegment.{CoderState, is_first, next_residuals, later_residuals, state_after, state_after_all}
use Rattle.rice_code.proofs.{Words.and-false, Words.Parameters, Words.last_of, Words.pattern, Words.rank, Words.ranks, Words.common_steps, lemmas.code.RepeatedSamples.same_rank}

-- what a coder holds after samples of which the one before the first is p, and none is a reference
abbrev pub state_with_later : CoderState → ℤ → List ℤ → CoderState
state_with_later coder p xs = record coder { residuals = coder.residuals ++ later_residuals coder.setting p xs; previous = last_of p xs }

-- samples after others, with preprocessing and without
pub later_ranks : (s : Parameters) (p : ℤ) (xs : List ℤ) → s.preprocess ≡ true → later_residuals s p xs ≡ ranks s p xs
later_ranks s p [] e = refl
later_ranks s p (x ∷ xs) e = let rest = later_ranks s x xs e in λ i. cond (e i) (rank s p x) (pattern s x) ∷ rest i

-- without preprocessing their residuals are their patterns
pub later_patterns : (s : Parameters) (p : ℤ) (xs : List ℤ) → s.preprocess ≡ false → later_residuals s p xs ≡ map (pattern s) xs
later_patterns s p [] e = refl
later_patterns s p (x ∷ xs) e = let rest = later_patterns s x xs e in λ i. cond (e i) (rank s p x) (pattern s x) ∷ rest i

-- they have as many residuals as they are
pub length-later : (s : Parameters) (p : ℤ) (xs : List ℤ) → length (later_residuals s p xs) ≡ length xs
length-later s p [] = refl
length-later s p (x ∷ xs) = ap (λ n. suc n) (length-later s x xs)

length-next : (coder : CoderState) (xs : List ℤ) → length (next_residuals coder xs) ≡ length xs
length-next coder [] = refl
length-next coder (x ∷ xs) = ap (λ n. suc n) (length-later coder.setting x xs)

-- a coder that takes several samples holds as many residuals more
pub length-state_after_all : (coder : CoderState) (xs : List ℤ) → length (state_after_all coder xs).residuals ≡ length coder.residuals + length xs
length-state_after_all coder xs = length-append coder.residuals (next_residuals coder xs) ∙ ap (λ n. length coder.residuals + n) (length-next coder xs)

-- no sample,
pub state_after_all-none : (coder : CoderState) (xs : List ℤ) → length xs ≡ 0 → state_after_all coder xs ≡ coder
state_after_all-none coder [] e = λ i. record { setting = coder.setting; residuals = append-nil coder.residuals i; reference = coder.reference; previous = coder.previous; start = coder.start }
state_after_all-none coder (x ∷ xs) e = absurd (omega arith)

-- after any sample the next is no reference sample
pub not_first : (coder : CoderState) (x : ℤ) → (coder.setting.preprocess && is_first (state_after coder x)) ≡ false
not_first coder x = grind (arith, common_steps, and-false)

-- one first,
pub state_after_all-cons : (coder : CoderState) (x : ℤ) (xs : List ℤ) → state_after_all (state_after coder x) xs ≡ state_after_all coder (x ∷ xs)
state_after_all-cons coder x xs = grind (arith, common_steps, append_assoc, not_first)

-- and one last
pub state_after_all-snoc : (coder : CoderState) (xs : List ℤ) (x : ℤ) → state_after_all coder (xs ++ x ∷ []) ≡ state_after (state_after_all coder xs) x
state_after_all-snoc coder [] x = sym (ap (λ v. state_after v x) (state_after_all-none coder [] refl))
state_after_all-snoc coder (y ∷ ys) x = sym (state_after_all-cons coder y (ys ++ x ∷ []))
    ∙ (state_after_all-snoc (state_after coder y) ys x ∙ ap (λ v. state_after v x) (state_after_all-cons coder y ys))

-- After a reference the samples are held as after that sample itself.
pub state_after_all-first : (coder : CoderState) (x : ℤ) (xs : List ℤ) → (coder.setting.preprocess && is_first coder) ≡ true → state_with_later (record {
  setting = coder.setting;
  residuals = coder.residuals;
  reference = Some (pattern coder.setting x);
  previous = coder.previous;
  start = coder.start;
}) x (x ∷ xs) ≡ state_after_all coder (x ∷ xs)
state_after_all-first coder x xs e = grind (arith, common_steps, same_rank)
