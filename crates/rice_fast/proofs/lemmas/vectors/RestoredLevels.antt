-- Levels that are restored one after the other.
use Rattle.rice_fast.proofs.Words.{◌≡◌, ℕ, ◌+◌, ◌<◌, List, [], ◌∷◌, ◌++◌, length, take, refl, ap, sym, ◌∙◌, get_or, subst, take_more, take_more_set, All-push, rank_below, ranks_below, last_number}
use Rattle.std.proofs.Common.{slice_set, All}

last_number-push : (p : ℕ) (xs : List ℕ) (x : ℕ) → last_number p (xs ++ x ∷ []) ≡ x
last_number-push p [] x = refl
last_number-push p (y ∷ xs) x = last_number-push y xs x

-- the ranks of numbers and of others after them, which go on from the last of these numbers
pub ranks_below-append : (count p : ℕ) (xs ys : List ℕ) → ranks_below count p (xs ++ ys) ≡ ranks_below count p xs ++ ranks_below count (last_number p xs) ys
ranks_below-append count p [] ys = refl
ranks_below-append count p (x ∷ xs) ys = ap (λ v. rank_below count p x ∷ v) (ranks_below-append count x xs ys)

-- with one number more of which it holds, it holds of all
one_legal : {X : Type 0} (P : X → Type 0) (i : ℕ) (xs : List X) (x : X) → i < length xs → All P (take i xs) → P x → All P (take (i + 1) (slice_set xs i x))
one_legal P i xs x h all p = subst (All P) (sym (take_more_set xs i x h)) (All-push P (take i xs) x all p)

-- The first `i` levels have the first residuals, and `reached` is the last of them.
pub record AreRestored (count before i reached : ℕ) (levels ds : List ℕ) : Type 0 where
  pub legal : All (λ l. l < count) (take i levels)
  pub ranked : ranks_below count before (take i levels) ≡ take i ds
  pub last_is : reached ≡ last_number before (take i levels)
  pub within : reached < count

-- one more by its residual
pub restored-more : {count before i reached next : ℕ} (above : ℕ) {levels ds : List ℕ} → i < length levels → i < length ds
    → AreRestored count before i reached levels ds → next < count → above ≡ count → rank_below above reached next ≡ get_or ds i 0 → AreRestored count before (i + 1) next (slice_set levels i next) ds
restored-more {count} {before} {i} {next} above {levels} {ds} h k so_far within same ranked =
    let more = take_more_set levels i next h in
    let from = sym so_far.last_is in
    let rank : rank_below count (last_number before (take i levels)) next ≡ get_or ds i 0 = (λ j. rank_below (sym same j) (from j) next) ∙ ranked in
    record {
      legal = one_legal (λ l. l < count) i levels next h so_far.legal within;
      ranked = ap (ranks_below count before) more ∙ (ranks_below-append count before (take i levels) (next ∷ []) ∙ ((λ j. so_far.ranked j ++ rank j ∷ []) ∙ sym (take_more ds i 0 k)));
      last_is = sym (ap (last_number before) more ∙ last_number-push before (take i levels) next);
      within = within;
    }
