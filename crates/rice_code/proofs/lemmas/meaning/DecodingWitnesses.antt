-- What shows that bits are decoded so: the coded data sets in them, the samples of these, and what the rest is.
use Rattle.std.proofs.Common.{◌≡◌, ℕ, ◌+◌, ◌*◌, ◌<◌, Bool, true, false, nat_lt, map, List, [], ◌∷◌, ◌++◌, length, replicate, refl, ap, subst, sym, arith, ◌∙◌, append-nil, Option, ℤ, pos}
use Rattle.rice_code.proofs.Words.{All, list_all, AllByRecursion, ints, All-from_recursion, All-replicate, Parameters, IsSample, value_count, blocks_from, CodedDataSet, bits_of_set, common_steps}
use Rattle.rice_code.proofs.Words.{BeginsUnsound, Decoded, DecodedFrom, Ending, Ended, IsWanted, EndsWith, cut_to, IsForm, RunIsSound, ResidualsAreSound, blocks_in, block_after, padding, ltb-true}
use Rattle.rice_code.proofs.lemmas.meaning.CoveredBlocks.{and-split}

-- numbers that a test finds small enough
pub all_below : (limit : ℕ) (ds : List ℕ) → list_all (λ d. nat_lt d limit) ds ≡ true → All (λ d. d < limit) ds
all_below limit ds e = grind (arith, common_steps, All-from_recursion, nat_lt, and-split, ltb-true)

-- unsigned samples
pub unsigned_samples : (s : Parameters) → s.signed ≡ false → (vs : List ℕ) → list_all (λ v. nat_lt v (value_count s)) vs ≡ true → All (IsSample s) (map pos vs)
unsigned_samples s unsigned vs e = All-from_recursion (IsSample s) (map pos vs) (each vs e)
  where
    one : (v : ℕ) → v < value_count s → IsSample s (pos v)
    one v h = rw unsigned (omega (arith, ints), omega (arith, ints))

    each : (vs : List ℕ) → list_all (λ v. nat_lt v (value_count s)) vs ≡ true → AllByRecursion (IsSample s) (map pos vs)
    each [] e = tt
    each (v ∷ vs) e = let p = and-split (nat_lt v (value_count s)) (list_all (λ v. nat_lt v (value_count s)) vs) e in (one v (ltb-true v (value_count s) p.0), each vs p.1)

-- only zeros are left
pub zeros_end : (s : Parameters) (asked : Option ℕ) (b n : ℕ) → IsWanted s asked b → EndsWith s asked b (replicate n false) Ended (length (replicate n false))
zeros_end s asked b n h = (h, All-replicate (λ bit. bit ≡ false) n false refl, refl)

-- the first coded data set is sound, and stands for these samples
pub record Gives (s : Parameters) (d : CodedDataSet) (xs : List ℤ) : Type 0 where
  pub form : IsForm s 0 d
  pub run : RunIsSound s 0 d
  pub residuals : ResidualsAreSound s d
  pub legal : All (IsSample s) xs
  pub len : length xs ≡ s.block * length (blocks_in s 0 d)
  pub blocks : blocks_from s 0 (pos 0) (length (blocks_in s 0 d)) xs ≡ blocks_in s 0 d

-- where it stands for these unsigned ones
pub gives_unsigned : {s : Parameters} {d : CodedDataSet} (vs : List ℕ) → s.signed ≡ false → IsForm s 0 d → RunIsSound s 0 d → ResidualsAreSound s d
    → list_all (λ v. nat_lt v (value_count s)) vs ≡ true → length (map pos vs) ≡ s.block * length (blocks_in s 0 d)
    → blocks_from s 0 (pos 0) (length (blocks_in s 0 d)) (map pos vs) ≡ blocks_in s 0 d → Gives s d (map pos vs)
gives_unsigned {s} vs unsigned form run residuals fit len blocks = record { form = form; run = run; residuals = residuals; legal = unsigned_samples s unsigned vs fit; len = len; blocks = blocks }

-- bits that begin with a coded data set that is not sound
pub begins_unsound : {s : Parameters} {b : ℕ} {P : CodedDataSet → Type 0} (d : CodedDataSet) (more : List Bool) → IsForm s b d → (P d → ⊥)
    → BeginsUnsound s b (bits_of_set s d ++ more) (length (bits_of_set s d)) P
begins_unsound d more form unsound = record { refused = d; more = more; form = form; unsound = unsound; begins = refl; bits = refl }

-- one coded data set with its padding, and the rest
pub decoded_by_one : {s : Parameters} {d : CodedDataSet} {xs : List ℤ} → Gives s d xs → (skipped rest : List Bool) {bits : List Bool}
    → length skipped ≡ padding s (block_after s 0 d) (0 + length (bits_of_set s d)) →
    bits ≡ (bits_of_set s d ++ skipped) ++ rest → {asked : Option ℕ} → IsWanted s asked 0 → {ending : Ending} (last : ℕ) → EndsWith s asked (length (blocks_in s 0 d)) rest ending last →
    Decoded s bits asked (cut_to s asked 0 xs) ending (length (bits_of_set s d ++ skipped) + last)
decoded_by_one {s} {d} {xs} g skipped rest padded e {asked} goes {ending} last ends =
    let blocks = append-nil (blocks_in s 0 d) in
    let same = ap length blocks in
    let place : length (blocks_in s 0 d) ≡ 0 + length (blocks_in s 0 d ++ []) = omega arith in
    let EndsAt : ℕ → Type 0 = λ b. EndsWith s asked b rest ending last in
    record {
      sets = d ∷ [];
      front = bits_of_set s d ++ skipped;
      rest = rest;
      parts = e;
      lie = (skipped, [], padded, ap (λ v. bits_of_set s d ++ v) (sym (append-nil skipped)), refl);
      taken = (goes, g.form, g.run, g.residuals, tt);
      all = xs;
      legal = g.legal;
      len = g.len ∙ ap (λ n. s.block * n) (sym same);
      blocks = (λ i. blocks_from s 0 (pos 0) (same i) xs) ∙ (g.blocks ∙ sym blocks);
      asked_for = refl;
      last = last;
      ends = subst EndsAt place ends;
      bits_used = refl;
    }

-- no coded data set is taken
pub decoded_from_none : (s : Parameters) (b position : ℕ) (p : ℤ) (bits : List Bool) (asked : Option ℕ) (ending : Ending) (used : ℕ) → EndsWith s asked b bits ending used →
    DecodedFrom s b position p bits asked (cut_to s asked b []) ending used
decoded_from_none s b position p bits asked ending used ends =
    let EndsAt : ℕ → Type 0 = λ n. EndsWith s asked n bits ending used in
    let here : b ≡ b + 0 = omega arith in
    record {
      sets = [];
      front = [];
      rest = bits;
      parts = refl;
      lie = refl;
      taken = tt;
      all = [];
      legal = All-from_recursion (IsSample s) [] tt;
      len = omega arith;
      blocks = refl;
      asked_for = refl;
      last = used;
      ends = subst EndsAt here ends;
      bits_used = omega arith;
    }

-- the same of all bits, where decoding ends before the first block
pub decoded_by_none : (s : Parameters) (bits : List Bool) (asked : Option ℕ) (ending : Ending) (used : ℕ) → EndsWith s asked 0 bits ending used → Decoded s bits asked (cut_to s asked 0 []) ending used
decoded_by_none s bits asked ending used ends = decoded_from_none s 0 0 (pos 0) bits asked ending used ends
