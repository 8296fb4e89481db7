-- After a coded data set that is taken, decoding goes on.
use Rattle.std.proofs.Common.{◌≡◌, ℕ, zero, suc, ◌+◌, ◌-◌, ◌*◌, Bool, List, [], ◌∷◌, ◌++◌, length, take, refl, ap, arith, ◌∙◌, subst, append_assoc, length-append, Option, Some, None, ℤ}
use Rattle.rice_code.proofs.Words.{All-append, Parameters, IsLegal, IsSample, last_of, blocks_from, CodedDataSet, bits_of_set, blocks_in, blocks_in_all, block_after, padding, DecodedFrom, Ending}
use Rattle.rice_code.proofs.{Words.EndsWith, Words.cut_to, Words.AreTaken, Words.MakeBlocks, Words.take-nil, Words.common_steps, lemmas.code.RepeatedSamples.blocks_append}

take_parts : (n : ℕ) (xs ys : List ℤ) → take n xs ++ take (n - length xs) ys ≡ take n (xs ++ ys)
take_parts n [] ys = let e : n - 0 ≡ n = omega arith in ap (λ l. l ++ take (n - 0) ys) (take-nil n) ∙ ap (λ m. take m ys) e
take_parts zero (x ∷ xs) ys = let e : 0 - suc (length xs) ≡ 0 = omega arith in ap (λ m. take m ys) e
take_parts (suc n) (x ∷ xs) ys = let e : suc n - suc (length xs) ≡ n - length xs = omega arith in ap (λ m. x ∷ (take n xs ++ take m ys)) e ∙ ap (λ v. x ∷ v) (take_parts n xs ys)

-- samples of whole blocks, and those after them, each cut to those that were asked for, are all of them cut so
pub cut_parts : (s : Parameters) (asked : Option ℕ) (b n : ℕ) (xs ys : List ℤ) → length xs ≡ s.block * n → cut_to s asked b xs ++ cut_to s asked (b + n) ys ≡ cut_to s asked b (xs ++ ys)
cut_parts s None b n xs ys e = refl
cut_parts s (Some m) b n xs ys e = let f : m - s.block * (b + n) ≡ m - s.block * b - length xs = omega arith in ap (λ k. take (m - s.block * b) xs ++ take k ys) f ∙ take_parts (m - s.block * b) xs ys

-- Bits that are decoded after a wanted coded data set and its padding are decoded from this set on: its samples come first, and its bits are used too.
pub decoding_goes_on : {s : Parameters} → IsLegal s
    → {b position : ℕ} {p : ℤ} (d : CodedDataSet) (skipped : List Bool) {rest : List Bool} {asked : Option ℕ} (xs : List ℤ) {ys : List ℤ} {ending : Ending} {used : ℕ} →
    AreTaken s asked b (d ∷ []) → length skipped ≡ padding s (block_after s b d) (position + length (bits_of_set s d)) → MakeBlocks s b p d xs →
    DecodedFrom s (block_after s b d) (position + length (bits_of_set s d ++ skipped)) (last_of p xs) rest asked ys ending used →
    DecodedFrom s b position p (bits_of_set s d ++ (skipped ++ rest)) asked (cut_to s asked b xs ++ ys) ending (length (bits_of_set s d ++ skipped) + used)
decoding_goes_on {s} legal {b} {p} d skipped {rest} {asked} xs {ending} set len makes h =
    let n = length (blocks_in s b d) in
    let next = block_after s b d in
    let more = blocks_in_all s next h.sets in
    let count : length (blocks_in_all s b (d ∷ h.sets)) ≡ n + length more = length-append (blocks_in s b d) more in
    let P : ℕ → Type 0 = λ i. EndsWith s asked i h.rest ending h.last in
    let place : next + length more ≡ b + length (blocks_in_all s b (d ∷ h.sets)) = omega arith in
    let front = bits_of_set s d ++ (skipped ++ h.front) in
    let whole : bits_of_set s d ++ (skipped ++ rest) ≡ front ++ h.rest = grind (arith, common_steps, append_assoc) in
    let l1 = length-append (bits_of_set s d) (skipped ++ h.front) in
    let l2 = length-append skipped h.front in
    let l3 = length-append (bits_of_set s d) skipped in
    let l4 = length-append xs h.all in
    let l5 = h.len in
    record {
      sets = d ∷ h.sets;
      front = front;
      rest = h.rest;
      parts = whole;
      lie = (skipped, h.front, len, refl, h.lie);
      taken = (set.0, set.1, set.2, set.3, h.taken);
      all = xs ++ h.all;
      legal = All-append (IsSample s) xs h.all makes.legal h.legal;
      len = lengths s.block _ _ _ n _ _ l4 makes.len l5 count;
      blocks = ap (λ m. blocks_from s b p m (xs ++ h.all)) count ∙ (blocks_append s b p n (length more) xs h.all makes.len ∙ (λ i. makes.blocks i ++ h.blocks i));
      asked_for = ap (λ v. cut_to s asked b xs ++ v) h.asked_for ∙ cut_parts s asked b n xs h.all makes.len;
      last = h.last;
      ends = subst P place h.ends;
      bits_used = omega arith;
    }
  where
    lengths : (j all xs more n m count : ℕ) → all ≡ xs + more → xs ≡ j * n → more ≡ j * m → count ≡ n + m → all ≡ j * count
    lengths j all xs more n m count e f g h = let k = ap (λ v. j * v) h in omega arith
