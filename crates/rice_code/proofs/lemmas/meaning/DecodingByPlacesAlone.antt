-- Where no number is asked for, decoding depends on the place in the interval and the place in the byte alone.
use Rattle.std.proofs.Common.{◌≡◌, ℕ, ◌+◌, ◌*◌, ◌%◌, ◌≤◌, ◌==◌, Bool, cond, ◌&&◌, List, [], ◌∷◌, ◌++◌, length, refl, ap, arith, sym, ◌∙◌, subst, Option, None, ℤ}
use Rattle.rice_code.proofs.Words.{IsSomeAnd, bits_to_byte, Parameters, IsLegal, place, blocks_left, blocks_from, CodedDataSet, NoCompression, SecondExtension, Split, ZeroBlocks, RemainderOfSegment}
use Rattle.rice_code.proofs.Words.{bits_of_set, IsForm, IsReference, RunIsSound, blocks_in, blocks_in_all, block_after, Lies, DecodedFrom, Ending, Reached, Ended, CutOff, Past, Large, AreTaken}
use Rattle.rice_code.proofs.lemmas.code.BlocksByPlaceAlone.{place_on, same_reference, same_left, same_blocks_in, same_blocks}
use Rattle.rice_code.proofs.{Words.EndsWith, Words.IsWanted, Words.common_steps, lemmas.code.Layouts.lies_at}

-- after the same coded data set two blocks at the same place in their intervals are followed by such blocks
pub next_place : (s : Parameters) (b c : ℕ) (d : CodedDataSet) → place s b ≡ place s c → place s (block_after s b d) ≡ place s (block_after s c d)
next_place s b c d e = place_on s b c (length (blocks_in s b d)) e ∙ ap (λ v. place s (c + length v)) (same_blocks_in s b c d e)

-- from such blocks on coded data sets stand for the same blocks,
pub same_all_blocks : (s : Parameters) (b c : ℕ) (ds : List CodedDataSet) → place s b ≡ place s c → blocks_in_all s b ds ≡ blocks_in_all s c ds
same_all_blocks s b c [] e = refl
same_all_blocks s b c (d ∷ ds) e = grind (arith, common_steps, same_blocks_in, next_place, same_all_blocks s (block_after s b d) (block_after s c d) ds (next_place s b c d e))

-- and lie in the same bits
pub same_lie : (s : Parameters) (b c m : ℕ) (ds : List CodedDataSet) (bits : List Bool) → place s b ≡ place s c → Lies s b m ds bits → Lies s c m ds bits
same_lie s b c m [] bits e h = h
same_lie s b c m (d ∷ ds) bits e h =
    let pads = ap (λ v. cond (s.pad && v == 0) (bits_to_byte (m + length (bits_of_set s d))) 0) (next_place s b c d e) in
    (h.0, h.1, h.2 ∙ pads, h.3, same_lie s (block_after s b d) (block_after s c d) (m + length (bits_of_set s d ++ h.0)) ds h.1 (next_place s b c d e) h.4)

reference_there : (s : Parameters) (b c : ℕ) (r : Option ℕ) → place s b ≡ place s c → IsReference s b r → IsReference s c r
reference_there s b c r e h = record { there = h.there ∙ same_reference s b c e; fits = h.fits }

-- a coded data set that has a lawful form at one of them has it at the other too,
pub form_there : (s : Parameters) (b c : ℕ) (d : CodedDataSet) → place s b ≡ place s c → IsForm s b d → IsForm s c d
form_there s b c (NoCompression v) e h = (record { reference = reference_there s b c v.reference e h.0.reference; len = h.0.len }, h.1, h.2)
form_there s b c (SecondExtension v) e h = record { reference = reference_there s b c v.reference e h.reference; len = h.len }
form_there s b c (Split k v) e h = (record { reference = reference_there s b c v.reference e h.0.reference; len = h.0.len }, h.1, h.2)
form_there s b c (ZeroBlocks r z) e h = (reference_there s b c r e h.0, h.1)
form_there s b c (RemainderOfSegment r) e h = reference_there s b c r e h

-- and if its run is sound at the one, it is sound at the other
pub run_there : (s : Parameters) (b c : ℕ) (d : CodedDataSet) → place s b ≡ place s c → RunIsSound s b d → RunIsSound s c d
run_there s b c (NoCompression v) e h = tt
run_there s b c (SecondExtension v) e h = tt
run_there s b c (Split k v) e h = tt
run_there s b c (ZeroBlocks r z) e h = let l = same_left s b c e in let inside : z ≤ blocks_left s b = h.0 in (omega arith, h.1)
run_there s b c (RemainderOfSegment r) e h = tt

-- what is wanted at one block by one count is wanted at another by another
pub taken_there : (s : Parameters) (asked there : Option ℕ) (b c : ℕ) (ds : List CodedDataSet) → place s b ≡ place s c
    → ((i : ℕ) → IsWanted s asked (b + i) → IsWanted s there (c + i)) → AreTaken s asked b ds → AreTaken s there c ds
taken_there s asked there b c [] e w h = tt
taken_there s asked there b c (d ∷ ds) e w h =
    let n = length (blocks_in s b d) in
    let same : n ≡ length (blocks_in s c d) = ap length (same_blocks_in s b c d e) in
    let from : b ≡ b + 0 = omega arith in
    let to : c + 0 ≡ c = omega arith in (
      subst (λ (i : ℕ). IsWanted s there i) to (w 0 (subst (λ (i : ℕ). IsWanted s asked i) from h.0)),
      form_there s b c d e h.1,
      run_there s b c d e h.2,
      h.3,
      taken_there s asked there (block_after s b d) (block_after s c d) ds (next_place s b c d e)
          (λ i k. let f : b + n + i ≡ b + (n + i) = omega arith in let g : c + (n + i) ≡ c + length (blocks_in s c d) + i = omega (arith, same) in
          subst (λ (i : ℕ). IsWanted s there i) g (w (n + i) (subst (λ (i : ℕ). IsWanted s asked i) f k)))
          h.4,
    )

-- two blocks at one place of their intervals, and what is asked for at one is asked for at the other
pub record WantedThere (s : Parameters) (asked there : Option ℕ) (b c : ℕ) : Type 0 where
  pub place_is : place s b ≡ place s c
  pub wanted : (IsWanted s asked b → IsWanted s there c)
  pub reached : (IsSomeAnd asked (λ n. n ≤ s.block * b) → IsSomeAnd there (λ n. n ≤ s.block * c))

-- and what ends decoding at one ends it at the other
pub ends_there : {s : Parameters} (asked there : Option ℕ) (b c : ℕ) (rest : List Bool) (ending : Ending) (used : ℕ) → WantedThere s asked there b c → EndsWith s asked b rest ending used
    → EndsWith s there c rest ending used
ends_there asked there b c rest Reached used alike h = (alike.reached h.0, h.1)
ends_there asked there b c rest Ended used alike h = (alike.wanted h.0, h.1, h.2)
ends_there {s} asked there b c rest CutOff used alike h = (alike.wanted h.0, h.1, (λ d more f g. h.2 d more (form_there s c b d (sym alike.place_is) f) g), h.3)
ends_there {s} asked there b c rest Past used alike h = grind (arith, common_steps, form_there, run_there)
ends_there {s} asked there b c rest Large used alike h = grind (arith, common_steps, form_there)

-- where no number is asked for, bits that end decoding at one of them in some way do so at the other
pub end_there : (s : Parameters) (b c : ℕ) (rest : List Bool) (ending : Ending) (used : ℕ) → place s b ≡ place s c → EndsWith s None b rest ending used → EndsWith s None c rest ending used
end_there s b c rest ending used e h = ends_there None None b c rest ending used (record { place_is = e; wanted = λ k. k; reached = λ k. absurd k }) h

-- So does all decoding from one of them on, also after other bits, if as many of these are in the last byte.
pub decoding_stands : {s : Parameters} → IsLegal s → {b c m n : ℕ} (p : ℤ) (bits : List Bool) (xs : List ℤ) (ending : Ending) (used : ℕ) → place s b ≡ place s c → m % 8 ≡ n % 8 →
    DecodedFrom s b m p bits None xs ending used → DecodedFrom s c n p bits None xs ending used
decoding_stands {s} legal {b} {c} {m} {n} p bits xs ending used e f h =
    let j : 1 ≤ s.block = grind (arith, legal.block) in
    let blocks = same_all_blocks s b c h.sets e in
    let count = ap length blocks in
    let size = length (blocks_in_all s b h.sets) in
    let P : ℕ → Type 0 = λ k. EndsWith s None (c + k) h.rest ending h.last in
    record {
      sets = h.sets;
      front = h.front;
      rest = h.rest;
      parts = h.parts;
      lie = lies_at s c m n h.sets h.front f (same_lie s b c m h.sets h.front e h.lie);
      taken = taken_there s None None b c h.sets e (λ i k. k) h.taken;
      all = h.all;
      legal = h.legal;
      len = h.len ∙ ap (λ k. s.block * k) count;
      blocks = ap (λ k. blocks_from s c p k h.all) (sym count) ∙ (sym (same_blocks s b c p size h.all j e) ∙ (h.blocks ∙ blocks));
      asked_for = h.asked_for;
      last = h.last;
      ends = subst P count (end_there s (b + size) (c + size) h.rest ending h.last (place_on s b c size e) h.ends);
      bits_used = h.bits_used;
    }
