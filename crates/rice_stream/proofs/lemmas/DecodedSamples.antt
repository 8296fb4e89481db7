-- What the bits so far decode to, whatever follows them.
use Rattle.rice_stream.proofs.Words.{◌≡◌, ℕ, suc, ◌+◌, ◌-◌, ◌*◌, ◌<◌, ◌≤◌, Bool, List, [], ◌∷◌, ◌++◌, length, take, replicate, refl, ap, arith, sym, ◌∙◌, subst, append_assoc, append-nil}
use Rattle.rice_stream.proofs.Words.{length-append, Option, Some, None, ℤ, pos, recursion_from_All, All-from_recursion, All-append, mul-le-mul_left, take-length, length-replicate, take-append-le}
use Rattle.rice_stream.proofs.Words.{take_all, Parameters, IsLegal, IsSample, last_of, zero_is_sample, BlockData, block_data, zero_block, blocks_from, CodedDataSet, bits_of_set, Decoded, DecodedFrom}
use Rattle.rice_stream.proofs.Words.{Ending, Reached, EndsWith, IsWanted, cut_to, GivesBlock, IsForm, RunIsSound, ResidualsAreSound, blocks_in, AreSoundBlocks, block_after, padding, decoding_goes_on}
use Rattle.rice_stream.proofs.Words.{last_append, blocks_append, take-nil, last_legal, blocks_have_samples, blocks_are_sound, DecodedSoFar, AreOfRun, cut_parts}

-- no samples, cut to those that are wanted, are none
pub cut_nothing : (s : Parameters) (wanted : Option ℕ) (b : ℕ) → cut_to s wanted b [] ≡ []
cut_nothing s None b = refl
cut_nothing s (Some n) b = take-nil (n - s.block * b)

-- the samples wanted of some blocks and of one more
pub cut_more : (s : Parameters) (wanted : Option ℕ) (b : ℕ) (all xs : List ℤ) → length all ≡ s.block * b → cut_to s wanted 0 (all ++ xs) ≡ cut_to s wanted 0 all ++ cut_to s wanted b xs
cut_more s wanted b all xs e = let here : 0 + b ≡ b = omega arith in sym (cut_parts s wanted 0 b all xs e) ∙ ap (λ m. cut_to s wanted 0 all ++ cut_to s wanted m xs) here

-- where another block is wanted, none of the samples before it is cut off
pub cut_none : (s : Parameters) (wanted : Option ℕ) (b : ℕ) (all : List ℤ) → length all ≡ s.block * b → IsWanted s wanted b → cut_to s wanted 0 all ≡ all
cut_none s None b all e h = refl
cut_none s (Some n) b all e h = let lt : s.block * b < n = h in take_all (n - s.block * 0) all (omega arith)

-- no samples
no_samples : (more : List ℤ) (n : ℕ) → length more ≡ n → n ≡ 0 → more ≡ []
no_samples [] n e h = refl
no_samples (x ∷ more) n e h = absurd (omega arith)

-- no bits are no blocks
pub decoded_nothing : (s : Parameters) → DecodedSoFar s [] 0 0 0 []
decoded_nothing s = record {
  len = omega arith;
  legal = λ k d lt. absurd (omega arith);
  sound = tt;
  goes_on = λ (wanted : Option ℕ) (more : List ℤ) (rest : List Bool) (ys : List ℤ) (ending : Ending) (used : ℕ) follows. at wanted more rest ys ending used
      (no_samples more (s.block * 0) follows.of_run.len (omega arith)) follows.next;
}
  where
    at : (wanted : Option ℕ) (more : List ℤ) (rest : List Bool) (ys : List ℤ) (ending : Ending) (used : ℕ) → more ≡ [] → DecodedFrom s (0 + 0) 0 (last_of (pos 0) more) rest wanted ys ending used →
        Decoded s rest wanted (cut_to s wanted 0 more ++ ys) ending (0 + used)
    at wanted (x ∷ more) rest ys ending used none d = absurd (let n = ap length none in omega arith)
    at wanted [] rest ys ending used none d =
        let n : used ≡ 0 + used = omega arith in
        let b : 0 + 0 ≡ 0 = omega arith in
        let e : ys ≡ cut_to s wanted 0 [] ++ ys = ap (λ l. l ++ ys) (sym (cut_nothing s wanted 0)) in
        subst (λ (m : ℕ). Decoded s rest wanted (cut_to s wanted 0 [] ++ ys) ending m) n
        (subst (λ (l : List ℤ). Decoded s rest wanted l ending used) e (subst (λ (b : ℕ). DecodedFrom s b 0 (pos 0) rest wanted ys ending used) b d))

-- the blocks of some samples and of a run after them
run_blocks : (s : Parameters) (b run : ℕ) (p : ℤ) (xs more : List ℤ) (cs : List BlockData) → GivesBlock s b p xs run cs
    → AreOfRun s (b + 1) (last_of p xs) run more → (length cs ≡ 1 + run) × (length (xs ++ more) ≡ s.block * length cs) × (blocks_from s b p (length cs) (xs ++ more) ≡ cs)
run_blocks s b run p xs more cs gives of_run =
    let n : length cs ≡ 1 + run = omega (arith, ap length gives.blocks_are, length-replicate run (zero_block s None)) in
    let one : length xs ≡ s.block * 1 = omega (arith, gives.len) in
    let whole : take s.block xs ≡ xs = ap (λ n. take n xs) (sym gives.len) ∙ take-length xs in
    let next = of_run.blocks in (
      n,
      length-append xs more ∙ sizes s.block run (length xs) (length more) gives.len of_run.len ∙ ap (λ m. s.block * m) (sym n),
      ap (λ m. blocks_from s b p m (xs ++ more)) n ∙ blocks_append s b p 1 run xs more one ∙ (λ i. (block_data s b p (whole i) ∷ []) ++ next i) ∙ gives.blocks_are,
    )
  where
    sizes : (j run n m : ℕ) → n ≡ j → m ≡ j * run → n + m ≡ j * (1 + run)
    sizes j run n m e f = omega arith

-- the last sample after three parts
last_both : (p : ℤ) (all xs more : List ℤ) → last_of p ((all ++ xs) ++ more) ≡ last_of (last_of p all) (xs ++ more)
last_both p all xs more = ap (last_of p) (append_assoc all xs more) ∙ last_append p all (xs ++ more)

-- a sound data set of a block
pub record SoundSet (s : Parameters) (b : ℕ) (d : CodedDataSet) : Type 0 where
  pub form : IsForm s b d
  pub run : RunIsSound s b d
  pub residuals : ResidualsAreSound s d

-- a coded data set was taken, and its first block given
pub decoded_with_set : {s : Parameters} {front : List Bool} (skipped : List Bool) {begun b run : ℕ} {all xs : List ℤ} (d : CodedDataSet) → IsLegal s
    → DecodedSoFar s front begun b 0 all → begun ≤ b → SoundSet s b d →
    length skipped ≡ padding s (block_after s b d) (length front + length (bits_of_set s d)) → GivesBlock s b (last_of (pos 0) all) xs run (blocks_in s b d)
    → DecodedSoFar s (front ++ (bits_of_set s d ++ skipped)) (b + 1) (b + 1) run (all ++ xs)
decoded_with_set {s} {front} skipped {b} {run} {all} {xs} d legal after before sound skips gives =
    let more_one : s.block * b + s.block ≡ s.block * (b + 1) = omega arith in
    let all_sound = subst (AreSoundBlocks s b) (sym gives.blocks_are) (blocks_are_sound s b d legal (sound.form, sound.run, sound.residuals)) in
    record {
      len = length-append all xs ∙ (λ i. after.len i + gives.len i) ∙ more_one;
      legal = All-append (IsSample s) all xs after.legal gives.legal;
      sound = all_sound.1;
      goes_on = λ (wanted : Option ℕ) (more : List ℤ) (rest : List Bool) (ys : List ℤ) (ending : Ending) (used : ℕ) follows.
          on wanted more rest ys ending used follows.begun_wanted (subst (λ (q : ℤ). AreOfRun s (b + 1) q run more) (last_append (pos 0) all xs) follows.of_run) follows.next;
    }
  where
    t : List Bool
    t = bits_of_set s d

    set : List Bool
    set = t ++ skipped

    on : (wanted : Option ℕ) (more : List ℤ) (rest : List Bool) (ys : List ℤ) (ending : Ending) (used : ℕ) → ((i : ℕ) → i < b + 1 → IsWanted s wanted i)
        → AreOfRun s (b + 1) (last_of (last_of (pos 0) all) xs) run more →
        DecodedFrom s (b + 1 + run) (length (front ++ set)) (last_of (pos 0) ((all ++ xs) ++ more)) rest wanted ys ending used
        → Decoded s ((front ++ set) ++ rest) wanted (cut_to s wanted 0 ((all ++ xs) ++ more) ++ ys) ending (length (front ++ set) + used)
    on wanted more rest ys ending used goes run_of next =
        let p = last_of (pos 0) all in
        let zs = xs ++ more in
        let made = run_blocks s b run p xs more (blocks_in s b d) gives run_of in
        let place : b + 1 + run ≡ block_after s b d = omega (arith, made.0) in
        let position : length (front ++ set) ≡ length front + length set = length-append front set in
        let there : DecodedFrom s (block_after s b d) (length front + length set) (last_of p zs) rest wanted ys ending used =
        subst (λ (n : ℕ). DecodedFrom s n (length front + length set) (last_of p zs) rest wanted ys ending used) place
        (subst (λ (n : ℕ). DecodedFrom s (b + 1 + run) n (last_of p zs) rest wanted ys ending used) position
        (subst (λ (x : ℤ). DecodedFrom s (b + 1 + run) (length (front ++ set)) x rest wanted ys ending used) (last_both (pos 0) all xs more) next)) in
        let here = decoding_goes_on legal d skipped zs
        (goes b (omega arith), sound.form, sound.run, sound.residuals, tt) skips
        (record { legal = All-append (IsSample s) xs more gives.legal run_of.legal; len = made.1; blocks = made.2 }) there in
        let none : AreOfRun s b p 0 [] = record { len = omega arith; legal = λ k d lt. absurd (omega arith); blocks = refl } in
        let again = append-nil all in
        let at : b ≡ b + 0 = omega arith in
        let back : DecodedFrom s (b + 0) (length front) (last_of (pos 0) (all ++ [])) (t ++ (skipped ++ rest)) wanted (cut_to s wanted b zs ++ ys) ending (length set + used) =
        subst (λ (l : List ℤ). DecodedFrom s (b + 0) (length front) (last_of (pos 0) l) (t ++ (skipped ++ rest)) wanted (cut_to s wanted b zs ++ ys) ending (length set + used)) (sym again)
        (subst (λ (n : ℕ). DecodedFrom s n (length front) p (t ++ (skipped ++ rest)) wanted (cut_to s wanted b zs ++ ys) ending (length set + used)) at here) in
        let all_of = after.goes_on wanted [] (t ++ (skipped ++ rest)) (cut_to s wanted b zs ++ ys) ending (length set + used)
        (record { begun_wanted = λ i lt. goes i (omega arith); of_run = none; next = back }) in
        let samples : cut_to s wanted 0 (all ++ []) ++ (cut_to s wanted b zs ++ ys) ≡ cut_to s wanted 0 ((all ++ xs) ++ more) ++ ys =
        ap (λ l. cut_to s wanted 0 l ++ (cut_to s wanted b zs ++ ys)) again ∙ sym (append_assoc (cut_to s wanted 0 all) (cut_to s wanted b zs) ys)
        ∙ ap (λ l. l ++ ys) (sym (cut_more s wanted b all zs after.len) ∙ ap (cut_to s wanted 0) (sym (append_assoc all xs more))) in
        let count : length front + (length set + used) ≡ length (front ++ set) + used = (let n = position in omega arith) in
        let bits : front ++ (t ++ (skipped ++ rest)) ≡ (front ++ set) ++ rest = ap (λ l. front ++ l) (sym (append_assoc t skipped rest)) ∙ sym (append_assoc front set rest) in
        subst (λ (l : List Bool). Decoded s l wanted (cut_to s wanted 0 ((all ++ xs) ++ more) ++ ys) ending (length (front ++ set) + used)) bits
        (subst (λ (l : List ℤ). Decoded s (front ++ (t ++ (skipped ++ rest))) wanted l ending (length (front ++ set) + used)) samples
        (subst (λ (n : ℕ). Decoded s (front ++ (t ++ (skipped ++ rest))) wanted (cut_to s wanted 0 (all ++ []) ++ (cut_to s wanted b zs ++ ys)) ending n) count all_of))

-- a block of a run was given
pub decoded_with_run_block : {s : Parameters} {front : List Bool} {begun b run left : ℕ} {all xs : List ℤ} → DecodedSoFar s front begun b run all
    → GivesBlock s b (last_of (pos 0) all) xs left (replicate run (zero_block s None)) → DecodedSoFar s front begun (b + 1) left (all ++ xs)
decoded_with_run_block {s} {front} {begun} {b} {run} {left} {all} {xs} after gives =
    let more_one : s.block * b + s.block ≡ s.block * (b + 1) = omega arith in
    let some : run ≡ suc left = count in
    let all_sound = subst (λ (n : ℕ). AreSoundBlocks s b (replicate n (zero_block s None))) some after.sound in
    record {
      len = length-append all xs ∙ (λ i. after.len i + gives.len i) ∙ more_one;
      legal = All-append (IsSample s) all xs after.legal gives.legal;
      sound = all_sound.1;
      goes_on = λ (wanted : Option ℕ) (more : List ℤ) (rest : List Bool) (ys : List ℤ) (ending : Ending) (used : ℕ) follows.
          on wanted more rest ys ending used follows.begun_wanted (subst (λ (q : ℤ). AreOfRun s (b + 1) q left more) (last_append (pos 0) all xs) follows.of_run) follows.next;
    }
  where
    zero_blocks : List BlockData
    zero_blocks = replicate run (zero_block s None)

    count : run ≡ suc left
    count = sym (length-replicate run (zero_block s None)) ∙ ap length (sym gives.blocks_are) ∙ ap suc (length-replicate left (zero_block s None))

    on : (wanted : Option ℕ) (more : List ℤ) (rest : List Bool) (ys : List ℤ) (ending : Ending) (used : ℕ) → ((i : ℕ) → i < begun → IsWanted s wanted i)
        → AreOfRun s (b + 1) (last_of (last_of (pos 0) all) xs) left more →
        DecodedFrom s (b + 1 + left) (length front) (last_of (pos 0) ((all ++ xs) ++ more)) rest wanted ys ending used
        → Decoded s (front ++ rest) wanted (cut_to s wanted 0 ((all ++ xs) ++ more) ++ ys) ending (length front + used)
    on wanted more rest ys ending used goes run_of next =
        let p = last_of (pos 0) all in
        let zs = xs ++ more in
        let made = run_blocks s b left p xs more zero_blocks gives run_of in
        let n : length zero_blocks ≡ run = length-replicate run (zero_block s None) in
        let of_run : AreOfRun s b p run zs = record {
          len = made.1 ∙ ap (λ m. s.block * m) n;
          legal = All-append (IsSample s) xs more gives.legal run_of.legal;
          blocks = ap (λ m. blocks_from s b p m zs) (sym n) ∙ made.2;
        } in
        let place : b + 1 + left ≡ b + run = omega (arith, count) in
        let both = append_assoc all xs more in
        let there : DecodedFrom s (b + run) (length front) (last_of (pos 0) (all ++ zs)) rest wanted ys ending used =
        subst (λ (m : ℕ). DecodedFrom s m (length front) (last_of (pos 0) (all ++ zs)) rest wanted ys ending used) place
        (subst (λ (l : List ℤ). DecodedFrom s (b + 1 + left) (length front) (last_of (pos 0) l) rest wanted ys ending used) both next) in
        subst (λ (l : List ℤ). Decoded s (front ++ rest) wanted (cut_to s wanted 0 l ++ ys) ending (length front + used)) (sym both)
        (after.goes_on wanted zs rest ys ending used (record { begun_wanted = goes; of_run = of_run; next = there }))

-- what the bits end with is all
pub at_end : (s : Parameters) (b position : ℕ) (p : ℤ) (rest : List Bool) (wanted : Option ℕ) (ending : Ending) (used : ℕ)
    → EndsWith s wanted b rest ending used → DecodedFrom s b position p rest wanted [] ending used
at_end s b position p rest wanted ending used ends =
    let none : b ≡ b + 0 = omega arith in
    record {
      sets = [];
      front = [];
      rest = rest;
      parts = refl;
      lie = refl;
      taken = tt;
      all = [];
      legal = λ k d lt. absurd (omega arith);
      len = omega arith;
      blocks = refl;
      asked_for = sym (cut_nothing s wanted b);
      last = used;
      ends = subst (λ (n : ℕ). EndsWith s wanted n rest ending used) none ends;
      bits_used = omega arith;
    }

-- decoding ends after the blocks of the run
ends_after_run : {s : Parameters} {front : List Bool} (rest : List Bool) {begun b run : ℕ} {all more : List ℤ} (wanted : Option ℕ) (ending : Ending) (used : ℕ)
    → DecodedSoFar s front begun b run all → ((i : ℕ) → i < begun → IsWanted s wanted i) → AreOfRun s b (last_of (pos 0) all) run more →
    EndsWith s wanted (b + run) rest ending used → Decoded s (front ++ rest) wanted (cut_to s wanted 0 (all ++ more)) ending (length front + used)
ends_after_run {s} {front} rest {b} {run} {all} {more} wanted ending used after goes of_run ends =
    subst (λ (l : List ℤ). Decoded s (front ++ rest) wanted l ending (length front + used)) (append-nil (cut_to s wanted 0 (all ++ more)))
    (after.goes_on wanted more rest [] ending used (record {
      begun_wanted = goes;
      of_run = of_run;
      next = at_end s (b + run) (length front) (last_of (pos 0) (all ++ more)) rest wanted ending used ends;
    }))

-- it ends where no run goes on
pub ends_here : {s : Parameters} {front : List Bool} (rest : List Bool) {begun b : ℕ} {all : List ℤ} (wanted : Option ℕ) (ending : Ending) (used : ℕ)
    → DecodedSoFar s front begun b 0 all → ((i : ℕ) → i < begun → IsWanted s wanted i) → EndsWith s wanted b rest ending used →
    Decoded s (front ++ rest) wanted (cut_to s wanted 0 all) ending (length front + used)
ends_here {s} {front} rest {begun} {b} {all} wanted ending used after goes ends =
    let none : AreOfRun s b (last_of (pos 0) all) 0 [] = record { len = omega arith; legal = λ k d lt. absurd (omega arith); blocks = refl } in
    let at : b ≡ b + 0 = omega arith in
    subst (λ (l : List ℤ). Decoded s (front ++ rest) wanted (cut_to s wanted 0 l) ending (length front + used)) (append-nil all)
    (ends_after_run rest wanted ending used after goes none (subst (λ (n : ℕ). EndsWith s wanted n rest ending used) at ends))

-- it ends with the samples that were asked for, all of which were given
pub ends_reached : {s : Parameters} {front : List Bool} (rest : List Bool) {begun b run : ℕ} {all : List ℤ} (n : ℕ) → IsLegal s → DecodedSoFar s front begun b run all
    → ((i : ℕ) → i < begun → IsWanted s (Some n) i) → n ≤ s.block * b →
    Decoded s (front ++ rest) (Some n) (cut_to s (Some n) 0 all) Reached (length front + 0)
ends_reached {s} {front} rest {begun} {b} {run} {all} n legal after goes enough =
    let j : 1 ≤ s.block = let k : 2 ≤ s.block = grind (arith, legal.block) in omega arith in
    let p = last_of (pos 0) all in
    let hp = last_legal s (pos 0) all (zero_is_sample s legal.bits_from) (recursion_from_All (IsSample s) all after.legal) in
    let made = blocks_have_samples s b p (replicate run (zero_block s None)) legal j hp after.sound in
    let count = length-replicate run (zero_block s None) in
    let of_run : AreOfRun s b p run made.0 = record {
      len = made.1 ∙ ap (λ m. s.block * m) count;
      legal = All-from_recursion (IsSample s) made.0 made.2;
      blocks = ap (λ m. blocks_from s b p m made.0) (sym count) ∙ made.3;
    } in
    let far : s.block * b ≤ s.block * (b + run) = mul-le-mul_left s.block (omega arith) in
    let ends : EndsWith s (Some n) (b + run) rest Reached 0 = (omega arith, refl) in
    let cut : take (n - s.block * 0) (all ++ made.0) ≡ take (n - s.block * 0) all = take-append-le (n - s.block * 0) all made.0 (omega (arith, after.len)) in
    subst (λ (l : List ℤ). Decoded s (front ++ rest) (Some n) l Reached (length front + 0)) cut (ends_after_run rest (Some n) Reached 0 after goes of_run ends)
