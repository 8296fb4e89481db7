-- A block of the sample before, again and again, which goes on a run of zero blocks.
use Rattle.rice_fast.proofs.Words.{◌≡◌, ℕ, zero, suc, ◌+◌, ◌*◌, ◌<◌, ◌≤◌, ◌^◌, ◌==◌, Bool, true, false, ◌&&◌, cond, List, [], ◌++◌}
use Rattle.rice_fast.proofs.Words.{length, ap, refl, sym, arith, ◌∙◌, append-nil, append_assoc, subst, replicate, take, inl, inr, cases_lt, mul-le-mul_left, some_width, ℤ, nat_tests}
use Rattle.rice_fast.proofs.Words.{All-replicate, length-replicate, length-spellings, Parameters, IsSample, value_at, value_count, width}
use Rattle.rice_fast.proofs.Words.{Reads, spellings, pattern, rank, sample_at, later_residuals, last_replicate, same_rank, held_len}
use Rattle.rice_fast.proofs.Words.{zeros_are_zero, GoesOn, IsBefore, StandsAfter, StandsWith, is_at_first, with_block, HasResidualsOf, HasRoomAt, Standing, BlockCoder}
use Rattle.rice_fast.proofs.lemmas.encode.StandingCoders.{none_held, room_for_look, zeros_are_put}
use Rattle.std.proofs.lemmas.List.{replicate-append-replicate}
use Rattle.rice_fast.proofs.lemmas.{encode.HeldResiduals.later_copies, encode.TakenSamples.block_held}

-- after a whole block no interval begins
not_first : (p : Bool) (held blocks start : ℕ) → 1 ≤ blocks → (p && ((held == 0 && blocks == 0) && start == 0)) ≡ false
not_first p held blocks start some = none p (held == 0) (blocks == 0) (start == 0) (grind (arith, nat_tests, some))
  where
    none : (p a b d : Bool) → b ≡ false → (p && ((a && b) && d)) ≡ false
    none p a true d e = absurd (let f : true ≡ false = e in cc)
    none false a false d e = refl
    none true false false d e = refl
    none true true false d e = refl

-- where samples are predicted, the residuals of one sample again and again after itself are zeros
no_change : (s : Parameters) (x : ℤ) (n : ℕ) → s.preprocess ≡ true → later_residuals s x (replicate n x) ≡ replicate n 0
no_change s x n e = later_copies s n x ∙ ap (replicate n) (ap (λ p. cond p (rank s x x) (pattern s x)) e ∙ same_rank (value_count s) _)

-- and they are those of the bytes that spell it
pub repeated_residuals : {s : Parameters} {level : ℕ} {bytes : List ℕ} (n : ℕ) → s.preprocess ≡ true → level < value_count s → bytes ≡ spellings s (replicate n (value_at s level))
    → HasResidualsOf s bytes level (replicate n 0) level
repeated_residuals {s} {level} {bytes} n predicted below spelled = record {
  samples = replicate n (value_at s level);
  reads = record { split = spelled ∙ sym (append-nil _); legal = All-replicate (IsSample s) n (value_at s level) (sample_at s level below) };
  below = below;
  residuals_are = sym (no_change s (value_at s level) n predicted);
  last_is = sym (last_replicate (value_at s level) n);
}

-- What stands before such a block, where blocks are pending
before_run : {c : BlockCoder} {sink : List Bool} {meter : ℕ} {m : Standing} {xs : List ℤ} (bytes : List ℕ) → StandsAfter c sink meter m xs → 0 < c.run → IsBefore c bytes c.reference c.previous
before_run {c} bytes h pending =
    let holds = h.stands.holds in
    let some : 1 ≤ c.blocks = omega (arith, pending, holds.ahead.inside, held_len c.setting c.reference c.blocks h.stands.residuals) in
    let later : (c.setting.preprocess && is_at_first c) ≡ false = not_first c.setting.preprocess c.held c.blocks c.start some in
    record { below = holds.below; later = λ e. (refl, refl); first = λ e. absurd (let f : true ≡ false = sym e ∙ later in cc) }

-- A block of this sample goes on the run, for two steps a sample.
run_goes_on : {c : BlockCoder} {sink : List Bool} {meter : ℕ} {m : Standing} {xs : List ℤ} → StandsAfter c sink meter m xs → HasRoomAt m → c.held ≡ 0 → c.blocks < c.end → 0 < c.run
    → c.setting.preprocess ≡ true → (meter + c.setting.block + c.setting.block < 2 ^ 62)
    × StandsWith (with_block c (c.run + 1) c.bits_ahead (c.steps_ahead + c.setting.block)) [] sink (meter + c.setting.block + c.setting.block) m
    (xs ++ replicate c.setting.block (value_at c.setting c.previous))
unfolding repeated_residuals
run_goes_on {c} h room none less pending predicted =
    let s = c.setting in
    let bytes = spellings s (replicate s.block (value_at s c.previous)) in
    let len : length bytes ≡ width s * s.block = length-spellings s (replicate s.block (value_at s c.previous)) ∙ ap (λ n. width s * n) (length-replicate s.block (value_at s c.previous)) in
    let read = repeated_residuals s.block predicted h.stands.holds.below refl in
    let held = block_held h none less len (before_run bytes h pending) read in
    (room_for_look held.2 room held.1 less, zeros_are_put held.2 held.1 less (zeros_are_zero s.block))

-- the coder after zero blocks that go on the run
abbrev pub with_zeros : BlockCoder → ℕ → BlockCoder
with_zeros c n = record c { blocks = c.blocks + n; run = c.run + n; steps_ahead = c.steps_ahead + c.setting.block * n }

-- What the coder stands for then: `limit` tells that the meter has room for their steps.
pub record RunGrows (c : BlockCoder) (sink : List Bool) (meter n : ℕ) (m : Standing) (xs : List ℤ) : Type 0 where
  pub limit : 0 < n → meter + 2 * (c.setting.block * n) < 2 ^ 62
  pub stands : StandsAfter (with_zeros c n) sink (meter + 2 * (c.setting.block * n)) m (xs ++ replicate (c.setting.block * n) (value_at c.setting c.previous))

-- The run grows by each of them.
pub run_grows : {c : BlockCoder} {sink : List Bool} {meter : ℕ} {m : Standing} {xs : List ℤ} (n : ℕ) → StandsAfter c sink meter m xs → HasRoomAt m → c.held ≡ 0 → c.blocks + n ≤ c.end → 0 < c.run
    → c.setting.preprocess ≡ true → RunGrows c sink meter n m xs
run_grows {c} {sink} {meter} {m} {xs} zero h room none inside pending predicted =
    let x = value_at c.setting c.previous in
    let no : c.setting.block * 0 ≡ 0 = omega arith in
    let same : with_zeros c 0 ≡ c = (let b : c.blocks + 0 ≡ c.blocks = omega arith in
    let r : c.run + 0 ≡ c.run = omega arith in
    let t : c.steps_ahead + c.setting.block * 0 ≡ c.steps_ahead = omega arith in
    λ i. record c { blocks = b i; run = r i; steps_ahead = t i }) in
    let steps : meter + 2 * (c.setting.block * 0) ≡ meter = omega arith in
    record {
      limit = λ lt. absurd (omega (arith, lt));
      stands = subst (λ v. StandsAfter v sink (meter + 2 * (c.setting.block * 0)) m (xs ++ replicate (c.setting.block * 0) x)) (sym same)
          (subst (λ t. StandsAfter c sink t m (xs ++ replicate (c.setting.block * 0) x)) (sym steps)
          (subst (λ k. StandsAfter c sink meter m (xs ++ replicate k x)) (sym no) (subst (λ v. StandsAfter c sink meter m v) (sym (append-nil xs)) h)));
    }
run_grows {c} {sink} {meter} {m} {xs} (suc n) h room none inside pending predicted =
    let size = c.setting.block in
    let x = value_at c.setting c.previous in
    let old = run_grows n h room none (omega (arith, inside)) pending predicted in
    let more = run_goes_on old.stands room none (omega (arith, inside)) (omega (arith, pending)) predicted in
    let steps : meter + 2 * (size * n) + size + size ≡ meter + 2 * (size * suc n) = omega arith in
    let same : with_block (with_zeros c n) (c.run + n + 1) c.bits_ahead (c.steps_ahead + size * n + size) ≡ with_zeros c (suc n) =
    (let b : c.blocks + n + 1 ≡ c.blocks + suc n = omega arith in
    let r : c.run + n + 1 ≡ c.run + suc n = omega arith in
    let t : c.steps_ahead + size * n + size ≡ c.steps_ahead + size * suc n = omega arith in
    λ i. record c { blocks = b i; run = r i; steps_ahead = t i }) in
    let count : size * n + size ≡ size * suc n = omega arith in
    let all : (xs ++ replicate (size * n) x) ++ replicate size x ≡ xs ++ replicate (size * suc n) x =
    append_assoc xs (replicate (size * n) x) (replicate size x) ∙ ap (λ v. xs ++ v) (replicate-append-replicate (size * n) size x ∙ ap (λ k. replicate k x) count) in
    record {
      limit = λ lt. omega (arith, more.0, steps);
      stands = subst (λ v. StandsAfter v sink (meter + 2 * (size * suc n)) m (xs ++ replicate (size * suc n) x)) same
          (subst (λ t. StandsAfter (with_block (with_zeros c n) (c.run + n + 1) c.bits_ahead (c.steps_ahead + size * n + size)) sink t m (xs ++ replicate (size * suc n) x)) steps
          (subst (λ v. StandsAfter (with_block (with_zeros c n) (c.run + n + 1) c.bits_ahead (c.steps_ahead + size * n + size)) sink (meter + 2 * (size * n) + size + size) m v) all
          (none_held more.1 none old.stands.room)));
    }

-- bytes of whole blocks are of as many blocks as their number says
pub few_blocks : (w b n k : ℕ) → 1 ≤ w → 1 ≤ b → w * (b * n) ≤ w * (b * k) → n ≤ k
few_blocks w b n k wide some le = elim (cases_lt k n) [
  | inl lt ↦
      let more : b * (k + 1) ≤ b * n = mul-le-mul_left b (omega (arith, lt)) in
      let all : w * (b * k + 1) ≤ w * (b * n) = mul-le-mul_left w (omega (arith, more, some)) in
      absurd (omega (arith, le, all, wide))
  | inr ge ↦ ge
]

-- Where the bytes of whole blocks spell this sample in `n` blocks at the front, these go on the run.
pub record RunOfBytes (c : BlockCoder) (bytes : List ℕ) (sink : List Bool) (meter n : ℕ) (m : Standing) (xs : List ℤ) : Type 0 where
  pub grows : RunGrows c sink meter n m xs
  pub reads : Reads c.setting (take (width c.setting * (c.setting.block * n)) bytes) (replicate (c.setting.block * n) (value_at c.setting c.previous)) []
  pub inside : c.blocks + n ≤ c.end
  pub run : c.run ≤ c.blocks
  pub steps_ahead : c.steps_ahead ≤ meter

-- They do, where blocks are pending.
pub run_of_bytes : {c : BlockCoder} {bytes : List ℕ} {sink : List Bool} {meter : ℕ} {m : Standing} {xs : List ℤ} (n : ℕ) → StandsAfter c sink meter m xs → HasRoomAt m → c.held ≡ 0
    → ((k : ℕ) × (c.blocks + k ≤ c.end) × (length bytes ≡ width c.setting * (c.setting.block * k))) → width c.setting * (c.setting.block * n) ≤ length bytes → GoesOn c bytes n
    → RunOfBytes c bytes sink meter n m xs
run_of_bytes {c} {bytes} {sink} {meter} {m} {xs} n h room none (k, inside, len) few goes =
    let s = c.setting in
    let x = value_at s c.previous in
    let holds = h.stands.holds in
    let some : 1 ≤ s.block = grind (arith, holds.opens.legal.block) in
    let no_more : n ≤ k = few_blocks (width s) s.block n k (some_width s) some (omega (arith, few, len)) in
    record {
      grows = run_grows n h room none (omega (arith, inside, no_more)) goes.pending goes.predicted;
      reads = record { split = goes.spelled ∙ sym (append-nil (spellings s (replicate (s.block * n) x))); legal = All-replicate (IsSample s) (s.block * n) x (sample_at s c.previous holds.below) };
      inside = omega (arith, inside, no_more);
      run = omega (arith, holds.ahead.inside, held_len s c.reference c.blocks h.stands.residuals);
      steps_ahead = omega (arith, holds.steps_ahead);
    }
