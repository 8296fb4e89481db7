-- What the fast coder stands for when it takes a sample, or the samples of a block.
use Rattle.rice_fast.proofs.Words.{◌≡◌, ℕ, ◌+◌, ◌*◌, ◌<◌, ◌≤◌, ◌==◌, Bool, true, false, cond, ◌&&◌, List, [], ◌∷◌, ◌++◌, length, take, refl, ap, arith, sym, ◌∙◌, subst, inl, inr, drop-append-le}
use Rattle.rice_fast.proofs.Words.{take_more_set, length-set, length-append, Option, Some, ℤ, slice_set, AllByRecursion, nat_tests, length-take-le, take_at, recursion_from_All, mul-le-mul_left}
use Rattle.rice_fast.proofs.Words.{IsLegal, IsSample, value_at, value_count, width, pattern, rank, last_of, pattern_fits, sample_at, CoderState, is_first, later_residuals, next_reference}
use Rattle.rice_fast.proofs.Words.{next_residual, state_after, state_after_all, state_with_later, all_append, length-later, state_after_all-snoc, state_after_all-first, bool_cases, and-split}
use Rattle.rice_fast.proofs.Words.{HoldsOpen, IsBefore, StandsAfter, StandsWith, coder_with, is_at_first, HasResidualsOf, Standing, BlockCoder}
use Rattle.std.proofs.Common.{IfSome}
use Rattle.std.specs.Prelude.{◌⊎◌}
use Rattle.rice_fast.proofs.lemmas.encode.StandingCoders.{block_is_small, noted_reference, other_part}
use Rattle.rice_fast.proofs.lemmas.{encode.HeldResiduals.is_empty-by_counts, encode.HeldResiduals.state_after_all-append, encode.TakenBytes.first_of_samples, encode.TakenBytes.samples_counted}

-- the coder after a reference, if one is noted, and the level of the last sample
abbrev pub with_last : BlockCoder → Option ℕ → ℕ → BlockCoder
with_last c reference level = record c { reference = reference; previous = level }

-- no residual is held
same_first : {c : BlockCoder} {row : List ℕ} {sink : List Bool} {meter : ℕ} {ds : List ℕ} {from : List Bool} {m : ℕ} → HoldsOpen c row sink meter ds from m → length row ≡ c.held
    → is_first (coder_with c ds) ≡ is_at_first c
same_first {c} {ds = ds} h count =
    let one : 1 ≤ c.setting.block = grind (arith, h.opens.legal.block) in
    ap (λ v. v && c.start == 0) (is_empty-by_counts ds c.setting.block c.blocks c.held one (omega (arith, h.number, count)))

no_blocks : (c : BlockCoder) → (c.setting.preprocess && is_at_first c) ≡ true → c.blocks ≡ 0
no_blocks c e =
    let all = and-split c.setting.preprocess (is_at_first c) e in
    let part = and-split (c.held == 0 && c.blocks == 0) (c.start == 0) all.1 in
    let both = and-split (c.held == 0) (c.blocks == 0) part.0 in
    same c.blocks both.1
  where
    same : (x : ℕ) → (x == 0) ≡ true → x ≡ 0
    same x e = grind (arith, nat_tests)

-- what is held of the open segment after more residuals, which are those of samples
pub record MoreResiduals (c : BlockCoder) (row : List ℕ) (reference : Option ℕ) (level : ℕ) (es : List ℕ) : Type 0 where
  pub below : level < value_count c.setting
  pub fits : IfSome reference (λ v. v < value_count c.setting)
  pub noted : (reference ≡ c.reference) ⊎ (c.blocks ≡ 0)
  pub room : length row + length es ≤ c.setting.block
  pub inside : c.blocks < c.end

more_held : {c : BlockCoder} {row : List ℕ} {sink : List Bool} {meter : ℕ} {ds : List ℕ} {from : List Bool} {m : ℕ} (reference : Option ℕ) (level : ℕ) (es : List ℕ)
    → HoldsOpen c row sink meter ds from m → MoreResiduals c row reference level es → HoldsOpen (with_last c reference level) (row ++ es) sink (meter + length es) (ds ++ es) from (m + length es)
more_held {c} {row} {sink} {meter} {ds} {from} {m} reference level es h more =
    let s = c.setting in
    let lens = length-append ds es in
    let rows = length-append row es in
    let left = ap (λ n. s.block * n) h.ends in
    let all : s.block * (c.blocks + 1) ≤ s.block * c.end = mul-le-mul_left s.block (omega (arith, more.inside)) in
    record {
      opens = record {
        legal = h.opens.legal;
        place = h.opens.place;
        begins = h.opens.begins;
        few = omega (arith, lens, h.number, more.room, all, left);
        previous = sample_at s level more.below;
        reference = more.fits;
        ends = h.opens.ends;
      };
      ends = h.ends;
      below = more.below;
      number = omega (arith, lens, rows, h.number);
      fits = omega (arith, rows, more.room);
      part = drop-append-le (s.block * c.blocks) ds es (omega (arith, h.number)) ∙ ap (λ v. v ++ es) h.part;
      steps_ahead = omega (arith, h.steps_ahead);
      ahead = noted_reference reference c.blocks ds es (omega (arith, h.number)) more.noted h.ahead;
    }

-- the reference of the segment fits
noted_fits : (c : BlockCoder) (reference : Option ℕ) (x : ℤ) → IsLegal c.setting → IsSample c.setting x → IfSome c.reference (λ v. v < value_count c.setting)
    → reference ≡ cond (c.setting.preprocess && is_at_first c) (Some (pattern c.setting x)) c.reference
    → IfSome reference (λ v. v < value_count c.setting) × ((reference ≡ c.reference) ⊎ (c.blocks ≡ 0))
noted_fits c reference x legal sample old e =
    let fits : Option ℕ → Type 0 = λ r. IfSome r (λ v. v < value_count c.setting) in
    elim (bool_cases (c.setting.preprocess && is_at_first c)) [
      | inl first ↦
          let is : reference ≡ Some (pattern c.setting x) = e ∙ ap (λ v. cond v (Some (pattern c.setting x)) c.reference) first in
          (subst fits (sym is) (pattern_fits c.setting x legal.bits_from sample), inr (no_blocks c first))
      | inr later ↦
          let is : reference ≡ c.reference = e ∙ ap (λ v. cond v (Some (pattern c.setting x)) c.reference) later in
          (subst fits (sym is) old, inl is)
    ]

-- the coder that holds one sample more in its part
abbrev pub with_held : BlockCoder → Option ℕ → ℕ → List ℕ → BlockCoder
with_held c reference level part = record c { reference = reference; previous = level; part = part; held = c.held + 1 }

pub record HoldsOne (c : BlockCoder) (x : ℤ) (residual : ℕ) (reference : Option ℕ) (level : ℕ) : Type 0 where
  pub sample : IsSample c.setting x
  pub room : c.held < c.setting.block
  pub inside : c.blocks < c.end
  pub residual_is : residual ≡ cond c.setting.preprocess (cond (is_at_first c) 0 (rank c.setting (value_at c.setting c.previous) x)) (pattern c.setting x)
  pub reference_is : reference ≡ cond (c.setting.preprocess && is_at_first c) (Some (pattern c.setting x)) c.reference
  pub below : level < value_count c.setting
  pub level_is : value_at c.setting level ≡ x

-- a sample is held
pub one_held : {c : BlockCoder} {sink : List Bool} {meter : ℕ} {m : Standing} {xs : List ℤ} {x : ℤ} {residual : ℕ} {reference : Option ℕ} {level : ℕ} → StandsAfter c sink meter m xs
    → HoldsOne c x residual reference level → StandsAfter (with_held c reference level (slice_set c.part c.held residual)) sink (meter + 1) m (xs ++ x ∷ [])
one_held {c} {sink} {meter} {m} {xs} {x} {residual} {reference} {level} h one =
    let s = c.setting in
    let stands = h.stands in
    let ds = stands.residuals in
    let legal = stands.holds.opens.legal in
    let within : c.held < length c.part = omega (arith, h.room, one.room, block_is_small s legal) in
    let row : length (take c.held c.part) ≡ c.held = length-take-le c.held c.part (omega (arith, within)) in
    let written = take_more_set c.part c.held residual within in
    let noted = noted_fits c reference x legal one.sample stands.holds.opens.reference one.reference_is in
    let first = same_first stands.holds row in
    let d : residual ≡ next_residual (coder_with c ds) x = one.residual_is ∙ ap (λ v. cond s.preprocess (cond v 0 (rank s (value_at s c.previous) x)) (pattern s x)) (sym first) in
    let r : reference ≡ next_reference (coder_with c ds) x = one.reference_is ∙ ap (λ v. cond (s.preprocess && v) (Some (pattern s x)) c.reference) (sym first) in
    let samples : IsSample m.coder.setting x = subst (λ (v : CoderState). IsSample v.setting x) (sym stands.coder) one.sample in
    let holds = more_held reference level (residual ∷ []) stands.holds (record {
      below = one.below;
      fits = noted.0;
      noted = noted.1;
      room = omega (arith, row, one.room);
      inside = one.inside;
    }) in
    let steps : m.meter + length xs + 1 ≡ m.meter + length (xs ++ x ∷ []) = omega (arith, length-append xs (x ∷ [])) in
    let state : state_after_all m.coder (xs ++ x ∷ []) ≡ coder_with (with_last c reference level) (ds ++ residual ∷ []) =
    state_after_all-snoc m.coder xs x ∙ (ap (λ v. state_after v x) stands.coder
    ∙ λ i. record { setting = s; residuals = ds ++ sym d i ∷ []; reference = sym r i; previous = sym one.level_is i; start = c.start }) in
    record {
      room = length-set c.part c.held residual ∙ h.room;
      held = omega (arith, one.room);
      stands = record {
        coded = stands.coded;
        legal = all_append (IsSample m.coder.setting) xs (x ∷ []) stands.legal (samples, tt);
        residuals = ds ++ residual ∷ [];
        coder = state;
        holds = at_row (sym written) (at_steps steps holds);
      };
    }
  where
    at_row : {row new : List ℕ} {n : ℕ} → row ≡ new → HoldsOpen (with_last c reference level) row sink (meter + 1) (h.stands.residuals ++ residual ∷ []) m.sink n
        → HoldsOpen (with_held c reference level (slice_set c.part c.held residual)) new sink (meter + 1) (h.stands.residuals ++ residual ∷ []) m.sink n
    at_row {row} {new} {n} e k =
        subst (λ v. HoldsOpen (with_held c reference level (slice_set c.part c.held residual)) v sink (meter + 1) (h.stands.residuals ++ residual ∷ []) m.sink n) e (record {
          opens = k.opens;
          ends = k.ends;
          below = k.below;
          number = k.number;
          fits = k.fits;
          part = k.part;
          steps_ahead = k.steps_ahead;
          ahead = k.ahead;
        })

    at_steps : {row : List ℕ} {n new : ℕ} → n ≡ new → HoldsOpen (with_last c reference level) row sink (meter + 1) (h.stands.residuals ++ residual ∷ []) m.sink n
        → HoldsOpen (with_last c reference level) row sink (meter + 1) (h.stands.residuals ++ residual ∷ []) m.sink new
    at_steps {row} e k = subst (λ n. HoldsOpen (with_last c reference level) row sink (meter + 1) (h.stands.residuals ++ residual ∷ []) m.sink n) e k

-- A block of samples follows: where the first is no reference sample,
all_later : (coder : CoderState) (xs : List ℤ) → (coder.setting.preprocess && is_first coder) ≡ false → state_after_all coder xs ≡ state_with_later coder coder.previous xs
all_later coder [] e = refl
all_later coder (x ∷ xs) e = λ i. record {
  setting = coder.setting;
  residuals = coder.residuals ++ by_way coder.setting.preprocess (is_first coder) e i ∷ later_residuals coder.setting x xs;
  reference = cond (e i) (Some (pattern coder.setting x)) coder.reference;
  previous = last_of x xs;
  start = coder.start;
}
  where
    by_way : (a b : Bool) → (a && b) ≡ false
        → cond a (cond b 0 (rank coder.setting coder.previous x)) (pattern coder.setting x) ≡ cond a (rank coder.setting coder.previous x) (pattern coder.setting x)
    by_way false b e = refl
    by_way true false e = refl
    by_way true true e = absurd (let f : true ≡ false = e in cc)

-- and where it is one,
block_taken : {c : BlockCoder} {bytes : List ℕ} {reference : Option ℕ} {before : ℕ} {es : List ℕ} {last : ℕ} (ds : List ℕ) → IsLegal c.setting → is_first (coder_with c ds) ≡ is_at_first c
    → IsBefore c bytes reference before → (h : HasResidualsOf c.setting bytes before es last) → 0 < length h.samples
    → state_after_all (coder_with c ds) h.samples ≡ coder_with (with_last c reference last) (ds ++ es)
block_taken {c} {bytes} {reference} {before} {es} {last} ds legal first is h some =
    let s = c.setting in
    let k = coder_with c ds in
    let at : (p : ℤ) (q : Option ℕ) → value_at s before ≡ p → q ≡ reference
    → state_with_later (record { setting = s; residuals = ds; reference = q; previous = value_at s c.previous; start = c.start }) p h.samples ≡ coder_with (with_last c reference last) (ds ++ es) =
    λ p q e f i. record {
      setting = s;
      residuals = ds ++ (ap (λ v. later_residuals s v h.samples) (sym e) ∙ sym h.residuals_are) i;
      reference = f i;
      previous = (ap (λ v. last_of v h.samples) (sym e) ∙ sym h.last_is) i;
      start = c.start;
    } in
    elim (bool_cases (s.preprocess && is_at_first c)) [
      | inr later ↦
          let same = is.later later in
          all_later k h.samples (ap (λ v. s.preprocess && v) first ∙ later) ∙ at (value_at s c.previous) c.reference (ap (value_at s) same.1) (sym same.0)
      | inl head ↦
          let own = is.first head in
          let x = own.0 in
          let parts = first_of_samples s bytes x h.samples legal own.1 own.2 h.reads some in
          let noted : CoderState = record { setting = s; residuals = ds; reference = Some (pattern s x); previous = value_at s c.previous; start = c.start } in
          ap (state_after_all k) parts.1
          ∙ (sym (state_after_all-first k x parts.0 (ap (λ v. s.preprocess && v) first ∙ head))
          ∙ (ap (state_with_later noted x) (sym parts.1) ∙ at x (Some (pattern s x)) own.3 (sym own.4)))
    ]

-- it is held as a row that is whole.
pub block_held : {c : BlockCoder} {sink : List Bool} {meter : ℕ} {m : Standing} {xs : List ℤ} {bytes : List ℕ} {reference : Option ℕ} {before : ℕ} {es : List ℕ} {last : ℕ}
    → StandsAfter c sink meter m xs → c.held ≡ 0 → c.blocks < c.end → length bytes ≡ width c.setting * c.setting.block → IsBefore c bytes reference before
    → (h : HasResidualsOf c.setting bytes before es last)
    → (length h.samples ≡ c.setting.block) × (length es ≡ c.setting.block) × StandsWith (with_last c reference last) es sink (meter + c.setting.block) m (xs ++ h.samples)
block_held {c} {sink} {meter} {m} {xs} {bytes} {reference} {before} {es} {last} stood none less len is h =
    let s = c.setting in
    let stands = stood.stands in
    let ds = stands.residuals in
    let legal = stands.holds.opens.legal in
    let one : 1 ≤ s.block = grind (arith, legal.block) in
    let count = samples_counted s bytes h.samples s.block h.reads len in
    let whole : length es ≡ s.block = ap length h.residuals_are ∙ (length-later s (value_at s before) h.samples ∙ count) in
    let nothing : take c.held c.part ≡ [] = ap (λ n. take n c.part) none in
    let empty : length (take c.held c.part) ≡ 0 = ap length nothing in
    let first = same_first stands.holds (omega (arith, empty, none)) in
    let samples = recursion_from_All (IsSample s) h.samples h.reads.legal in
    let own : AllByRecursion (IsSample m.coder.setting) h.samples = subst (λ (v : CoderState). AllByRecursion (IsSample v.setting) h.samples) (sym stands.coder) samples in
    let noted = before_fits is in
    let held = more_held reference last es stands.holds (record { below = h.below; fits = noted.0; noted = noted.1; room = omega (arith, empty, whole); inside = less }) in
    let all = length-append xs h.samples in (
      count,
      whole,
      record {
        coded = stands.coded;
        legal = all_append (IsSample m.coder.setting) xs h.samples stands.legal own;
        residuals = ds ++ es;
        coder = state_after_all-append m.coder xs h.samples
            ∙ (ap (λ v. state_after_all v h.samples) stands.coder ∙ block_taken ds legal first is h (omega (arith, count, one)));
        holds = at (ap (λ v. v ++ es) nothing) (ap (λ n. meter + n) whole) (omega (arith, all, count, whole)) held;
      },
    )
  where
    before_fits : IsBefore c bytes reference before → IfSome reference (λ v. v < value_count c.setting) × ((reference ≡ c.reference) ⊎ (c.blocks ≡ 0))
    before_fits is =
        let fits : Option ℕ → Type 0 = λ r. IfSome r (λ v. v < value_count c.setting) in
        elim (bool_cases (c.setting.preprocess && is_at_first c)) [
          | inl head ↦ let own = is.first head in (subst fits (sym own.4) (pattern_fits c.setting own.0 stood.stands.holds.opens.legal.bits_from own.1), inr (no_blocks c head))
          | inr later ↦ let own = is.later later in (subst fits (sym own.0) stood.stands.holds.opens.reference, inl own.0)
        ]

    at : {row new : List ℕ} {n to a b : ℕ} → row ≡ new → n ≡ to → a ≡ b → HoldsOpen (with_last c reference last) row sink n (stood.stands.residuals ++ es) m.sink a
        → HoldsOpen (with_last c reference last) new sink to (stood.stands.residuals ++ es) m.sink b
    at {row} {new} {n} {to} {a} {b} e f g k =
        let P : ℕ → Type 0 = λ v. HoldsOpen (with_last c reference last) new sink v (stood.stands.residuals ++ es) m.sink b in
        let Q : ℕ → Type 0 = λ v. HoldsOpen (with_last c reference last) new sink n (stood.stands.residuals ++ es) m.sink v in
        let R : List ℕ → Type 0 = λ v. HoldsOpen (with_last c reference last) v sink n (stood.stands.residuals ++ es) m.sink a in
        subst P f (subst Q g (subst R e k))

-- The residuals may lie in the part, and the meter may be given otherwise.
pub block_in_part : {c : BlockCoder} {sink : List Bool} {meter : ℕ} {m : Standing} {xs : List ℤ} {bytes : List ℕ} {reference : Option ℕ} {before : ℕ} {es : List ℕ} {last : ℕ} (rest : List ℕ)
    (now : ℕ)
    → StandsAfter c sink meter m xs → c.held ≡ 0 → c.blocks < c.end → length bytes ≡ width c.setting * c.setting.block → IsBefore c bytes reference before
    → (h : HasResidualsOf c.setting bytes before es last)
    → now ≡ meter + c.setting.block
    → (length h.samples ≡ c.setting.block) × (length (take c.setting.block (es ++ rest)) ≡ c.setting.block)
    × StandsWith (record c { reference = reference; previous = last; part = es ++ rest }) (take c.setting.block (es ++ rest)) sink now m (xs ++ h.samples)
block_in_part {c} {sink} {meter} {m} {xs} {reference = reference} {es = es} {last = last} rest now stood none less len is h ticks =
    let held = block_held stood none less len is h in
    let row : take c.setting.block (es ++ rest) ≡ es = take_at es rest c.setting.block held.1 in
    let k = record c { reference = reference; previous = last; part = es ++ rest } in
    let P : List ℕ → Type 0 = λ v. StandsWith k v sink now m (xs ++ h.samples) in
    let Q : ℕ → Type 0 = λ v. StandsWith k es sink v m (xs ++ h.samples) in
    (held.0, ap length row ∙ held.1, subst P (sym row) (subst Q (sym ticks) (other_part (es ++ rest) c.held held.2)))
