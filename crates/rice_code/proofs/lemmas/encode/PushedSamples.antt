-- What pushing samples does: what pushing the last of them does after the others.
use Rattle.std.proofs.Common.{◌≡◌, ℕ, ◌+◌, ◌-◌, ◌*◌, ◌^◌, ◌<◌, ◌≤◌, Bool, List, [], ◌∷◌, ◌++◌, length, refl, ap, arith, sym, ◌∙◌, subst, append_assoc, append-nil, length-append, ℤ}
use Rattle.rice_code.proofs.Words.{AllByRecursion, mod-lt, mul-le-mul_left, take-length, cases_lt, IsSample, blocks_left, some_left, common_steps, complete_samples, HasTaken, IsCoder, PushesSamples}
use Rattle.rice_code.proofs.Words.{fill_count, CoderState, IsWhole, state_after, state_after_all, state_after_segment, state_with_fill, next_residual, HoldsSoundBlocks, CodesHeld, coding_steps}
use Rattle.rice_code.proofs.lemmas.encode.PushedCode.{stays_open, stays_open_completes_none, short_of, pending_are, whole_sound, takes_last_of_segment, whole_segment_adds_code, AddsHeldCode}
use Rattle.rice_code.proofs.lemmas.encode.SeveralSamplesHeld.{state_after_all-none, state_after_all-cons, state_after_all-snoc, length-state_after_all}
use Rattle.rice_code.proofs.{lemmas.encode.PushedCode.adds_code, lemmas.encode.PushedCode.adds_nothing, lemmas.encode.PushedCode.steps_of_segment, Words.segment_steps}

-- samples that leave the segment open
pub several_stay_open : (coder : CoderState) (ys xs : List ℤ) → HasTaken coder xs → AllByRecursion (IsSample coder.setting) ys
    → length coder.residuals + length ys < coder.setting.block * blocks_left coder.setting coder.start →
    HasTaken (state_after_all coder ys) (xs ++ ys) × (complete_samples coder.setting (xs ++ ys) ≡ complete_samples coder.setting xs)
several_stay_open coder [] xs h legal less = grind (arith, common_steps, state_after_all-none, append-nil)
several_stay_open coder (y ∷ ys) xs h legal less =
    let len = length-append coder.residuals (next_residual coder y ∷ []) in
    let short : length (state_after coder y).residuals < coder.setting.block * blocks_left coder.setting coder.start = omega (arith, len, less) in
    let kept = stays_open_completes_none coder y xs h legal.0 short in
    let more = several_stay_open (state_after coder y) ys (xs ++ y ∷ []) (stays_open coder y xs h legal.0 short) legal.1 (omega (arith, len, less)) in
    let parts : (xs ++ y ∷ []) ++ ys ≡ xs ++ y ∷ ys = append_assoc xs (y ∷ []) ys in (
      subst (λ v. HasTaken v (xs ++ y ∷ ys)) (state_after_all-cons coder y ys) (subst (HasTaken (state_after_all (state_after coder y) ys)) parts more.0),
      ap (complete_samples coder.setting) (sym parts) ∙ (more.1 ∙ kept),
    )

-- the last of samples, after the others
pub record IsLast (coder : CoderState) (xs ys : List ℤ) : Type 0 where
  pub others : List ℤ
  pub x : ℤ
  pub legal : IsSample coder.setting x
  pub taken : HasTaken (state_after_all coder others) (xs ++ others)
  pub completes_none : complete_samples coder.setting (xs ++ others) ≡ complete_samples coder.setting xs
  pub grows : state_after_all coder ys ≡ state_after (state_after_all coder others) x
  pub all : xs ++ ys ≡ (xs ++ others) ++ x ∷ []

-- a list with some samples has a last one
pub last_part : (ys : List ℤ) → 0 < length ys → (others : List ℤ) × (x : ℤ) × (ys ≡ others ++ x ∷ [])
last_part [] h = absurd (omega arith)
last_part (y ∷ []) h = ([], y, refl)
last_part (y ∷ z ∷ zs) h = let r = last_part (z ∷ zs) (omega arith) in (y ∷ r.0, r.1, ap (λ v. y ∷ v) r.2)

legal_parts : (P : ℤ → Type 0) (ys : List ℤ) (x : ℤ) → AllByRecursion P (ys ++ x ∷ []) → AllByRecursion P ys × P x
legal_parts P [] x h = (tt, h.0)
legal_parts P (y ∷ ys) x h = let r = legal_parts P ys x h.1 in ((h.0, r.0), r.1)

-- where they make the segment whole
whole_last : (coder : CoderState) (ys xs : List ℤ) → AllByRecursion (IsSample coder.setting) ys → IsWhole (state_after_all coder ys) → HasTaken coder xs → IsLast coder xs ys
whole_last coder ys xs legal full h =
    let limit = coder.setting.block * blocks_left coder.setting coder.start in
    let count = length-state_after_all coder ys in
    let short = short_of coder xs h in
    let parts = last_part ys (omega (arith, full, count, short)) in
    let all = legal_parts (IsSample coder.setting) parts.0 parts.1 (subst (AllByRecursion (IsSample coder.setting)) parts.2 legal) in
    let len = ap length parts.2 in
    let one = length-append parts.0 (parts.1 ∷ []) in
    let stay = several_stay_open coder parts.0 xs h all.0 (omega (arith, full, count, len, one)) in
    grind (arith, common_steps, state_after_all-snoc, append_assoc)

several_sound : (coder : CoderState) (ys xs : List ℤ) → AllByRecursion (IsSample coder.setting) ys → IsWhole (state_after_all coder ys) → HasTaken coder xs
    → HoldsSoundBlocks (state_after_all coder ys)
several_sound coder ys xs legal whole h =
    let l = whole_last coder ys xs legal whole h in
    subst HoldsSoundBlocks (sym l.grows) (whole_sound (state_after_all coder l.others) l.x (xs ++ l.others) l.taken l.legal (subst IsWhole l.grows whole))

several_end : (coder : CoderState) (ys xs : List ℤ) → AllByRecursion (IsSample coder.setting) ys → IsWhole (state_after_all coder ys) → HasTaken coder xs
    → HasTaken (state_after_segment (state_after_all coder ys)) (xs ++ ys)
several_end coder ys xs legal whole h =
    let l = whole_last coder ys xs legal whole h in
    let end = takes_last_of_segment (state_after_all coder l.others) l.x (xs ++ l.others) l.taken l.legal (subst IsWhole l.grows whole) in
    subst (λ v. HasTaken (state_after_segment v) (xs ++ ys)) (sym l.grows) (subst (HasTaken (state_after_segment (state_after (state_after_all coder l.others) l.x))) (sym l.all) end)

several_add_code : (coder : CoderState) (ys xs : List ℤ) → AllByRecursion (IsSample coder.setting) ys → IsWhole (state_after_all coder ys) → HasTaken coder xs →
    AddsHeldCode (state_after_all coder ys) (complete_samples coder.setting xs) (complete_samples coder.setting (xs ++ ys))
several_add_code coder ys xs legal whole h =
    let s = coder.setting in
    let l = whole_last coder ys xs legal whole h in
    let last = state_after (state_after_all coder l.others) l.x in
    let adds = whole_segment_adds_code (state_after_all coder l.others) l.x (xs ++ l.others) l.taken l.legal (subst IsWhole l.grows whole) in
    grind (arith, common_steps, common_steps)

-- after a whole segment all samples are complete
all_complete : (coder : CoderState) (xs : List ℤ) → HasTaken coder xs → length coder.residuals ≡ 0 → complete_samples coder.setting xs ≡ xs
all_complete coder xs h none = grind (arith, common_steps, pending_are, take-length)

-- A call takes the samples ys: the coder, whose value is `value`, holds them then, as `held`.
pub record HoldsMore (value coder held : CoderState) (ys : List ℤ) : Type 0 where
  pub same : coder ≡ value
  pub coded : IsCoder coder
  pub legal : AllByRecursion (IsSample coder.setting) ys
  pub room : length coder.residuals + length ys ≤ coder.setting.block * blocks_left coder.setting coder.start
  pub holds : held ≡ state_after_all coder ys

-- or one
pub holds_one : {value coder held : CoderState} {x y : ℤ} → coder ≡ value → IsCoder coder → IsSample value.setting x → y ≡ x → held ≡ state_after coder y → HoldsMore value coder held (x ∷ [])
holds_one {coder} {x} e k legal f g = record {
  same = e;
  coded = k;
  legal = (subst (λ (v : CoderState). IsSample v.setting x) (sym e) legal, tt);
  room = let short = short_of coder k.samples k.taken in omega (arith, short);
  holds = g ∙ ap (state_after coder) f;
}

-- Where they make the segment whole, its code can be appended,
pub whole_is_sound : (value coder held : CoderState) (ys : List ℤ) → HoldsMore value coder held ys → IsWhole held → HoldsSoundBlocks held
whole_is_sound value coder held ys h whole = subst HoldsSoundBlocks (sym h.holds) (several_sound coder ys h.coded.samples h.legal (subst IsWhole h.holds whole) h.coded.taken)

-- the meter has room for it,
pub whole_has_steps : (value coder held : CoderState) (ys : List ℤ) (m0 m1 : ℕ) → HoldsMore value coder held ys → m0 + segment_steps value.setting < 2 ^ 62
    → m1 ≡ m0 + length ys → m1 + coding_steps held.setting < 2 ^ 62
whole_has_steps value coder held ys m0 m1 h room steps =
    let s = coder.setting in
    let same : held.setting ≡ s = ap (λ (v : CoderState). v.setting) h.holds in
    let room : m0 + segment_steps s < 2 ^ 62 = subst (λ (v : CoderState). m0 + segment_steps v.setting < 2 ^ 62) (sym h.same) room in
    let left : s.block * blocks_left s coder.start ≤ s.block * 64 = mul-le-mul_left s.block (some_left s coder.start h.coded.taken.holds.legal.interval_from).1 in
    grind (arith, common_steps, steps_of_segment)

-- also after the samples that fill the last block,
pub filled_has_steps : {value coder held : CoderState} (m0 : ℕ) {m1 : ℕ} → coder ≡ value → IsCoder coder
    → held ≡ state_with_fill coder (fill_count coder.setting (length coder.residuals)) → m0 + segment_steps value.setting < 2 ^ 62 →
    m1 ≡ m0 + fill_count coder.setting (length coder.residuals) → m1 + coding_steps held.setting < 2 ^ 62
filled_has_steps {coder} m0 {m1} e k f room steps = grind (arith, common_steps, mod-lt, steps_of_segment)

-- and this is what the call does
pub whole_pushes : {value coder held after : CoderState} {ys : List ℤ} {old new : List Bool} {n m0 m1 m2 : ℕ} → HoldsMore value coder held ys → IsWhole held
    → after ≡ state_after_segment held → CodesHeld held old new n m1 m2 → m1 ≡ m0 + length ys → PushesSamples value after ys old new n m0 m2
whole_pushes {coder} {after} {ys} {old} {new} {n} {m0} {m1} {m2} h whole e codes steps =
    let full = state_after_all coder ys in
    let is_whole : IsWhole full = subst IsWhole h.holds whole in
    let ends_so : after ≡ state_after_segment full = e ∙ ap state_after_segment h.holds in
    let coded : CodesHeld full old new n m1 m2 = subst (λ v. CodesHeld v old new n m1 m2) h.holds codes in
    subst (λ v. PushesSamples v after ys old new n m0 m2) h.same (record {
      setting = ap (λ (v : CoderState). v.setting) ends_so;
      taken = λ xs k. subst (λ v. HasTaken v (xs ++ ys)) (sym ends_so) (several_end coder ys xs h.legal is_whole k);
      adds = λ xs k. adds_code (several_add_code coder ys xs h.legal is_whole k) coded steps;
    })

-- Where they leave it open, nothing is appended.
pub still_short : (value coder held : CoderState) (ys : List ℤ) → HoldsMore value coder held ys → (IsWhole held → ⊥)
    → length coder.residuals + length ys < coder.setting.block * blocks_left coder.setting coder.start
still_short value coder held ys h not_whole = grind (arith, common_steps, length-state_after_all, cases_lt)

-- the call makes a step for each sample, and nothing is put
pub open_pushes : {value coder held : CoderState} {ys : List ℤ} {sink : List Bool} {m0 m1 : ℕ} → HoldsMore value coder held ys → (IsWhole held → ⊥)
    → m1 ≡ m0 + length ys → PushesSamples value held ys sink sink 0 m0 m1
open_pushes {value} {coder} {held} {ys} {sink} {m0} {m1} h not_whole steps =
    let short = still_short value coder held ys h not_whole in
    subst (λ v. PushesSamples v held ys sink sink 0 m0 m1) h.same (record {
      setting = ap (λ (v : CoderState). v.setting) h.holds;
      taken = λ xs k. subst (λ v. HasTaken v (xs ++ ys)) (sym h.holds) (several_stay_open coder ys xs k h.legal short).0;
      adds = λ xs k. adds_nothing coder.setting (complete_samples coder.setting xs) (complete_samples coder.setting (xs ++ ys)) sink (length ys) m0 m1
          (several_stay_open coder ys xs k h.legal short).1 steps;
    })

-- After the call the coder has taken some samples still.
pub is_coder_after : {value coder held after : CoderState} {ys : List ℤ} {old new : List Bool} {n m0 m2 : ℕ} → HoldsMore value coder held ys
    → PushesSamples value after ys old new n m0 m2 → IsCoder after
is_coder_after {ys} h pushes = record {
  samples = h.coded.samples ++ ys;
  taken = pushes.taken h.coded.samples (subst (λ v. HasTaken v h.coded.samples) h.same h.coded.taken);
}
