use Rattle.rice_fast.proofs.Words.{arith, ◌≡◌, ◌+◌, ◌-◌, ◌*◌, ◌^◌, ◌<◌, ◌≤◌, min, ℕ, Bool, List, true, false, length, take, ap, sym, ◌∙◌, subst, inl, inr, mul-le-mul_left, Parameters, IsBlockSize}
use Rattle.rice_fast.proofs.Words.{k_max}
use Rattle.rice_fast.proofs.Words.{BlockData, is_zero_block, best_split, shortest, cost, IsSoundData, block_with, HasRoomFor, EndsRun, JoinsRun, pending_bits, reference_at, bool_cases}
use Rattle.rice_fast.proofs.Words.{BlockCoder, HasRoomForBlock}
use Rattle.rice_fast.proofs.lemmas.encode.CodeAhead.{ahead_of_other, ahead_of_zero, room_for_other, room_to_look}
use Rattle.rice_fast.proofs.lemmas.encode.StandingCoders.{is_next, next_of, sound_next}
use Rattle.rice_fast.proofs.encode.coder.BlockCoder.put_block.Goals as goal

-- neither bits nor steps get fewer
grows : (s : Parameters) (run result : ℕ) (w : List Bool) (b : BlockData) (sink sink_new : List Bool) (m m_new : ℕ) → 1 ≤ s.block
    → (is_zero_block b ≡ true → JoinsRun s run result sink sink_new m m_new) → (is_zero_block b ≡ false → EndsRun s w b result sink sink_new m m_new) → (length sink ≤ length sink_new) × (m ≤ m_new)
grows s run result w b sink sink_new m m_new one joins ends = elim (bool_cases (is_zero_block b)) [
  | inl z ↦ let j = joins z in (omega (arith, ap length j.bits), omega (arith, j.steps))
  | inr z ↦ let e = ends z in let some : s.block * 1 ≤ s.block * (best_split s b + 4) = mul-le-mul_left s.block (omega arith) in (omega (arith, e.len), omega (arith, e.steps_from, some, one))
]

-- there is room for it
room_next : {c : BlockCoder} {sink : List Bool} {meter : ℕ} (h : HasRoomForBlock c sink meter) (b : BlockData) → b ≡ next_of h → is_zero_block b ≡ false
    → HasRoomFor (length (pending_bits c.setting false (reference_at c.reference (c.blocks - c.run)) c.run) + cost c.setting (shortest c.setting b))
    (length (pending_bits c.setting false (reference_at c.reference (c.blocks - c.run)) c.run) + cost c.setting (shortest c.setting b) + c.setting.block * (k_max c.setting + 5)) (length sink) meter
room_next {c} {sink} {meter} h b e =
    let s = c.setting in
    let Room : ℕ → ℕ → BlockData → Type 0 = λ n m b. HasRoomFor (length (pending_bits s false (reference_at c.reference (n - c.run)) c.run) + cost s (shortest s b))
    (length (pending_bits s false (reference_at c.reference (n - c.run)) c.run) + cost s (shortest s b) + s.block * (k_max s + 5)) (length sink) m in
    subst (λ b. is_zero_block b ≡ false → Room c.blocks meter b) (sym e)
    (λ z. subst (λ n. Room n meter (next_of h)) h.number
    (subst (λ m. Room (length h.blocks) m (next_of h)) (sym h.steps_ahead) (room_for_other h.meter_from h.ahead (is_next h) z h.room h.steps)))

-- and the meter can count its steps
few_steps : {c : BlockCoder} {sink sink_new : List Bool} {meter result m m_new : ℕ} (h : HasRoomForBlock c sink meter) (b : BlockData) → b ≡ next_of h → m ≡ 0
    → (is_zero_block b ≡ true → JoinsRun c.setting c.run result sink sink_new m m_new)
    → (is_zero_block b ≡ false → EndsRun c.setting (pending_bits c.setting false (reference_at c.reference (c.blocks - c.run)) c.run) b result sink sink_new m m_new) → meter + m_new < 2 ^ 62
few_steps {c} h b e zero joins ends =
    let s = c.setting in
    elim (bool_cases (is_zero_block b)) [
      | inl z ↦ omega (arith, zero, (joins z).steps, h.steps_ahead, room_to_look h.meter_from h.ahead h.legal h.below h.steps)
      | inr z ↦
          let few : s.block * (min (best_split s b + 1) (k_max s) + 5) ≤ s.block * (k_max s + 5) = mul-le-mul_left s.block (omega arith) in
          omega (arith, zero, few, (ends z).steps_to, (room_next h b e z).steps)
    ]

some_block : (s : Parameters) → IsBlockSize s.block → 1 ≤ s.block
some_block s h = omega (arith, h.0)

pub of-residuals-requires : goal.of-residuals-requires
of-residuals-requires g c =
    let h = c.requires.room in
    let known = c.known_or-size.ensures ∙ c.block.ensures.value in
    subst (λ n. IsBlockSize (length (take n c.args.self.now.part))) (sym known) (subst IsBlockSize (sym (sound_next h).len) h.legal.block)

pub code_next_or_add_to_run-self-requires-clause-sound : goal.code_next_or_add_to_run-self-requires-clause-sound
code_next_or_add_to_run-self-requires-clause-sound g c =
    let h = c.requires.room in
    let r = c.args.self.now.reference in
    let e : c.new-block.result ≡ next_of h = c.new-block.ensures ∙
    (λ j. block_with ((c.reference_of.ensures ∙ ap (reference_at r) (sym h.number)) j)
    ((c.of-residuals.ensures ∙ ap (λ n. take n c.args.self.now.part) (c.known_or-size.ensures ∙ c.block.ensures.value)) j)) in
    subst (IsSoundData c.args.self.now.setting) (sym e) (sound_next h)

pub code_next_or_add_to_run-self-requires-clause-look : goal.code_next_or_add_to_run-self-requires-clause-look
code_next_or_add_to_run-self-requires-clause-look g c = let h = c.requires.room in omega (arith, h.steps_ahead, room_to_look h.meter_from h.ahead h.legal h.below h.steps)

pub code_next_or_add_to_run-self-requires-clause-room : goal.code_next_or_add_to_run-self-requires-clause-room
code_next_or_add_to_run-self-requires-clause-room g c =
    let h = c.requires.room in
    let r = c.args.self.now.reference in
    let e : c.new-block.result ≡ next_of h = c.new-block.ensures ∙
    (λ j. block_with ((c.reference_of.ensures ∙ ap (reference_at r) (sym h.number)) j)
    ((c.of-residuals.ensures ∙ ap (λ n. take n c.args.self.now.part) (c.known_or-size.ensures ∙ c.block.ensures.value)) j)) in
    λ other. (let room = room_next h c.new-block.result e other in record { room = room.room; steps = omega (arith, room.steps, c.new-steps.ensures) })

pub overflow_sub-self : goal.overflow_sub-self
overflow_sub-self g c =
    let h = c.requires.room in
    let put = grows c.args.self.now.setting _ _ _ _ _ _ _ _
    (some_block c.args.self.now.setting h.legal.block) c.code_next_or_add_to_run-self.ensures.joins c.code_next_or_add_to_run-self.ensures.ends in
    omega (arith, put.0, c.len.ensures.value, c.len-before.ensures.value)

pub overflow_add-self-3 : goal.overflow_add-self-3
overflow_add-self-3 g c =
    let h = c.requires.room in
    let r = c.args.self.now.reference in
    let e : c.new-block.result ≡ next_of h = c.new-block.ensures ∙
    (λ j. block_with ((c.reference_of.ensures ∙ ap (reference_at r) (sym h.number)) j)
    ((c.of-residuals.ensures ∙ ap (λ n. take n c.args.self.now.part) (c.known_or-size.ensures ∙ c.block.ensures.value)) j)) in
    let few = few_steps h c.new-block.result e c.new-steps.ensures c.code_next_or_add_to_run-self.ensures.joins c.code_next_or_add_to_run-self.ensures.ends in
    omega (arith, few, c.steps.ensures.value, h.steps_ahead)

pub tick-requires : goal.tick-requires
tick-requires g c =
    let h = c.requires.room in
    let r = c.args.self.now.reference in
    let e : c.new-block.result ≡ next_of h = c.new-block.ensures ∙
    (λ j. block_with ((c.reference_of.ensures ∙ ap (reference_at r) (sym h.number)) j)
    ((c.of-residuals.ensures ∙ ap (λ n. take n c.args.self.now.part) (c.known_or-size.ensures ∙ c.block.ensures.value)) j)) in
    let few = few_steps h c.new-block.result e c.new-steps.ensures c.code_next_or_add_to_run-self.ensures.joins c.code_next_or_add_to_run-self.ensures.ends in
    omega (arith, few, c.steps-2.ensures.value)

pub returns-clause-ahead : goal.returns-clause-ahead
returns-clause-ahead g c h =
    let s = c.args.self.now.setting in
    let r = c.args.self.now.reference in
    let run = c.args.self.now.run in
    let call = c.code_next_or_add_to_run-self in
    let e : c.new-block.result ≡ next_of h = c.new-block.ensures ∙
    (λ j. block_with ((c.reference_of.ensures ∙ ap (reference_at r) (sym h.number)) j)
    ((c.of-residuals.ensures ∙ ap (λ n. take n c.args.self.now.part) (c.known_or-size.ensures ∙ c.block.ensures.value)) j)) in
    let put = grows c.args.self.now.setting _ _ _ _ _ _ _ _ (some_block c.args.self.now.setting h.legal.block) call.ensures.joins call.ensures.ends in
    elim (bool_cases (is_zero_block c.new-block.result)) [
      | inl z ↦ ahead_of_zero h.ahead (is_next h) (sym (ap is_zero_block e) ∙ z) (call.ensures.joins z) (omega (arith, put.0, c.len.ensures.value, c.len-before.ensures.value, h.ahead.len))
          (omega (arith, put.1, c.steps.ensures.value, c.new-steps.ensures))
      | inr z ↦ ahead_of_other h.ahead (is_next h) (sym (ap is_zero_block e) ∙ z)
          (subst (λ n. EndsRun s (pending_bits s false (reference_at r (n - run)) run) (next_of h) call.result c.args.sink.now call.new.sink c.new-steps.result call.new.meter) (sym h.number)
          (subst (λ b. EndsRun s (pending_bits s false (reference_at r (c.args.self.now.blocks - run)) run) b call.result c.args.sink.now call.new.sink c.new-steps.result call.new.meter) e
          (call.ensures.ends z))) (omega (arith, put.0, c.len.ensures.value, c.len-before.ensures.value, h.ahead.len))
          (omega (arith, put.1, c.steps.ensures.value, c.new-steps.ensures))
    ]

pub returns-clause-meter : goal.returns-clause-meter
returns-clause-meter g c h =
    let call = c.code_next_or_add_to_run-self in
    let put = grows c.args.self.now.setting _ _ _ _ _ _ _ _ (some_block c.args.self.now.setting h.legal.block) call.ensures.joins call.ensures.ends in
    omega (arith, c.steps.ensures.value, c.steps-2.ensures.value, c.tick.ensures, h.steps_ahead)
