-- The code of the first blocks of a segment, but for the zero blocks that are pending, and one block more.
use Rattle.rice_fast.proofs.Words.{◌≡◌, ℕ, zero, suc, ◌+◌, ◌-◌, ◌*◌, ◌^◌, ◌<◌, ◌≤◌, Bool, true, false, List, [], ◌∷◌, ◌++◌, length, drop, refl, ap, arith, sym, ◌∙◌, subst, append_assoc, append-nil}
use Rattle.rice_fast.proofs.Words.{length_push, sum_by_push, other_same, length-append, Option, None, flat_map-append, drop_at, length-flat_map, mul-le-mul_right, mul-le-mul_left, take-length}
use Rattle.rice_fast.proofs.Words.{Parameters, IsLegal, k_max, blocks_left, some_left, block_bound, least_looks, most_looks, coding_steps, BlockData, is_zero_block, shortest, best_split, data_sets}
use Rattle.rice_fast.proofs.Words.{bits_of_set, bits_of_sets, cost, AreSoundBlocks, IsSoundBlock, HasRoomFor, pending_zeros, pending_run, pending_bits, reference_at, code_of_blocks, JoinsRun, EndsRun}
use Rattle.rice_fast.proofs.Words.{PutsBlocks, zero_block_is, blocks_are_bounded, segment_room, run_then_block, run_ends, zero_block_joins_run, left_inside, shortest_len, most_of_all, looks_zero}
use Rattle.rice_fast.proofs.Words.{looks_other, IsAhead, to_follow}
use Rattle.std.specs.Prelude.{sum_by}

-- before the first block nothing is ahead
pub none_ahead : (s : Parameters) (start : ℕ) (r : Option ℕ) (sink : List Bool) → IsAhead s start r 0 0 0 [] sink sink
none_ahead s start r sink = record {
  sound = tt;
  few = omega arith;
  inside = omega arith;
  same = λ more h. let e : start + 0 ≡ start = omega arith in ap (λ b. sink ++ bits_of_sets s (data_sets s b false more)) e;
  len = omega arith;
  least = omega arith;
  most = omega arith;
}

-- nor is anything put where no block is whole
pub record NothingAhead (run bits steps : ℕ) (sink from : List Bool) : Type 0 where
  pub run_is : run ≡ 0
  pub bits_are : bits ≡ 0
  pub steps_are : steps ≡ 0
  pub same : sink ≡ from

-- where no block is whole
pub nothing_ahead : {s : Parameters} {start : ℕ} {r : Option ℕ} (run : ℕ) {bits steps : ℕ} {sink from : List Bool} → IsAhead s start r run bits steps [] sink from
    → NothingAhead run bits steps sink from
nothing_ahead zero {bits} {steps} {sink} {from} h =
    let same : sink ≡ from = sym (append-nil sink) ∙ (h.same [] (omega arith) ∙ append-nil from) in
    let len = ap length same in
    let none : bits ≡ 0 = omega (arith, len, h.len) in
    record { run_is = refl; bits_are = none; steps_are = omega (arith, none, h.most); same = same }
nothing_ahead (suc run) h = absurd (omega (arith, h.inside))

-- there the reference of the segment does not matter yet
pub other_reference : {s : Parameters} {start : ℕ} {r : Option ℕ} (q : Option ℕ) (run : ℕ) {bits steps : ℕ} {sink from : List Bool} → IsAhead s start r run bits steps [] sink from
    → IsAhead s start q run bits steps [] sink from
other_reference q zero h = record {
  sound = h.sound;
  few = h.few;
  inside = h.inside;
  same = h.same;
  len = h.len;
  least = h.least;
  most = h.most;
}
other_reference q (suc run) h = absurd (omega (arith, h.inside))

-- the last of several sound blocks is sound at its place
pub last_sound : (s : Parameters) (b : ℕ) (cs : List BlockData) (c : BlockData) → AreSoundBlocks s b (cs ++ c ∷ []) → IsSoundBlock s (b + length cs) c
last_sound s b [] c h = let e : b ≡ b + 0 = omega arith in subst (λ n. IsSoundBlock s n c) e h.0
last_sound s b (d ∷ cs) c h = let e : b + 1 + length cs ≡ b + suc (length cs) = omega arith in subst (λ n. IsSoundBlock s n c) e (last_sound s (b + 1) cs c h.1)

run_is_inside : (s : Parameters) (start n run : ℕ) → 1 ≤ s.interval → run ≤ n → n < blocks_left s start → run < blocks_left s (start + (n - run))
run_is_inside s start n run h k l = let e = left_inside s start (n - run) h (omega arith) in omega (arith, e)

reference_later : (r : Option ℕ) (n run : ℕ) → run ≤ n → 0 < run → reference_at r n ≡ None
reference_later r zero run h k = absurd (omega arith)
reference_later r (suc n) run h k = refl

-- before a block that is not zero the code of the run comes, and then the shortest code of the block
pub before_other : (s : Parameters) (start : ℕ) (r : Option ℕ) (n run : ℕ) (c : BlockData) (more : List BlockData) → 1 ≤ s.interval → run ≤ n → n < blocks_left s start
    → is_zero_block c ≡ false → to_follow s start r n run (c ∷ more) ≡ pending_bits s false (reference_at r (n - run)) run ++ (bits_of_set s (shortest s c) ++ to_follow s start r (n + 1) 0 more)
before_other s start r n run c more h k l z =
    let b = start + (n - run) in
    let w = pending_run false (reference_at r (n - run)) run in
    let f = run_then_block s b run (reference_at r (n - run)) c more h (run_is_inside s start n run h k l) z in
    let g : b + run + 1 ≡ start + (n + 1 - 0) = omega arith in
    ap (bits_of_sets s) (f ∙ ap (λ m. w ++ shortest s c ∷ data_sets s m false more) g)
    ∙ flat_map-append (bits_of_set s) w (shortest s c ∷ data_sets s (start + (n + 1 - 0)) false more)

-- a zero block joins the run
pub zero_joins : (s : Parameters) (start : ℕ) (r : Option ℕ) (n run : ℕ) (c : BlockData) (more : List BlockData) → run ≤ n → IsSoundBlock s (start + n) c
    → c.reference ≡ reference_at r n → is_zero_block c ≡ true → to_follow s start r n run (c ∷ more) ≡ to_follow s start r (n + 1) (run + 1) more
zero_joins s start r n run c more h sound e z =
    let zeros = zero_block_is s (start + n) c sound.block z in
    let f = zero_block_joins_run s run (reference_at r (n - run)) c.reference c more zeros (λ none. e ∙ ap (reference_at r) (omega arith)) (λ k. e ∙ reference_later r n run h k) in
    let g : n - run ≡ n + 1 - (run + 1) = omega arith in
    ap (λ cs. bits_of_sets s (data_sets s (start + (n - run)) false cs)) f
    ∙ ap (λ m. bits_of_sets s (data_sets s (start + m) false (pending_zeros s (reference_at r m) (run + 1) ++ more))) g

-- The block c stands next in the segment, and is sound there.
pub record IsNext (s : Parameters) (start : ℕ) (r : Option ℕ) (blocks : List BlockData) (c : BlockData) : Type 0 where
  pub legal : IsLegal s
  pub below : length blocks < blocks_left s start
  pub reference : c.reference ≡ reference_at r (length blocks)
  pub sound : AreSoundBlocks s start (blocks ++ c ∷ [])

-- after a zero block, which is pending then,
pub ahead_of_zero : {s : Parameters} {start : ℕ} {r : Option ℕ} {run bits steps : ℕ} {blocks : List BlockData} {c : BlockData} {sink from : List Bool} {run_new bits_new steps_new meter meter_new : ℕ}
    {sink_new : List Bool} → IsAhead s start r run bits steps blocks sink from → IsNext s start r blocks c → is_zero_block c ≡ true → JoinsRun s run run_new sink sink_new meter meter_new
    → length sink_new ≡ length from + bits_new → meter_new + steps ≡ meter + steps_new → IsAhead s start r run_new bits_new steps_new (blocks ++ c ∷ []) sink_new from
ahead_of_zero {s} {start} {r} {run} {bits} {steps} {blocks} {c} {sink} {from} {run_new} {bits_new} {steps_new} {meter} {meter_new} {sink_new} h next z joins len step =
    let n = length blocks in
    let count = length_push blocks c in
    let looks = looks_zero s c z in
    let put = ap length joins.bits in
    record {
      sound = next.sound;
      few = omega (arith, count, next.below);
      inside = omega (arith, count, joins.run_is, h.inside);
      same = λ more fits.
          let follow = zero_joins s start r n run c more h.inside (last_sound s start blocks c next.sound) next.reference z in
          let placed : to_follow s start r (length (blocks ++ c ∷ [])) run_new more ≡ to_follow s start r (n + 1) (run + 1) more = λ i. to_follow s start r (count i) (joins.run_is i) more in
          (λ i. joins.bits i ++ (placed ∙ sym follow) i)
          ∙ (h.same (c ∷ more) (omega (arith, count, fits)) ∙ ap (λ v. from ++ code_of_blocks s start v) (sym (append_assoc blocks (c ∷ []) more)));
      len = len;
      least = omega (arith, sum_by_push (least_looks s) blocks c, looks.0, h.least, h.len, len, put, step, joins.steps);
      most = omega (arith, sum_by_push (most_looks s) blocks c, looks.1, h.most, h.len, len, put, step, joins.steps);
    }

-- and after another block, which ends the run
pub ahead_of_other : {s : Parameters} {start : ℕ} {r : Option ℕ} {run bits steps : ℕ} {blocks : List BlockData} {c : BlockData} {sink from : List Bool} {run_new bits_new steps_new meter meter_new : ℕ}
    {sink_new : List Bool} → IsAhead s start r run bits steps blocks sink from → IsNext s start r blocks c → is_zero_block c ≡ false
    → EndsRun s (pending_bits s false (reference_at r (length blocks - run)) run) c run_new sink sink_new meter meter_new
    → length sink_new ≡ length from + bits_new → meter_new + steps ≡ meter + steps_new → IsAhead s start r run_new bits_new steps_new (blocks ++ c ∷ []) sink_new from
ahead_of_other {s} {start} {r} {run} {bits} {steps} {blocks} {c} {sink} {from} {run_new} {bits_new} {steps_new} {meter} {meter_new} {sink_new} h next z ends len step =
    let n = length blocks in
    let count = length_push blocks c in
    let looks = looks_other s c z in
    let one : 1 ≤ s.block = grind (arith, next.legal.block) in
    let w = pending_bits s false (reference_at r (n - run)) run in
    record {
      sound = next.sound;
      few = omega (arith, count, next.below);
      inside = omega (arith, ends.run_is);
      same = λ more fits.
          let follow = before_other s start r n run c more next.legal.interval_from h.inside next.below z in
          let placed : to_follow s start r (length (blocks ++ c ∷ [])) run_new more ≡ to_follow s start r (n + 1) 0 more = λ i. to_follow s start r (count i) (ends.run_is i) more in
          ap (λ v. sink_new ++ v) placed
          ∙ other_same sink sink_new w (bits_of_set s (shortest s c)) (to_follow s start r (n + 1) 0 more) (from ++ code_of_blocks s start ((blocks ++ c ∷ []) ++ more)) ends.bits
          (ap (λ v. sink ++ v) (sym follow)
          ∙ (h.same (c ∷ more) (omega (arith, count, fits)) ∙ ap (λ v. from ++ code_of_blocks s start v) (sym (append_assoc blocks (c ∷ []) more))));
      len = len;
      least = rw (sum_by_push (least_looks s) blocks c, looks.0) (fewest _ _ _ s.block (best_split s c) one (omega (arith, h.least, h.len, len, ends.len, step, ends.steps_from)));
      most = omega (arith, sum_by_push (most_looks s) blocks c, looks.1, h.most, h.len, len, ends.len, step, ends.steps_to);
    }
  where
    fewest : (bits total steps j k : ℕ) → 1 ≤ j → bits + total + j * (k + 4) ≤ steps + 1 → bits + (total + (j * (k + 3) - 1)) ≤ steps
    fewest bits total steps j k one h = let e : j * (k + 4) ≡ j * (k + 3) + j = omega arith in omega (arith, e, h)

-- the code of sound blocks is short
pub code_is_short : (s : Parameters) (start : ℕ) (cs : List BlockData) → IsLegal s → AreSoundBlocks s start cs → length (code_of_blocks s start cs) ≤ length cs * block_bound s
code_is_short s start cs legal sound =
    at_most (length (code_of_blocks s start cs)) _ (length cs) (block_bound s) (blocks_are_bounded s start false cs legal sound) (length-flat_map (bits_of_set s) (data_sets s start false cs))
  where
    at_most : (x y n m : ℕ) → y + 0 * m ≤ n * m → x ≡ y → x ≤ n * m
    at_most x y n m h e = omega (arith, h, e)

-- so is that of a segment's blocks,
pub segment_is_short : (s : Parameters) (start : ℕ) (cs : List BlockData) → IsLegal s → AreSoundBlocks s start cs → length cs ≤ blocks_left s start → length (code_of_blocks s start cs) ≤ 131392
segment_is_short s start cs legal sound few =
    let left = some_left s start legal.interval_from in
    omega (arith, code_is_short s start cs legal sound, segment_room s (length cs) legal (omega (arith, left.1, few)))

-- and the looks at their residuals are few
pub looks_are_few : (s : Parameters) (cs : List BlockData) → sum_by (most_looks s) cs ≤ length cs * (s.block * (k_max s + 5))
looks_are_few s cs = let all = ap (sum_by (most_looks s)) (take-length cs) in omega (arith, all, most_of_all s (length cs) cs)

-- steps that are ahead, and those of what is put next, are at most those of 64 blocks
of_64_blocks : {steps : ℕ} (bits total n bound looks put more : ℕ) → n ≤ 64 → steps ≤ bits + total → total + more ≤ n * looks → bits + put ≤ n * bound → steps + put + more ≤ 64 * (bound + looks)
of_64_blocks bits total n bound looks put more few grown by_blocks short =
    let all : n * (bound + looks) ≤ 64 * (bound + looks) = mul-le-mul_right (bound + looks) few in
    omega (arith, all, grown, by_blocks, short)

-- The bits that are ahead are those of whole blocks, or fewer,
bits_are_few : {s : Parameters} {start : ℕ} {r : Option ℕ} {run bits steps : ℕ} {blocks : List BlockData} {sink from : List Bool} → IsAhead s start r run bits steps blocks sink from
    → bits ≤ length (code_of_blocks s start blocks)
bits_are_few {s} {start} {r} {run} {bits} {steps} {blocks} {sink} {from} h =
    let whole = ap length (h.same [] (omega (arith, h.few))) in
    omega (arith, h.len, length-append {A = Bool}, ap (λ v. length (code_of_blocks s start v)) (append-nil blocks))

-- and the steps are fewer than those of a whole segment.
pub steps_are_few : {s : Parameters} {start : ℕ} {r : Option ℕ} {run bits steps : ℕ} {blocks : List BlockData} {sink from : List Bool} → IsAhead s start r run bits steps blocks sink from → IsLegal s
    → steps ≤ coding_steps s
steps_are_few {s} {start} {r} {run} {bits} {steps} {blocks} {sink} {from} h legal =
    let left = some_left s start legal.interval_from in
    let all = of_64_blocks _ _ (length blocks) (block_bound s) (s.block * (k_max s + 5)) 0 0 (omega (arith, left.1, h.few)) h.most (omega (arith, looks_are_few s blocks))
    (omega (arith, bits_are_few h, code_is_short s start blocks legal h.sound)) in
    omega (arith, all)

-- There is room for the look at a block, and for what a block that is not zero puts.
pub room_to_look : {s : Parameters} {start : ℕ} {r : Option ℕ} {run bits steps : ℕ} {blocks : List BlockData} {sink from : List Bool} (m : ℕ) → IsAhead s start r run bits steps blocks sink from
    → IsLegal s → length blocks < blocks_left s start → m + coding_steps s < 2 ^ 62 → m + steps + s.block < 2 ^ 62
room_to_look {s} {start} {r} {run} {bits} {steps} {blocks} {sink} {from} m h legal below fits =
    let left = some_left s start legal.interval_from in
    let short = code_is_short s start blocks legal h.sound in
    let some : s.block * 1 ≤ s.block * (k_max s + 5) = mul-le-mul_left s.block (omega arith) in
    let n = length blocks in
    let looks = s.block * (k_max s + 5) in
    let all = of_64_blocks _ _ (n + 1) (block_bound s) looks 0 looks (omega (arith, left.1, below)) h.most (omega (arith, looks_are_few s blocks)) (omega (arith, bits_are_few h, short)) in
    omega (arith, all, some, fits)

-- and for what a block that is not zero puts
pub room_for_other : {s : Parameters} {start : ℕ} {r : Option ℕ} {run bits steps : ℕ} {blocks : List BlockData} {c : BlockData} {sink from : List Bool} (m : ℕ)
    → IsAhead s start r run bits steps blocks sink from → IsNext s start r blocks c → is_zero_block c ≡ false → length from ≤ 7 → m + coding_steps s < 2 ^ 62
    → HasRoomFor (length (pending_bits s false (reference_at r (length blocks - run)) run) + cost s (shortest s c))
    (length (pending_bits s false (reference_at r (length blocks - run)) run) + cost s (shortest s c) + s.block * (k_max s + 5)) (length sink) (m + steps)
room_for_other {s} {start} {r} {run} {bits} {steps} {blocks} {c} {sink} {from} m h next z little fits =
    let legal = next.legal in
    let left = some_left s start legal.interval_from in
    let n = length blocks in
    let one : 1 ≤ s.block = grind (arith, legal.block) in
    let count = length_push blocks c in
    let w = pending_bits s false (reference_at r (n - run)) run in
    let x = bits_of_set s (shortest s c) in
    let y = to_follow s start r (n + 1) 0 [] in
    let cs = blocks ++ c ∷ [] in
    let follow = before_other s start r n run c [] legal.interval_from h.inside next.below z in
    let whole = ap length (ap (λ v. sink ++ v) (sym follow) ∙ h.same (c ∷ []) (omega (arith, next.below))) in
    let lens = shortest_len s (start + n) c one (last_sound s start blocks c next.sound) in
    let put : length sink + (length w + cost s (shortest s c)) ≤ length from + length (code_of_blocks s start cs) = omega (arith, length-append {A = Bool}) in
    let short = code_is_short s start cs legal next.sound in
    let small = segment_is_short s start cs legal next.sound (omega (arith, count, next.below)) in
    let looks = s.block * (k_max s + 5) in
    let shorter : bits + (length w + cost s (shortest s c)) ≤ (n + 1) * block_bound s = within (length cs) (n + 1) (block_bound s) count short (omega (arith, put, h.len)) in
    let all = of_64_blocks _ _ (n + 1) (block_bound s) looks (length w + cost s (shortest s c)) looks (omega (arith, left.1, next.below)) h.most (omega (arith, looks_are_few s blocks)) shorter in
    record { room = omega (arith, put, small, little); steps = omega (arith, all, fits) }
  where
    within : {a x : ℕ} (k n bound : ℕ) → k ≡ n → x ≤ k * bound → a ≤ x → a ≤ n * bound
    within {a} {x} k n bound e h g = subst (λ v. a ≤ v * bound) e (omega (arith, h, g))

-- At the end only the code of the run is still to come.
pub end_follows : {s : Parameters} {start : ℕ} {r : Option ℕ} {run bits steps : ℕ} {blocks : List BlockData} {sink from : List Bool} → IsAhead s start r run bits steps blocks sink from
    → 1 ≤ s.interval → sink ++ pending_bits s true (reference_at r (length blocks - run)) run ≡ from ++ code_of_blocks s start blocks
end_follows {s} {start} {r} {run} {bits} {steps} {blocks} {sink} {from} h some =
    let n = length blocks in
    let b = start + (n - run) in
    let ends : to_follow s start r n run [] ≡ pending_bits s true (reference_at r (n - run)) run = ap (λ cs. bits_of_sets s (data_sets s b false cs))
    (append-nil (pending_zeros s (reference_at r (n - run)) run))
    ∙ ap (bits_of_sets s) (run_ends s b run (reference_at r (n - run)) some (enough run h.inside)) in
    ap (λ v. sink ++ v) (sym ends) ∙ (h.same [] (omega (arith, h.few)) ∙ ap (λ v. from ++ code_of_blocks s start v) (append-nil blocks))
  where
    enough : (run : ℕ) → run ≤ length blocks → run ≤ blocks_left s (start + (length blocks - run))
    enough zero l = omega arith
    enough (suc w) l = let e = left_inside s start (length blocks - suc w) some (omega (arith, h.few, l)) in omega (arith, e, h.few, l)

-- which has room,
pub room_for_end : {s : Parameters} {start : ℕ} {r : Option ℕ} {run bits steps : ℕ} {blocks : List BlockData} {sink from : List Bool} (m : ℕ) → IsAhead s start r run bits steps blocks sink from
    → IsLegal s → length from ≤ 7 → m + coding_steps s < 2 ^ 62
    → HasRoomFor (length (pending_bits s true (reference_at r (length blocks - run)) run)) (length (pending_bits s true (reference_at r (length blocks - run)) run)) (length sink) (m + steps)
room_for_end {s} {start} {r} {run} {bits} {steps} {blocks} {sink} {from} m h legal little fits =
    let n = length blocks in
    let left = some_left s start legal.interval_from in
    let w = pending_bits s true (reference_at r (n - run)) run in
    let whole = ap length (end_follows h legal.interval_from) in
    let put : length sink + length w ≡ length from + length (code_of_blocks s start blocks) = omega (arith, whole, length-append sink w, length-append from (code_of_blocks s start blocks)) in
    let small = segment_is_short s start blocks legal h.sound h.few in
    let looks = s.block * (k_max s + 5) in
    let short = code_is_short s start blocks legal h.sound in
    let all = of_64_blocks _ _ n (block_bound s) looks (length w) 0 (omega (arith, left.1, h.few)) h.most (omega (arith, looks_are_few s blocks)) (omega (arith, put, h.len, short)) in
    record { room = omega (arith, put, small, little); steps = omega (arith, all, fits) }

-- and with which the code of all blocks is put.
pub end_puts : {s : Parameters} {start : ℕ} {r : Option ℕ} {run bits steps : ℕ} {blocks : List BlockData} {sink from sink_new : List Bool} {meter meter_new : ℕ} (m : ℕ)
    → IsAhead s start r run bits steps blocks sink from → 1 ≤ s.interval → sink_new ≡ sink ++ pending_bits s true (reference_at r (length blocks - run)) run
    → meter ≡ m + steps → meter_new ≡ meter + length (pending_bits s true (reference_at r (length blocks - run)) run) → PutsBlocks s start blocks from sink_new m meter_new
end_puts {s} {start} {r} {run} {bits} {steps} {blocks} {sink} {from} m h some put counted ticks =
    let w = pending_bits s true (reference_at r (length blocks - run)) run in
    let all = end_follows h some in
    let whole = ap length all in
    let lens : length sink + length w ≡ length from + length (code_of_blocks s start blocks) = omega (arith, whole, length-append sink w, length-append from (code_of_blocks s start blocks)) in
    record { bits = put ∙ all; steps_from = omega (arith, lens, h.len, h.least, counted, ticks); steps_to = omega (arith, lens, h.len, h.most, counted, ticks) }

-- Where no bits are ahead, the bits before them do not matter.
pub ahead_with : {s : Parameters} {start : ℕ} {r : Option ℕ} {run bits steps : ℕ} {blocks : List BlockData} {sink from : List Bool} → IsAhead s start r run bits steps blocks sink from → from ≡ sink
    → (others : List Bool) → IsAhead s start r run bits steps blocks others others
ahead_with {s} {start} {r} {run} {blocks = blocks} {sink} {from} h none others = record {
  sound = h.sound;
  few = h.few;
  inside = h.inside;
  same = λ more fits. ap (λ v. others ++ v)
      (rest (to_follow s start r (length blocks) run more) (code_of_blocks s start (blocks ++ more)) (h.same more fits ∙ ap (λ v. v ++ code_of_blocks s start (blocks ++ more)) none));
  len = omega (arith, h.len, ap length none);
  least = h.least;
  most = h.most;
}
  where
    rest : (x y : List Bool) → sink ++ x ≡ sink ++ y → x ≡ y
    rest x y e = sym (drop_at sink x (length sink) refl) ∙ ap (drop (length sink)) e ∙ drop_at sink y (length sink) refl
