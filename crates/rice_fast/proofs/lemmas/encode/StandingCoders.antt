-- What the fast coder stands for, from call to call.
use Rattle.rice_fast.proofs.Words.{◌≡◌, ℕ, zero, suc, ◌+◌, ◌*◌, ◌^◌, ◌<◌, ◌≤◌, Bool, List, [], ◌∷◌, ◌++◌, length, take, drop, refl, ap, arith, sym, ◌∙◌, subst, inl, inr, append-nil, Option, None, ℤ}
use Rattle.rice_fast.proofs.Words.{list_all, cases_lt, length-take-le, take-append-drop, drop_at, mul-le-mul_left, Parameters, IsLegal, value_at, value_count, blocks_left, some_left, coding_steps}
use Rattle.rice_fast.proofs.Words.{All, BlockData, IsBlockSize, IsSoundData, sound_of, segment_steps, AreSoundBlocks, block_with, HasTaken, IsCoder, JoinsRun, held_blocks, reference_at, CoderState}
use Rattle.rice_fast.proofs.Words.{IsOpen, HoldsSoundBlocks, IsWhole, state_after_all}
use Rattle.rice_fast.proofs.Words.{state_between, held_len, open_between, short_of, steps_of_segment, HoldsMore, open_pushes, is_coder_after, length-state_after_all, state_after_all-none}
use Rattle.rice_fast.proofs.Words.{HasRoomForBlock, HoldsOpen, IsAhead, PushesOpen, StandsAfter, StandsFor, StandsWith, coder_between, coder_with, whole_part, with_block, HasRoomAt, Standing}
use Rattle.rice_fast.proofs.Words.{BlockCoder}
use Rattle.std.specs.Prelude.{◌⊎◌, ◌==◌, true}
use Rattle.rice_fast.proofs.lemmas.encode.CodeAhead.{IsNext, ahead_of_zero, ahead_with, last_sound, none_ahead, nothing_ahead, other_reference, room_to_look, steps_are_few}
use Rattle.rice_fast.proofs.lemmas.encode.HeldResiduals.{held_more, held_next, sound_after, blocks_are_sound}

-- a coder between two calls has taken no sample in the next
pub after_none : {c : BlockCoder} {sink : List Bool} {meter : ℕ} {m : Standing} → StandsFor c sink meter m → StandsAfter c sink meter m []
after_none {c} {sink} {meter} {m} h =
    let same : m.meter ≡ m.meter + 0 = omega arith in
    record {
      room = h.room;
      held = omega (arith, h.held);
      stands = record {
        coded = h.coded;
        legal = tt;
        residuals = h.residuals;
        coder = state_after_all-none m.coder [] refl ∙ h.coder;
        holds = subst (λ v. HoldsOpen c (take c.held c.part) sink meter h.residuals m.sink v) same h.holds;
      };
    }

-- the blocks of a segment are few
pub few_blocks : {c : BlockCoder} {row : List ℕ} {sink : List Bool} {meter : ℕ} {ds : List ℕ} {from : List Bool} {m : ℕ} → HoldsOpen c row sink meter ds from m → c.end ≤ 64
few_blocks {c} h = let left = some_left c.setting c.start h.opens.legal.interval_from in omega (arith, left.1, h.ends)

-- no more blocks are whole than the segment has,
pub blocks_inside : {c : BlockCoder} {row : List ℕ} {sink : List Bool} {meter : ℕ} {ds : List ℕ} {from : List Bool} {m : ℕ} → HoldsOpen c row sink meter ds from m
    → c.setting.block * c.blocks + length row ≤ c.setting.block * c.end
blocks_inside {c} h = let all = ap (λ n. c.setting.block * n) h.ends in omega (arith, all, h.number, h.opens.few)

-- nor do their samples count as more
pub blocks_few : {c : BlockCoder} {row : List ℕ} {sink : List Bool} {meter : ℕ} {ds : List ℕ} {from : List Bool} {m : ℕ} → HoldsOpen c row sink meter ds from m → c.blocks ≤ c.end
blocks_few {c} {ds = ds} h = let few = h.ahead.few in let count = held_len c.setting c.reference c.blocks ds in omega (arith, few, count, h.ends)

-- those that are pending are some of them
pub run_inside : {c : BlockCoder} {row : List ℕ} {sink : List Bool} {meter : ℕ} {ds : List ℕ} {from : List Bool} {m : ℕ} → HoldsOpen c row sink meter ds from m → c.run ≤ c.blocks
run_inside {c} {ds = ds} h = omega (arith, h.ahead.inside, held_len c.setting c.reference c.blocks ds)

-- and fewer where part of one is held, or the segment is open
pub still_open : (j blocks end held : ℕ) → held < j → blocks < end → j * blocks + held < j * end
still_open j blocks end held part less = let all : j * suc blocks ≤ j * end = mul-le-mul_left j less in omega (arith, all, part)

-- the residuals of all samples of the segment
pub residuals_counted : {c : BlockCoder} {row : List ℕ} {sink : List Bool} {meter : ℕ} {m : Standing} {xs : List ℤ} → (h : StandsWith c row sink meter m xs)
    → length m.coder.residuals + length xs ≡ c.setting.block * c.blocks + length row
residuals_counted {m = m} {xs = xs} h = omega (arith, length-state_after_all m.coder xs, ap (λ (v : CoderState). length v.residuals) h.coder, h.holds.number)

-- the meter has room for the samples of the segment, and for its code
pub meter_after : {c : BlockCoder} {row : List ℕ} {sink : List Bool} {meter : ℕ} {m : Standing} {xs : List ℤ} (n : ℕ) → StandsWith c row sink meter m xs → HasRoomAt m
    → c.setting.block * c.blocks + length row + n ≤ c.setting.block * c.end → m.meter + length xs + n + coding_steps c.setting < 2 ^ 62
meter_after {c} {row} {sink} {meter} {m} {xs} n h room fits =
    let s = c.setting in
    let same = ap (λ (v : CoderState). segment_steps v.setting) h.coder in
    let most : s.block * c.end ≤ s.block * 64 = mul-le-mul_left s.block (few_blocks h.holds) in
    omega (arith, same, most, fits, room.steps, steps_of_segment s, residuals_counted h)

-- also with the steps that are ahead
pub meter_has_room : {c : BlockCoder} {row : List ℕ} {sink : List Bool} {meter : ℕ} {m : Standing} {xs : List ℤ} (n : ℕ) → StandsWith c row sink meter m xs → HasRoomAt m
    → c.setting.block * c.blocks + length row + n ≤ c.setting.block * c.end → meter + n < 2 ^ 62
meter_has_room n h room fits = omega (arith, meter_after n h room fits, steps_are_few h.holds.ahead h.holds.opens.legal, h.holds.steps_ahead)

-- sound blocks of all residuals, where they make whole blocks
pub blocks_sound : {c : BlockCoder} {row : List ℕ} {sink : List Bool} {meter : ℕ} {m : Standing} {xs : List ℤ} (n : ℕ) → (h : StandsWith c row sink meter m xs) → n ≤ c.end
    → length h.residuals ≡ c.setting.block * n → AreSoundBlocks c.setting c.start (held_blocks c.setting c.reference n h.residuals)
blocks_sound {c} {row} {sink} {meter} {m} {xs} n h few whole =
    let one : 1 ≤ c.setting.block = grind (arith, h.holds.opens.legal.block) in
    let same = h.coder in
    let left : n ≤ blocks_left m.coder.setting m.coder.start = omega (arith, few, h.holds.ends, ap (λ (v : CoderState). blocks_left v.setting v.start) same) in
    let count : length m.coder.residuals + length xs ≡ m.coder.setting.block * n =
    sym (length-state_after_all m.coder xs) ∙ (ap (λ (v : CoderState). length v.residuals) same ∙ (whole ∙ ap (λ (v : CoderState). v.setting.block * n) (sym same))) in
    let sound : HoldsSoundBlocks (coder_with c h.residuals) = subst HoldsSoundBlocks same (sound_after m.coder xs n h.coded h.legal count left) in
    blocks_are_sound (coder_with c h.residuals) n one whole sound

-- a row that is a block makes one block more
pub next_block : {c : BlockCoder} {row : List ℕ} {sink : List Bool} {meter : ℕ} {ds : List ℕ} {from : List Bool} {m : ℕ} → HoldsOpen c row sink meter ds from m → length row ≡ c.setting.block
    → held_blocks c.setting c.reference (c.blocks + 1) ds ≡ held_blocks c.setting c.reference c.blocks ds ++ block_with (reference_at c.reference c.blocks) row ∷ []
next_block {c} {row} {ds = ds} h whole =
    let s = c.setting in
    let front = take (s.block * c.blocks) ds in
    let len : length front ≡ s.block * c.blocks = length-take-le (s.block * c.blocks) ds (omega (arith, h.number)) in
    let parts : ds ≡ front ++ row = sym (take-append-drop (s.block * c.blocks) ds) ∙ ap (λ v. front ++ v) h.part in
    ap (held_blocks s c.reference (c.blocks + 1)) parts
    ∙ (held_next s c.reference c.blocks front row len whole
    ∙ ap (λ v. v ++ block_with (reference_at c.reference c.blocks) row ∷ [])
    (sym (held_more s c.reference c.blocks front row (omega (arith, len))) ∙ ap (held_blocks s c.reference c.blocks) (sym parts)))

-- which is sound,
pub next_is : {c : BlockCoder} {row : List ℕ} {sink : List Bool} {meter : ℕ} {m : Standing} {xs : List ℤ} (h : StandsWith c row sink meter m xs) → length row ≡ c.setting.block → c.blocks < c.end
    → let blocks = held_blocks c.setting c.reference c.blocks h.residuals in IsNext c.setting c.start c.reference blocks (block_with (reference_at c.reference (length blocks)) row)
next_is {c} {row} h whole less =
    let s = c.setting in
    let holds = h.holds in
    let count = held_len s c.reference c.blocks h.residuals in
    let more : s.block * (c.blocks + 1) ≤ s.block * c.end = mul-le-mul_left s.block (omega (arith, less)) in
    let sound = blocks_sound (c.blocks + 1) h (omega (arith, less)) (omega (arith, holds.number, whole)) in
    record {
      legal = holds.opens.legal;
      below = omega (arith, count, less, holds.ends);
      reference = refl;
      sound = subst (AreSoundBlocks s c.start)
          (next_block holds whole ∙ ap (λ n. held_blocks s c.reference c.blocks h.residuals ++ block_with (reference_at c.reference n) row ∷ []) (sym count)) sound;
    }

-- has room,
pub steps_after : {c : BlockCoder} {row : List ℕ} {sink : List Bool} {meter : ℕ} {m : Standing} {xs : List ℤ} → StandsWith c row sink meter m xs → HasRoomAt m
    → m.meter + length xs + coding_steps c.setting < 2 ^ 62
steps_after h room = let all = meter_after 0 h room (omega (arith, blocks_inside h.holds)) in omega (arith, all)

-- can be looked at,
pub room_for_look : {c : BlockCoder} {row : List ℕ} {sink : List Bool} {meter : ℕ} {m : Standing} {xs : List ℤ} → StandsWith c row sink meter m xs → HasRoomAt m → length row ≡ c.setting.block
    → c.blocks < c.end → meter + c.setting.block < 2 ^ 62
room_for_look {m = m} {xs} h room whole less =
    let next = next_is h whole less in
    omega (arith, h.holds.steps_ahead, room_to_look (m.meter + length xs) h.holds.ahead next.legal next.below (steps_after h room))

-- can be put,
unfoldable pub part_has_room : {c : BlockCoder} {sink : List Bool} {meter : ℕ} {m : Standing} {xs : List ℤ} → StandsWith c (whole_part c) sink meter m xs → HasRoomAt m
    → length (whole_part c) ≡ c.setting.block → c.blocks < c.end → HasRoomForBlock c sink meter
part_has_room {c} {sink} {meter} {m} {xs} h room whole less =
    let s = c.setting in
    let holds = h.holds in
    let next = next_is h whole less in
    record {
      blocks = held_blocks s c.reference c.blocks h.residuals;
      from = m.sink;
      meter_from = m.meter + length xs;
      number = held_len s c.reference c.blocks h.residuals;
      legal = holds.opens.legal;
      fits = holds.opens.reference;
      ahead = holds.ahead;
      sound = next.sound;
      below = next.below;
      steps_ahead = holds.steps_ahead;
      room = room.room;
      steps = steps_after h room;
    }

-- the block that the part is
abbrev pub next_of : {c : BlockCoder} {sink : List Bool} {meter : ℕ} → HasRoomForBlock c sink meter → BlockData
next_of {c} h = block_with (reference_at c.reference (length h.blocks)) (whole_part c)

-- It is the next of them,
pub is_next : {c : BlockCoder} {sink : List Bool} {meter : ℕ} (h : HasRoomForBlock c sink meter) → IsNext c.setting c.start c.reference h.blocks (next_of h)
is_next h = record { legal = h.legal; below = h.below; reference = refl; sound = h.sound }

-- and sound.
pub sound_next : {c : BlockCoder} {sink : List Bool} {meter : ℕ} (h : HasRoomForBlock c sink meter) → IsSoundData c.setting (next_of h)
sound_next {c} h = sound_of c.setting (c.start + length h.blocks) (next_of h) (last_sound c.setting c.start h.blocks (next_of h) h.sound)

-- and of which each residual fits,
pub part_fits : {c : BlockCoder} {sink : List Bool} {meter : ℕ} (h : HasRoomForBlock c sink meter) (n : ℕ) → n ≡ c.setting.block
    → IsBlockSize (length (take n c.part)) × All (λ d. d < value_count c.setting) (take n c.part)
part_fits {c} h n e =
    subst (λ (n : ℕ). IsBlockSize (length (take n c.part)) × All (λ d. d < value_count c.setting) (take n c.part)) (sym e)
    (subst IsBlockSize (sym (sound_next h).len) h.legal.block, (sound_next h).fit)

-- and then it is coded: what is put of it is ahead
pub row_is_put : {c : BlockCoder} {row : List ℕ} {sink sink_new : List Bool} {meter meter_new : ℕ} {m : Standing} {xs : List ℤ} (run bits steps : ℕ) → (h : StandsWith c row sink meter m xs)
    → length row ≡ c.setting.block → c.blocks < c.end → IsAhead c.setting c.start c.reference run bits steps
    (held_blocks c.setting c.reference c.blocks h.residuals ++ block_with (reference_at c.reference (length (held_blocks c.setting c.reference c.blocks h.residuals))) row ∷ []) sink_new m.sink
    → meter_new ≡ m.meter + length xs + steps → StandsWith (with_block c run bits steps) [] sink_new meter_new m xs
row_is_put {c} {row} {sink} {sink_new} {meter} {meter_new} {m} {xs} run bits steps h whole less ahead ticks =
    let s = c.setting in
    let holds = h.holds in
    let count = held_len s c.reference c.blocks h.residuals in
    let number : length h.residuals ≡ s.block * (c.blocks + 1) + 0 = omega (arith, holds.number, whole) in
    record {
      coded = h.coded;
      legal = h.legal;
      residuals = h.residuals;
      coder = h.coder;
      holds = record {
        opens = holds.opens;
        ends = holds.ends;
        below = holds.below;
        number = number;
        fits = omega arith;
        part = drop_whole (s.block * (c.blocks + 1)) h.residuals (omega (arith, number));
        steps_ahead = ticks;
        ahead = subst (λ cs. IsAhead s c.start c.reference run bits steps cs sink_new m.sink)
            (ap (λ n. held_blocks s c.reference c.blocks h.residuals ++ block_with (reference_at c.reference n) row ∷ []) count ∙ sym (next_block holds whole)) ahead;
      };
    }
  where
    drop_whole : (n : ℕ) (ds : List ℕ) → length ds ≡ n → drop n ds ≡ []
    drop_whole n ds e = ap (λ v. drop n v) (sym (append-nil ds)) ∙ drop_at ds [] n e

-- Of a row of zeros nothing is put: it is looked at, and pending.
pub zeros_are_put : {c : BlockCoder} {row : List ℕ} {sink : List Bool} {meter : ℕ} {m : Standing} {xs : List ℤ} → StandsWith c row sink meter m xs → length row ≡ c.setting.block → c.blocks < c.end
    → list_all (λ d. d == 0) row ≡ true → StandsWith (with_block c (c.run + 1) c.bits_ahead (c.steps_ahead + c.setting.block)) [] sink (meter + c.setting.block) m xs
zeros_are_put {c} {row} {sink} {meter} h whole less none =
    let joins : JoinsRun c.setting c.run (c.run + 1) sink sink meter (meter + c.setting.block) = record { run_is = refl; bits = refl; steps = refl } in
    row_is_put (c.run + 1) c.bits_ahead (c.steps_ahead + c.setting.block) h whole less
    (ahead_of_zero h.holds.ahead (next_is h whole less) none joins h.holds.ahead.len (omega arith)) (omega (arith, h.holds.steps_ahead))

-- What is held of a block counts as a row, whichever the part of the coder is.
pub other_part : {c : BlockCoder} {row : List ℕ} {sink : List Bool} {meter : ℕ} {m : Standing} {xs : List ℤ} (part : List ℕ) (held : ℕ) → StandsWith c row sink meter m xs
    → StandsWith (record c { part = part; held = held }) row sink meter m xs
other_part part held h = record {
  coded = h.coded;
  legal = h.legal;
  residuals = h.residuals;
  coder = h.coder;
  holds = record {
    opens = h.holds.opens;
    ends = h.holds.ends;
    below = h.holds.below;
    number = h.holds.number;
    fits = h.holds.fits;
    part = h.holds.part;
    steps_ahead = h.holds.steps_ahead;
    ahead = h.holds.ahead;
  };
}

-- where nothing is held, the row has nothing
pub none_held : {c : BlockCoder} {sink : List Bool} {meter : ℕ} {m : Standing} {xs : List ℤ} → StandsWith c [] sink meter m xs → c.held ≡ 0 → length c.part ≡ 64 → StandsAfter c sink meter m xs
none_held {c} {sink} {meter} {m} {xs} h none room = record {
  room = room;
  held = omega (arith, none);
  stands = subst (λ n. StandsWith c (take n c.part) sink meter m xs) (sym none) h;
}

-- and the part may be any other
pub none_held_in : {c : BlockCoder} {sink : List Bool} {meter : ℕ} {m : Standing} {xs : List ℤ} (part : List ℕ) → StandsAfter c sink meter m xs → c.held ≡ 0 → length part ≡ 64
    → StandsAfter (record c { part = part }) sink meter m xs
none_held_in {c} {sink} {meter} {m} {xs} part h none room =
    none_held (other_part part c.held (subst (λ n. StandsWith c (take n c.part) sink meter m xs) none h.stands)) none room

-- A reference is noted before the first block only.
pub noted_reference : {s : Parameters} {start : ℕ} {r : Option ℕ} (q : Option ℕ) {run bits steps : ℕ} {sink from : List Bool} (n : ℕ) (ds es : List ℕ) → s.block * n ≤ length ds
    → (q ≡ r) ⊎ (n ≡ 0) → IsAhead s start r run bits steps (held_blocks s r n ds) sink from → IsAhead s start q run bits steps (held_blocks s q n (ds ++ es)) sink from
noted_reference {s} {start} {r} q {run} {bits} {steps} {sink} {from} n ds es long (inl same) h =
    subst (λ v. IsAhead s start v run bits steps (held_blocks s v n (ds ++ es)) sink from) (sym same)
    (subst (λ cs. IsAhead s start r run bits steps cs sink from) (sym (held_more s r n ds es long)) h)
noted_reference {s} {start} {r} q {run} {bits} {steps} {sink} {from} zero ds es long (inr none) h = other_reference q run h
noted_reference {s} {start} {r} q {run} {bits} {steps} {sink} {from} (suc n) ds es long (inr none) h = absurd (omega arith)

-- after no residuals nothing is ahead
pub blank_holds : (s : Parameters) (start level : ℕ) (part : List ℕ) (sink : List Bool) (meter : ℕ) → IsOpen (state_between s start (value_at s level)) (s.block * blocks_left s start)
    → level < value_count s → HoldsOpen (coder_between s start (blocks_left s start) level part) [] sink meter [] sink meter
blank_holds s start level part sink meter opens below = record {
  opens = opens;
  ends = refl;
  below = below;
  number = omega arith;
  fits = omega arith;
  part = nothing (s.block * 0);
  steps_ahead = omega arith;
  ahead = none_ahead s start None sink;
}
  where
    nothing : (n : ℕ) → drop n (let none : List ℕ = [] in none) ≡ []
    nothing zero = refl
    nothing (suc n) = refl

-- so a coder between two segments stands for the plain one there
pub between_stands : (s : Parameters) (start level : ℕ) (part : List ℕ) (sink : List Bool) (meter : ℕ) → IsOpen (state_between s start (value_at s level)) (s.block * blocks_left s start)
    → level < value_count s → IsCoder (state_between s start (value_at s level)) → length part ≡ 64
    → StandsFor (coder_between s start (blocks_left s start) level part) sink meter (record { coder = state_between s start (value_at s level); sink = sink; meter = meter })
between_stands s start level part sink meter opens below coded room =
    let one : 1 ≤ s.block = grind (arith, opens.legal.block) in
    record {
      room = room;
      held = omega (arith, one);
      coded = coded;
      residuals = [];
      coder = refl;
      holds = blank_holds s start level part sink meter opens below;
    }

-- which has taken the samples of whole segments
pub begun_stands : (s : Parameters) (start end level : ℕ) (part : List ℕ) (sink : List Bool) (meter : ℕ) (p : ℤ) (xs : List ℤ) → HasTaken (state_between s start p) xs → value_at s level ≡ p
    → level < value_count s
    → end ≡ blocks_left s start → length part ≡ 64 → StandsFor (coder_between s start end level part) sink meter (record { coder = state_between s start p; sink = sink; meter = meter })
begun_stands s start end level part sink meter p xs taken same below ends room =
    let P : ℤ → Type 0 = λ v. IsOpen (state_between s start v) (s.block * blocks_left s start) in
    let Q : ℤ → Type 0 = λ v. IsCoder (state_between s start v) in
    let R : ℕ → ℤ → Type 0 = λ n v. StandsFor (coder_between s start n level part) sink meter (record { coder = state_between s start v; sink = sink; meter = meter }) in
    let begun = between_stands s start level part sink meter (subst P (sym same) (open_between s start p xs taken)) below (subst Q (sym same) (record { samples = xs; taken = taken })) room in
    subst (R end) same (subst (λ n. R n (value_at s level)) (sym ends) begun)

-- a coder with no residuals of the open segment is ahead by nothing
pub stands_between : {c : BlockCoder} {sink : List Bool} {meter : ℕ} {m : Standing} → StandsFor c sink meter m → m.coder.residuals ≡ [] → (m.sink ≡ sink) × (m.meter ≡ meter)
stands_between {c} {sink} {meter} {m} h none =
    let holds = h.holds in
    let one : 1 ≤ c.setting.block = grind (arith, holds.opens.legal.block) in
    let count : c.setting.block * c.blocks + length (take c.held c.part) ≡ 0 = omega (arith, holds.number, ap (λ (v : CoderState). length v.residuals) h.coder, ap length none) in
    let blocks = no_blocks c.setting.block c.blocks (length (take c.held c.part)) one count in
    let ahead : IsAhead c.setting c.start c.reference c.run c.bits_ahead c.steps_ahead [] sink m.sink =
    subst (λ n. IsAhead c.setting c.start c.reference c.run c.bits_ahead c.steps_ahead (held_blocks c.setting c.reference n h.residuals) sink m.sink) blocks holds.ahead in
    let nothing = nothing_ahead c.run ahead in
    (sym nothing.same, omega (arith, holds.steps_ahead, nothing.steps_are))
  where
    no_blocks : (j n k : ℕ) → 1 ≤ j → j * n + k ≡ 0 → n ≡ 0
    no_blocks j zero k one e = refl
    no_blocks j (suc n) k one e = absurd (let m : j * suc n ≡ j * n + j = omega arith in omega (arith, m, e, one))

-- it has the setting of the plain coder,
pub setting_of : {c : BlockCoder} {sink : List Bool} {meter : ℕ} {m : Standing} → StandsFor c sink meter m → m.coder.setting ≡ c.setting
setting_of h = ap (λ (v : CoderState). v.setting) h.coder

-- a block has at most 64 samples
pub block_is_small : (s : Parameters) → IsLegal s → s.block ≤ 64
block_is_small s legal = grind (arith, legal.block)

-- Samples that leave the segment open are pushed, and nothing is put.
pub pushes_nothing : {c : BlockCoder} {sink : List Bool} {meter : ℕ} {m : Standing} {xs : List ℤ} → StandsAfter c sink meter m xs → c.held < c.setting.block → c.blocks < c.end
    → (m_new : Standing) × StandsFor c sink meter m_new × PushesOpen m m_new xs 0
pushes_nothing {c} {sink} {meter} {m} {xs} h part less =
    let stands = h.stands in
    let holds = stands.holds in
    let s = c.setting in
    let row : length (take c.held c.part) ≡ c.held = length-take-le c.held c.part (omega (arith, h.room, part, block_is_small s holds.opens.legal)) in
    let short = still_open s.block c.blocks c.end c.held part less in
    let limit : m.coder.setting.block * blocks_left m.coder.setting m.coder.start ≡ s.block * c.end = ap (λ (v : CoderState). v.setting.block * blocks_left v.setting v.start) stands.coder
    ∙ ap (λ n. s.block * n) (sym holds.ends) in
    let count = residuals_counted stands in
    let all = state_after_all m.coder xs in
    let more : HoldsMore m.coder m.coder all xs = record {
      same = refl;
      coded = stands.coded;
      legal = stands.legal;
      room = omega (arith, count, row, short, limit);
      holds = refl;
    } in
    let open_still : IsWhole all → ⊥ = λ whole. omega (arith, whole, length-state_after_all m.coder xs, count, row, short, limit) in
    let pushes = open_pushes {sink = m.sink} more open_still refl in (
      record { coder = all; sink = m.sink; meter = m.meter + length xs },
      record {
        room = h.room;
        held = part;
        coded = is_coder_after more pushes;
        residuals = stands.residuals;
        coder = stands.coder;
        holds = holds;
      },
      record { pushes = pushes; whole = λ some. absurd (omega (arith, some)); buffered = λ none. refl },
    )

-- the residuals in the part
pub part_counted : {c : BlockCoder} {sink : List Bool} {meter : ℕ} {m : Standing} {xs : List ℤ} → StandsAfter c sink meter m xs → length (take c.held c.part) ≡ c.held
part_counted {c} h = let few = block_is_small c.setting h.stands.holds.opens.legal in length-take-le c.held c.part (omega (arith, h.room, h.held, few))

-- there is a step for the next sample
pub step_for_one : {c : BlockCoder} {sink : List Bool} {meter : ℕ} {m : Standing} {xs : List ℤ} → StandsAfter c sink meter m xs → HasRoomAt m → c.held < c.setting.block → c.blocks < c.end
    → meter + 1 < 2 ^ 62
step_for_one {c} h room part less = meter_has_room 1 h.stands room (omega (arith, part_counted h, still_open c.setting.block c.blocks c.end c.held part less))

-- and there are those for the next block
pub steps_for_block : {c : BlockCoder} {sink : List Bool} {meter : ℕ} {m : Standing} {xs : List ℤ} → StandsAfter c sink meter m xs → HasRoomAt m → c.held ≡ 0 → c.blocks < c.end
    → meter + c.setting.block < 2 ^ 62
steps_for_block {c} h room none less =
    let all : c.setting.block * (c.blocks + 1) ≤ c.setting.block * c.end = mul-le-mul_left c.setting.block (omega (arith, less)) in
    meter_has_room c.setting.block h.stands room (omega (arith, part_counted h, none, all))

-- a coder whose part is whole, as a row
pub part_as_row : {c : BlockCoder} {sink : List Bool} {meter : ℕ} {m : Standing} {xs : List ℤ} (n : ℕ) → StandsAfter c sink meter m xs → n ≡ c.held → StandsWith c (take n c.part) sink meter m xs
part_as_row {c} {sink} {meter} {m} {xs} n h e = subst (λ v. StandsWith c (take v c.part) sink meter m xs) (sym e) h.stands

-- between two calls the segment is open
pub for_open : {c : BlockCoder} {sink : List Bool} {meter : ℕ} {m : Standing} → StandsFor c sink meter m → c.blocks < c.end
for_open {c} {m = m} h =
    let short = short_of m.coder h.coded.samples h.coded.taken in
    let limit : m.coder.setting.block * blocks_left m.coder.setting m.coder.start ≡ c.setting.block * c.end = ap (λ (v : CoderState). v.setting.block * blocks_left v.setting v.start) h.coder
    ∙ ap (λ n. c.setting.block * n) (sym h.holds.ends) in
    below c.setting.block c.blocks c.end (omega (arith, short, limit, ap (λ (v : CoderState). length v.residuals) h.coder, h.holds.number))
  where
    below : (j n end : ℕ) → j * n < j * end → n < end
    below j n end h = elim (cases_lt n end) [
      | inl lt ↦ lt
      | inr le ↦ absurd (let all : j * end ≤ j * n = mul-le-mul_left j le in omega (arith, all, h))
    ]

-- a coder that has taken no sample still stands for the same one
pub for_again : {c : BlockCoder} {sink : List Bool} {meter : ℕ} {m : Standing} {xs : List ℤ} → StandsAfter c sink meter m xs → xs ≡ [] → c.held < c.setting.block → StandsFor c sink meter m
for_again {c} {sink} {meter} {m} {xs} stood none part =
    let h : StandsAfter c sink meter m [] = subst (StandsAfter c sink meter m) none stood in
    let same : m.meter + 0 ≡ m.meter = omega arith in
    record {
      room = h.room;
      held = part;
      coded = h.stands.coded;
      residuals = h.stands.residuals;
      coder = sym (state_after_all-none m.coder [] refl) ∙ h.stands.coder;
      holds = subst (λ v. HoldsOpen c (take c.held c.part) sink meter h.stands.residuals m.sink v) same h.stands.holds;
    }

-- where no code is put ahead, it may be taken out of the sink
pub stands_with : (c : BlockCoder) (sink : List Bool) (meter : ℕ) (m : Standing) → StandsFor c sink meter m → m.sink ≡ sink → (others : List Bool)
    → StandsFor c others meter (record { coder = m.coder; sink = others; meter = m.meter })
stands_with c sink meter m h none others = record {
  room = h.room;
  held = h.held;
  coded = h.coded;
  residuals = h.residuals;
  coder = h.coder;
  holds = record {
    opens = h.holds.opens;
    ends = h.holds.ends;
    below = h.holds.below;
    number = h.holds.number;
    fits = h.holds.fits;
    part = h.holds.part;
    steps_ahead = h.holds.steps_ahead;
    ahead = ahead_with h.holds.ahead none others;
  };
}
