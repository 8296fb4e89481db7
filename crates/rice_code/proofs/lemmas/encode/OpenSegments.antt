-- What an open segment holds, and the room that its code takes.
use Rattle.std.proofs.Common.{◌≡◌, ℕ, ◌+◌, ◌-◌, ◌*◌, ◌/◌, ◌%◌, ◌^◌, ◌<◌, ◌≤◌, ◌==◌, Bool, false}
use Rattle.std.proofs.Common.{cond, ◌&&◌, List, pos, ◌++◌, length, replicate, subst, ap, arith, sym, ◌∙◌, inl, inr, append_assoc, length-append}
use Rattle.rice_code.proofs.Words.{sum_by, cases_lt, nat_tests, length-flat_map, div-add-mod, mod-lt, mod-eq_of_lt, mod_self, mul-le-mul_left, mul-le-mul_right, bits_to_byte, Parameters, IsLegal}
use Rattle.rice_code.proofs.Words.{place, blocks_left, zero_is_sample, some_left, le_of_mul-le-mul_left, data_sets, sink_bits, CoderState, IsOpen, HasRoomForSegment, eqb-true}
use Rattle.rice_code.proofs.Words.{state_after_segment, next_start, blocks_held, contents_held, sets_held, code_held, HoldsSoundBlocks, CodesHeld, bits_of_set, bits_of_sets, held_blocks}
use Rattle.rice_code.proofs.Words.{state_between, code_of_blocks, PutsBlocks, AreSoundBlocks, least_looks, most_looks, block_bound, common_steps}
use Rattle.rice_code.proofs.lemmas.{cost.BlockBounds.blocks_are_bounded, code.SegmentLayouts.code_lies, code.SegmentPlaces.begins_next, code.SegmentPlaces.next_start_is, encode.PendingRuns.held_len}

-- so many residuals are as many as any segment has
abbrev pub HoldsAnySegment : ℕ → Parameters → Type 0
HoldsAnySegment size s = (b : ℕ) → s.block * blocks_left s b ≤ size

-- the room that the residuals of any segment take
pub holds_any : (s : Parameters) → IsLegal s → HoldsAnySegment 4096 s
holds_any s legal b = grind (arith, common_steps, some_left, mul-le-mul_left)

-- the room that the code of a segment takes
pub segment_room : (s : Parameters) (n : ℕ) → IsLegal s → n ≤ 64 → n * block_bound s ≤ 131392
segment_room s n h k = grind (arith, common_steps, nat_tests, mul-le-mul_left)

-- which a sink has after what it holds
pub room_after : (s : Parameters) (n : ℕ) (sink : List Bool) → IsLegal s → n ≤ 64 → HasRoomForSegment s sink → length sink + n * block_bound s ≤ sink_bits
room_after s n sink legal few (inl short) = omega (arith, short, segment_room s n legal few)
room_after s n sink legal few (inr room) = grind (arith, common_steps, mul-le-mul_right)

-- and the steps
pub segment_meter : (n bound looks m len : ℕ) → n ≤ 64 → len ≤ n * bound → m + 64 * (bound + looks) < 2 ^ 62 → m + len + n * looks < 2 ^ 62
segment_meter n bound looks m len h e f = grind (arith, common_steps, mul-le-mul_right)

-- the fill stays in the segment
pub fill_inside : (n j left : ℕ) → 1 ≤ j → n < j * left → n + (j - n % j) % j ≤ j * left
fill_inside n j left h k =
    let r = mod-lt n h in
    grind (arith, common_steps, cases_lt, mul-le-mul_left, mod-eq_of_lt, mod_self)

-- also where nothing is left
pub fill_room : (n j left : ℕ) → 1 ≤ j → n ≤ j * left → n + (j - n % j) % j ≤ j * left
fill_room n j left h k = grind (arith, common_steps, cases_lt, div-add-mod, mod-lt, mul-le-mul_left, mod_self)

-- the bits of the blocks that are held
pub few_bits : (coder : CoderState) (count end : ℕ) → count ≡ blocks_held coder → IsOpen coder end → AreSoundBlocks coder.setting coder.start (contents_held coder) →
    length (bits_of_sets coder.setting (data_sets coder.setting coder.start false (held_blocks coder.setting coder.reference count coder.residuals))) ≤ count * block_bound coder.setting
few_bits coder count end e h sound =
    let s = coder.setting in
    let bound = blocks_are_bounded s coder.start false (contents_held coder) h.legal sound in
    let len = held_len s coder.reference (blocks_held coder) coder.residuals in
    grind (arith, common_steps, length-flat_map)

-- no more blocks than the segment has
pub few_blocks : (coder : CoderState) (end : ℕ) → IsOpen coder end → length coder.residuals ≡ coder.setting.block * blocks_held coder
    → (blocks_held coder ≤ blocks_left coder.setting coder.start) × (blocks_held coder ≤ 64)
few_blocks coder end h whole = grind (arith, common_steps, le_of_mul-le-mul_left, some_left)

-- what is put is the code of what is held
pub code_is_held : {coder : CoderState} {count end : ℕ} (old : List Bool) {put new : List Bool} → count ≡ blocks_held coder → IsOpen coder end → HoldsSoundBlocks coder →
    put ≡ old ++ bits_of_sets coder.setting (data_sets coder.setting coder.start false (held_blocks coder.setting coder.reference count coder.residuals)) →
    new ≡ put ++ replicate (cond (coder.setting.pad && coder.start + count == coder.setting.interval) (bits_to_byte (length put)) 0) false → new ≡ old ++ code_held coder (length old)
code_is_held {coder} {end} old {put} e h blocks f g = grind (arith, common_steps, length-append, code_lies, held_len, few_blocks, append_assoc)

-- so this is what the call does
pub codes_held : {coder value : CoderState} {count end : ℕ} {old put new : List Bool} {n m0 m1 : ℕ} → coder ≡ value → count ≡ blocks_held coder → IsOpen coder end → HoldsSoundBlocks value →
    PutsBlocks coder.setting coder.start (held_blocks coder.setting coder.reference count coder.residuals) old put m0 m1 →
    new ≡ put ++ replicate (cond (coder.setting.pad && coder.start + count == coder.setting.interval) (bits_to_byte (length put)) 0) false →
    n ≡ length put - length old → CodesHeld value old new n m0 m1
codes_held {coder} {count} {end} {old} {put} {new} {n} {m0} {m1} same e h sound puts g len =
    let s = coder.setting in
    let blocks : HoldsSoundBlocks coder = subst HoldsSoundBlocks (sym same) sound in
    let texts = ap (λ m. length (code_of_blocks s coder.start (held_blocks s coder.reference m coder.residuals))) e ∙ length-flat_map (bits_of_set s) (sets_held coder) in
    let put_len = ap length puts.bits in
    let both = length-append old (code_of_blocks s coder.start (held_blocks s coder.reference count coder.residuals)) in
    let few = ap (λ m. sum_by (least_looks s) (held_blocks s coder.reference m coder.residuals)) e in
    let many = ap (λ m. sum_by (most_looks s) (held_blocks s coder.reference m coder.residuals)) e in
    subst (λ v. CodesHeld v old new n m0 m1) same (record {
      code_is = code_is_held old e h blocks puts.bits g;
      bits = omega (arith, len, put_len, both, texts);
      least = omega (arith, texts, few, puts.steps_from);
      most = omega (arith, texts, many, puts.steps_to);
    })

-- after a whole segment
pub next_is_open : (coder : CoderState) (end next : ℕ) → IsOpen coder end → next ≡ coder.setting.block * blocks_left coder.setting (next_start coder) → IsOpen (state_after_segment coder) next
next_is_open coder end next h e = grind (arith, common_steps, next_start_is, mod-lt, mod-eq_of_lt, begins_next)

-- where the interval is one segment, the next begins at the same place, 0
pub next_of_whole : (coder : CoderState) (end : ℕ) → IsOpen coder end → coder.setting.interval ≤ 64 → next_start coder ≡ coder.start
next_of_whole coder end h le = grind (arith, common_steps, mod-lt, begins_next, next_start_is, eqb-true)

-- a first segment
pub first_is_open : (s : Parameters) (end : ℕ) → IsLegal s → end ≡ s.block * blocks_left s 0 → IsOpen (state_between s 0 (pos 0)) end
first_is_open s end legal e =
    let lt : 0 < s.interval = omega (arith, legal.interval_from) in
    let first : place s 0 ≡ 0 = mod-eq_of_lt lt in
    record {
      legal = legal;
      place = first;
      begins = ap (λ p. p == 64 * (p / 64)) first;
      few = omega arith;
      previous = zero_is_sample s legal.bits_from;
      reference = tt;
      ends = e;
    }
