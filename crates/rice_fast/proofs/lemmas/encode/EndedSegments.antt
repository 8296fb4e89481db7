-- What the fast coder stands for when a segment ends.
use Rattle.rice_fast.proofs.Words.{◌≡◌, ℕ, zero, suc, ◌+◌, ◌-◌, ◌*◌, ◌/◌, ◌%◌, ◌^◌, ◌<◌, ◌≤◌, ◌==◌, Bool, true, false, cond, not, ◌&&◌, List, [], ◌∷◌, ◌++◌, length, take, drop, replicate, refl, ap}
use Rattle.rice_fast.proofs.Words.{arith, sym, ◌∙◌, subst, length-append, ℤ, nat_tests, sum_by-cons, length-replicate, length-take-le, mul-div_cancel_left, mul-add-mod_self_left, mod-eq_of_lt}
use Rattle.rice_fast.proofs.Words.{bits_to_byte, word, length-word, Parameters, IsSample, id_len, value_at, width, begins_segment, blocks_left, Reads, some_left, BlockData, fill_count}
use Rattle.rice_fast.proofs.Words.{is_zero_block, shortest, complete_samples, data_sets, CodedDataSet, NoCompression, RemainderOfSegment, SecondExtension, Split, ZeroBlocks, bits_of_set}
use Rattle.rice_fast.proofs.Words.{no_compression_tail, run_number, run_tail, second_extension_tail, split_tail, zero_run, AreSoundBlocks, HasRoomFor, AddsCode, CompletesNone, HasTaken, IsCoder}
use Rattle.rice_fast.proofs.Words.{PushesSamples, held_blocks, pending_bits, reference_at, CodesHeld, CoderState, HoldsSoundBlocks, IsOpen, IsWhole, bits_held, blocks_held, contents_held, is_empty}
use Rattle.rice_fast.proofs.Words.{state_after_all, state_after_segment, state_between, next_start, all_take, codes_held, next_is_open, held_len, finish_adds, HoldsMore, is_coder_after}
use Rattle.rice_fast.proofs.Words.{several_stay_open, whole_pushes, length-state_after_all, PushesOpen, StandsAfter, StandsFor, StandsWith, coder_between, coder_with, HasRoomAt, Standing}
use Rattle.rice_fast.proofs.Words.{TakesSpelled, BlockCoder}
use Rattle.std.specs.Prelude.{sum_by}
use Rattle.rice_fast.proofs.lemmas.encode.StandingCoders.{after_none, between_stands, blocks_few, blocks_inside, part_counted, meter_after, residuals_counted}
use Rattle.rice_fast.proofs.lemmas.{encode.CodeAhead.end_puts, encode.CodeAhead.room_for_end, encode.HeldResiduals.fill_is_taken, encode.HeldResiduals.fill_none}

after_id : (s : Parameters) (n : ℕ) (rest : List Bool) → 0 < length (word (id_len s) n ++ rest)
after_id s n rest = let some : 3 ≤ id_len s = grind (arith, nat_tests) in omega (arith, some, length-append (word (id_len s) n) rest, length-word (id_len s) n)

-- a coded data set has bits
some_bits : (s : Parameters) (d : CodedDataSet) → 0 < length (bits_of_set s d)
some_bits s (NoCompression c) = after_id s (2 ^ id_len s - 1) (no_compression_tail s c)
some_bits s (SecondExtension c) = after_id s 0 (true ∷ second_extension_tail s c)
some_bits s (Split k c) = after_id s (k + 1) (split_tail s k c)
some_bits s (ZeroBlocks r z) = after_id s 0 (false ∷ run_tail s r (run_number z))
some_bits s (RemainderOfSegment r) = after_id s 0 (false ∷ run_tail s r 4)

-- so have the blocks of a segment
some_bits_of : (s : Parameters) (b : ℕ) (cs : List BlockData) → 0 < length cs → 0 < sum_by (λ d. length (bits_of_set s d)) (data_sets s b false cs)
some_bits_of s b [] some = absurd (omega arith)
some_bits_of s b (c ∷ cs) some = first (is_zero_block c)
  where
    of_cons : (d : CodedDataSet) (ds : List CodedDataSet) → 0 < sum_by (λ d. length (bits_of_set s d)) (d ∷ ds)
    of_cons d ds = omega (arith, sum_by-cons (λ d. length (bits_of_set s d)) d ds, some_bits s d)

    first : (z : Bool) → 0 < sum_by (λ d. length (bits_of_set s d))
        (cond z (cond (false && not (begins_segment s b)) [] (zero_run s b c.reference (c ∷ cs) ∷ [])) (shortest s c ∷ []) ++ data_sets s (b + 1) (is_zero_block c) cs)
    first true = of_cons (zero_run s b c.reference (c ∷ cs)) (data_sets s (b + 1) (is_zero_block c) cs)
    first false = of_cons (shortest s c) (data_sets s (b + 1) (is_zero_block c) cs)

-- the code of the pending run is the last
pub end_has_room : {c : BlockCoder} {sink : List Bool} {meter : ℕ} {m : Standing} {xs : List ℤ} → StandsAfter c sink meter m xs → HasRoomAt m
    → HasRoomFor (length (pending_bits c.setting true (reference_at c.reference (c.blocks - c.run)) c.run))
    (length (pending_bits c.setting true (reference_at c.reference (c.blocks - c.run)) c.run)) (length sink) meter
end_has_room {c} {sink} {meter} {m} {xs} h room =
    let s = c.setting in
    let holds = h.stands.holds in
    let count = held_len s c.reference c.blocks h.stands.residuals in
    let fits = meter_after 0 h.stands room (omega (arith, blocks_inside holds)) in
    subst (λ n. HasRoomFor (length (pending_bits s true (reference_at c.reference (n - c.run)) c.run)) (length (pending_bits s true (reference_at c.reference (n - c.run)) c.run))
    (length sink) meter) count
    (subst (λ v. HasRoomFor (length (pending_bits s true (reference_at c.reference (length (held_blocks s c.reference c.blocks h.stands.residuals) - c.run)) c.run))
    (length (pending_bits s true (reference_at c.reference (length (held_blocks s c.reference c.blocks h.stands.residuals) - c.run)) c.run)) (length sink) v) (sym holds.steps_ahead)
    (room_for_end (m.meter + length xs) holds.ahead holds.opens.legal room.room (omega (arith, fits))))

-- With it, and with padding, the code of the segment is put.
pub end_codes : {c : BlockCoder} {sink put new : List Bool} {meter meter_new bits : ℕ} {m : Standing} {xs : List ℤ} → StandsAfter c sink meter m xs → c.held ≡ 0
    → put ≡ sink ++ pending_bits c.setting true (reference_at c.reference (c.blocks - c.run)) c.run
    → meter_new ≡ meter + length (pending_bits c.setting true (reference_at c.reference (c.blocks - c.run)) c.run)
    → new ≡ put ++ replicate (cond (c.setting.pad && c.start + c.blocks == c.setting.interval) (bits_to_byte (length put)) 0) false
    → bits + (length sink - c.bits_ahead) ≡ length put → CodesHeld (state_after_all m.coder xs) m.sink new bits (m.meter + length xs) meter_new
end_codes {c} {sink} {put} {new} {meter} {meter_new} {bits} {m} {xs} h none puts ticks pads count =
    let s = c.setting in
    let stands = h.stands in
    let holds = stands.holds in
    let ds = stands.residuals in
    let one : 1 ≤ s.block = grind (arith, holds.opens.legal.block) in
    let blocks = held_len s c.reference c.blocks ds in
    let empty : length (take c.held c.part) ≡ 0 = ap (λ n. length (take n c.part)) none in
    let whole : length ds ≡ s.block * c.blocks = omega (arith, holds.number, empty) in
    let number : c.blocks ≡ blocks_held (coder_with c ds) = sym (ap (λ v. v / s.block) whole ∙ mul-div_cancel_left c.blocks one) in
    let w = λ (n : ℕ). pending_bits s true (reference_at c.reference (n - c.run)) c.run in
    let all = end_puts (m.meter + length xs) holds.ahead holds.opens.legal.interval_from (puts ∙ ap (λ n. sink ++ w n) (sym blocks)) holds.steps_ahead
    (ticks ∙ ap (λ n. meter + length (w n)) (sym blocks)) in
    let sound : HoldsSoundBlocks (coder_with c ds) = record {
      sound = subst (λ n. AreSoundBlocks s c.start (held_blocks s c.reference n ds)) number holds.ahead.sound;
      whole = whole ∙ ap (λ n. s.block * n) number;
    } in
    let len = ap length puts in
    let codes = codes_held refl number holds.opens sound all pads (omega (arith, count, holds.ahead.len, len, length-append sink (w c.blocks))) in
    subst (λ v. CodesHeld v m.sink new bits (m.meter + length xs) meter_new) (sym stands.coder) codes

-- The samples that make the segment whole are pushed, and its code is put; the next segment begins.
pub pushes_segment : {c : BlockCoder} {sink sink_new : List Bool} {meter meter_new bits start : ℕ} {m : Standing} {xs : List ℤ} → StandsAfter c sink meter m xs → c.held ≡ 0 → c.end ≤ c.blocks
    → CodesHeld (state_after_all m.coder xs) m.sink sink_new bits (m.meter + length xs) meter_new → start ≡ next_start (coder_with c [])
    → (m_new : Standing) × StandsFor (coder_between c.setting start (blocks_left c.setting start) c.previous c.part) sink_new meter_new m_new × PushesOpen m m_new xs bits
pushes_segment {c} {sink} {sink_new} {meter} {meter_new} {bits} {start} {m} {xs} h none full codes goes_on =
    let s = c.setting in
    let stands = h.stands in
    let holds = stands.holds in
    let ds = stands.residuals in
    let one : 1 ≤ s.block = grind (arith, holds.opens.legal.block) in
    let all = state_after_all m.coder xs in
    let same = stands.coder in
    let empty : length (take c.held c.part) ≡ 0 = ap (λ n. length (take n c.part)) none in
    let few = blocks_few holds in
    let is_end : c.blocks ≡ c.end = omega (arith, few, full) in
    let number = residuals_counted stands in
    let limit : m.coder.setting.block * blocks_left m.coder.setting m.coder.start ≡ s.block * c.blocks =
    ap (λ (v : CoderState). v.setting.block * blocks_left v.setting v.start) same ∙ ap (λ n. s.block * n) (sym holds.ends ∙ sym is_end) in
    let whole : IsWhole all = omega (arith, length-state_after_all m.coder xs, number, empty, limit) in
    let more : HoldsMore m.coder m.coder all xs = record { same = refl; coded = stands.coded; legal = stands.legal; room = omega (arith, number, empty, limit); holds = refl } in
    let pushes = whole_pushes more whole refl codes refl in
    let next : CoderState = state_between s start (value_at s c.previous) in
    let is_next : state_after_segment all ≡ next = ap state_after_segment same ∙ ap (λ v. state_between s v (value_at s c.previous)) (sym goes_on) in
    let coded : IsCoder next = subst IsCoder is_next (is_coder_after more pushes) in
    let opens : IsOpen next (s.block * blocks_left s start) = subst (λ v. IsOpen (state_between s v (value_at s c.previous)) (s.block * blocks_left s v)) (sym goes_on)
    (next_is_open (coder_with c ds) (s.block * c.end) _ holds.opens refl) in
    let begun = between_stands s start c.previous c.part sink_new meter_new opens holds.below coded h.room in
    let some : 0 < c.blocks = let left = some_left s c.start holds.opens.legal.interval_from in omega (arith, left.0, holds.ends, is_end) in
    let some_put : 0 < bits = omega (
      arith,
      codes.bits,
      subst (λ (v : CoderState). 0 < bits_held v) (sym same)
          (held_bits (coder_with c ds) c.blocks one (omega (arith, holds.number, empty)) some),
    ) in (
      record { coder = next; sink = sink_new; meter = meter_new },
      begun,
      record {
        pushes = subst (λ v. PushesSamples m.coder v xs m.sink sink_new bits m.meter meter_new) is_next pushes;
        whole = λ put. refl;
        buffered = λ no_bits. absurd (omega (arith, no_bits, some_put));
      },
    )
  where
    held_bits : (coder : CoderState) (n : ℕ) → 1 ≤ coder.setting.block → length coder.residuals ≡ coder.setting.block * n → 0 < n → 0 < bits_held coder
    held_bits coder n one whole some =
        let count : blocks_held coder ≡ n = ap (λ v. v / coder.setting.block) whole ∙ mul-div_cancel_left n one in
        some_bits_of coder.setting coder.start (contents_held coder) (omega (arith, held_len coder.setting coder.reference (blocks_held coder) coder.residuals, count, some))

-- a coder with no whole number of blocks holds residuals
pub fill_needs_some : (s : Parameters) (n : ℕ) → 1 ≤ s.block → 0 < fill_count s n → 0 < n
fill_needs_some s zero one some = absurd (let none = fill_none s 0 0 one (omega arith) in omega (arith, none, some))
fill_needs_some s (suc n) one some = omega arith

-- a part of a block is filled by what it lacks
pub fill_of_part : (s : Parameters) (blocks held : ℕ) → held < s.block → 0 < held → fill_count s (s.block * blocks + held) ≡ s.block - held
fill_of_part s blocks held part some =
    let rest : (s.block * blocks + held) % s.block ≡ held = mul-add-mod_self_left s.block blocks held ∙ mod-eq_of_lt part in
    ap (λ v. (s.block - v) % s.block) rest ∙ mod-eq_of_lt (omega arith)

-- What the end adds, where the last block was filled.
pub finish_adds_all : {m : Standing} {xs : List ℤ} {sink_new : List Bool} {bits meter_new : ℕ} (s : Parameters) → m.coder.setting ≡ s → 1 ≤ s.block
    → CodesHeld (state_after_all m.coder (replicate (fill_count s (length m.coder.residuals)) m.coder.previous)) m.sink sink_new bits
    (m.meter + length (replicate (fill_count s (length m.coder.residuals)) m.coder.previous)) meter_new
    → HasTaken m.coder xs → AddsCode s (complete_samples s xs) xs m.sink sink_new bits (fill_count s (length xs)) m.meter meter_new
finish_adds_all {m} {xs} {sink_new} {bits} {meter_new} s same one codes taken =
    let own : 1 ≤ m.coder.setting.block = subst (λ (v : Parameters). 1 ≤ v.block) (sym same) one in
    let n = fill_count m.coder.setting (length m.coder.residuals) in
    let P : Parameters → Type 0 = λ v. CodesHeld (state_after_all m.coder (replicate (fill_count v (length m.coder.residuals)) m.coder.previous)) m.sink sink_new bits
    (m.meter + length (replicate (fill_count v (length m.coder.residuals)) m.coder.previous)) meter_new in
    let Q : Parameters → Type 0 = λ v. AddsCode v (complete_samples v xs) xs m.sink sink_new bits (fill_count v (length xs)) m.meter meter_new in
    let filled = fill_is_taken m.coder n (λ put. held m.coder.residuals (fill_needs_some m.coder.setting (length m.coder.residuals) own put)) in
    subst Q same (finish_adds refl filled (subst P (sym same) codes) (ap (λ v. m.meter + v) (length-replicate n m.coder.previous)) taken)
  where
    held : (ds : List ℕ) → 0 < length ds → is_empty ds ≡ false
    held [] h = absurd (omega arith)
    held (d ∷ ds) h = refl

-- what the end fills is the block that is not whole
pub fill_for : {c : BlockCoder} {sink : List Bool} {meter : ℕ} {m : Standing} → (h : StandsFor c sink meter m) → 0 < c.held → fill_count c.setting (length m.coder.residuals) ≡ c.setting.block - c.held
fill_for {c} h some =
    let count = part_counted (after_none h) in
    ap (fill_count c.setting) (ap (λ (v : CoderState). length v.residuals) h.coder ∙ (h.holds.number ∙ ap (λ n. c.setting.block * c.blocks + n) count))
    ∙ fill_of_part c.setting c.blocks c.held h.held some

-- no sample fills a block of which none is held
pub fill_for_none : {c : BlockCoder} {sink : List Bool} {meter : ℕ} {m : Standing} → (h : StandsFor c sink meter m) → c.held ≡ 0 → fill_count c.setting (length m.coder.residuals) ≡ 0
fill_for_none {c} {m = m} h none =
    let one : 1 ≤ c.setting.block = grind (arith, h.holds.opens.legal.block) in
    fill_none c.setting c.blocks (length m.coder.residuals) one (omega (arith, ap (λ (v : CoderState). length v.residuals) h.coder, h.holds.number, part_counted (after_none h), none))

-- before the last of the samples none completes the segment
none_before : {c : BlockCoder} {row : List ℕ} {sink : List Bool} {meter : ℕ} {m : Standing} {xs : List ℤ} (n : ℕ) → StandsWith c row sink meter m xs → n < length xs → CompletesNone m.coder (take n xs)
none_before {c} {row} {sink} {meter} {m} {xs} n h less zs taken =
    let few = length-take-le n xs (omega (arith, less)) in
    let limit = ap (λ (v : CoderState). v.setting.block * blocks_left v.setting v.start) h.coder in
    (several_stay_open m.coder (take n xs) zs taken (all_take (IsSample m.coder.setting) n xs h.legal)
    (omega (arith, few, less, residuals_counted h, h.holds.number, h.holds.opens.few, limit))).1

-- So what bytes spell is taken.
pub spelled_are_taken : {c : BlockCoder} {row : List ℕ} {sink : List Bool} {meter : ℕ} {m m_new : Standing} {xs : List ℤ} {bits : ℕ} (s : Parameters) (bytes : List ℕ) (count n : ℕ) → s ≡ c.setting
    → StandsWith c row sink meter m xs → length xs ≡ count → Reads s bytes xs (drop n bytes) → n ≡ width s * count → PushesOpen m m_new xs bits → TakesSpelled m m_new bytes count bits
spelled_are_taken {m = m} {xs = xs} s bytes count n same h len read place pushes =
    let own : s ≡ m.coder.setting = same ∙ sym (ap (λ (v : CoderState). v.setting) h.coder) in
    record {
      samples = xs;
      reads = subst (λ v. Reads v bytes xs (drop (width v * count) bytes)) own (subst (λ k. Reads s bytes xs (drop k bytes)) place read);
      number = len;
      pushes = pushes.pushes;
      before_last = λ k less. none_before k h (omega (arith, less, len));
      whole = pushes.whole;
      buffered = pushes.buffered;
    }
