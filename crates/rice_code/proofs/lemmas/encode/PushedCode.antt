-- The samples that a coder has taken, and the code that a push or the end completes.
use Rattle.std.proofs.Common.{◌≡◌, ℕ, ◌+◌, ◌-◌, ◌*◌, ◌/◌, ◌%◌, ◌<◌, ◌≤◌, ◌==◌, Bool, true, false, List, [], ◌∷◌, ◌++◌, length, take, replicate, refl, ap, arith, sym, ◌∙◌, inl, inr, subst}
use Rattle.std.proofs.Common.{append_assoc, append-nil, length-append, None, ℤ, pos}
use Rattle.rice_code.proofs.Words.{sum_by, next_multiple_of, cases_lt, nat_tests, take_at, All-from_recursion, sum_by-append, mod-lt, mod-eq_of_lt, mul-div_cancel_left, common_steps}
use Rattle.rice_code.proofs.Words.{mul-add-mod_self_left, mod_self, mul-le-mul_left, Parameters, IsLegal, IsSample, place, begins_segment, blocks_left, cut, block_count, last_of, filled_samples}
use Rattle.rice_code.proofs.Words.{some_left, length-residuals, zero_is_sample, BlockData, blocks_from, blocks_of, fill_count, code, code_bits, data_sets, complete_samples}
use Rattle.rice_code.proofs.Words.{HasCodedBefore, HasTaken, IsCoder, AddsCode, CoderState, IsOpen, IsWhole, state_between, state_after, state_with_fill, state_after_segment, next_start}
use Rattle.rice_code.proofs.Words.{blocks_held, contents_held, sets_held, code_held, bits_held, HoldsSoundBlocks, CodesHeld, is_empty, CodedDataSet, bits_of_set, held_blocks, AreSoundBlocks, layout}
use Rattle.rice_code.proofs.Words.{least_looks, most_looks, least_looks_at, most_looks_at, coding_steps, segment_steps, nil_from_length, le_of_mul-le-mul_left}
use Rattle.rice_code.proofs.lemmas.code.BlocksByPlaceAlone.{same_blocks, same_data_sets, same_reference, place_step, code_stands_in_intervals}
use Rattle.rice_code.proofs.lemmas.code.{CodeGoesOn.filled_after, CodeGoesOn.own_blocks, CodeGoesOn.code_goes_on, CodeGoesOn.bits_go_on, RepeatedSamples.last_append, RepeatedSamples.blocks_append}
use Rattle.rice_code.proofs.lemmas.{encode.HeldSamples.held_are, encode.HeldSamples.one_more, encode.HeldSamples.holds_fill, encode.HeldSamples.all_first, meaning.CoveredBlocks.bool_cases}
use Rattle.rice_code.proofs.lemmas.code.{SegmentPlaces.begins_next, SegmentPlaces.cut_is, SegmentPlaces.next_start_is, SoundBlocks.blocks_sound, SoundBlocks.last_legal, SoundBlocks.filled_len}
use Rattle.rice_code.proofs.lemmas.{code.Layouts.laid_plain, code.Layouts.laid_at, encode.OpenSegments.fill_inside, code.WholeBlocks.not_filled}

-- of the samples that a coder has taken, those of whole segments are the ones that are coded
pub complete_are_coded : (coder : CoderState) (xs : List ℤ) (h : HasTaken coder xs) → complete_samples coder.setting xs ≡ h.coded
complete_are_coded coder xs h =
    let s = coder.setting in
    let j : 1 ≤ s.block = grind (arith, h.holds.legal.block) in
    let len : length xs ≡ s.block * h.block + length h.held = omega (arith, ap length h.parts, length-append h.coded h.held, h.holds.whole) in
    let c = cut_is s h.block (length xs) (length h.held) h.holds.legal.interval_from j h.holds.begins len h.short in
    (λ i. take (c i) (h.parts i)) ∙ take_at h.coded h.held (s.block * h.block) h.holds.whole

-- a coder that holds nothing
pub none_taken : (s : Parameters) → IsLegal s → HasTaken (state_between s 0 (pos 0)) []
none_taken s legal =
    let zero_place : place s 0 ≡ 0 = let lt : 0 < s.interval = omega (arith, legal.interval_from) in mod-eq_of_lt lt in
    let j : 1 ≤ s.block = grind (arith, legal.block) in
    grind (arith, common_steps, mul-le-mul_left)

-- how many samples are pending
pub pending_are : (coder : CoderState) (xs : List ℤ) → HasTaken coder xs → length coder.residuals + cut coder.setting (length xs) ≡ length xs
pending_are coder xs h =
    let s = coder.setting in
    let j : 1 ≤ s.block = grind (arith, h.holds.legal.block) in
    let len : length xs ≡ s.block * h.block + length h.held = omega (arith, ap length h.parts, length-append h.coded h.held, h.holds.whole) in
    let c = cut_is s h.block (length xs) (length h.held) h.holds.legal.interval_from j h.holds.begins len h.short in
    grind (arith, common_steps, length-residuals)

-- fewer samples are pending than 64 blocks have
pub few_pending : (coder : CoderState) → IsCoder coder → length coder.residuals < 64 * coder.setting.block
few_pending coder k =
    let h = k.taken in
    let s = coder.setting in
    let left = some_left s h.block h.holds.legal.interval_from in
    grind (arith, common_steps, length-residuals, mul-le-mul_left)

-- the previous sample of a coder is legal
pub previous_legal : (coder : CoderState) → IsCoder coder → IsSample coder.setting coder.previous
previous_legal coder k =
    let h = k.taken.holds in
    subst (IsSample coder.setting) (sym h.previous) (last_legal coder.setting (pos 0) _ (zero_is_sample coder.setting h.legal.bits_from) h.samples)

left_same : (coder : CoderState) (b : ℕ) (coded held : List ℤ) → HasCodedBefore coder b coded held → blocks_left coder.setting coder.start ≡ blocks_left coder.setting b
left_same coder b coded held h = grind (arith, common_steps, mod-lt, mod-eq_of_lt)

held_count : (coder : CoderState) (b : ℕ) (coded held : List ℤ) → HasCodedBefore coder b coded held → length coder.residuals ≡ length held
held_count coder b coded held h = ap length h.residuals ∙ length-residuals coder.setting (coder.setting.block * b) (last_of (pos 0) coded) held

-- a sample that leaves the segment open
pub stays_open : (coder : CoderState) (x : ℤ) (xs : List ℤ) → HasTaken coder xs → IsSample coder.setting x
    → length (state_after coder x).residuals < coder.setting.block * blocks_left coder.setting coder.start → HasTaken (state_after coder x) (xs ++ x ∷ [])
stays_open coder x xs h legal less =
    let more = one_more coder h.block h.coded h.held x h.holds h.short legal in
    let count = held_count (state_after coder x) h.block h.coded (h.held ++ x ∷ []) more in
    let m = ap (λ n. coder.setting.block * n) (left_same coder h.block h.coded h.held h.holds) in
    grind (arith, common_steps, append_assoc)

-- and it completes no segment
pub stays_open_completes_none : (coder : CoderState) (x : ℤ) (xs : List ℤ) → (h : HasTaken coder xs) → IsSample coder.setting x
    → length (state_after coder x).residuals < coder.setting.block * blocks_left coder.setting coder.start →
    complete_samples coder.setting (xs ++ x ∷ []) ≡ complete_samples coder.setting xs
unfolding stays_open
stays_open_completes_none coder x xs h legal less =
    complete_are_coded (state_after coder x) (xs ++ x ∷ []) (stays_open coder x xs h legal less) ∙ sym (complete_are_coded coder xs h)

-- a coder holds fewer samples than its segment has room for
pub short_of : (coder : CoderState) (xs : List ℤ) → HasTaken coder xs → length coder.residuals < coder.setting.block * blocks_left coder.setting coder.start
short_of coder xs h = grind (arith, common_steps, left_same, held_count)

-- sound blocks stay sound at another block of the same place
sound_same : (s : Parameters) (a b : ℕ) (cs : List BlockData) → place s a ≡ place s b → AreSoundBlocks s a cs → AreSoundBlocks s b cs
sound_same s a b [] e k = tt
sound_same s a b (c ∷ cs) e k = (
  record {
    block = record { reference = record { there = k.0.block.reference.there ∙ same_reference s a b e; fits = k.0.block.reference.fits }; len = k.0.block.len };
    at_reference = k.0.at_reference;
    fit = k.0.fit;
  },
  sound_same s (a + 1) (b + 1) cs (place_step s a b e) k.1,
)

-- a coder between two segments, and the room of the next
pub open_between : (s : Parameters) (start : ℕ) (p : ℤ) (xs : List ℤ) → HasTaken (state_between s start p) xs → IsOpen (state_between s start p) (s.block * blocks_left s start)
open_between s start p xs k =
    let h = k.holds in
    let lt : start < s.interval = omega (arith, h.place, mod-lt k.block h.legal.interval_from) in
    let at : place s start ≡ start = mod-eq_of_lt lt in
    record {
      legal = h.legal;
      place = at;
      begins = ap (λ p. p == 64 * (p / 64)) (at ∙ sym h.place) ∙ h.begins;
      few = omega arith;
      previous = previous_legal (state_between s start p) (record { samples = xs; taken = k });
      reference = tt;
      ends = refl;
    }

-- a coder whose samples all make whole segments holds nothing: it stands between two segments
pub holds_nothing : (coder : CoderState) (xs : List ℤ) → HasTaken coder xs → cut coder.setting (length xs) ≡ length xs → coder ≡ state_between coder.setting coder.start coder.previous
holds_nothing coder xs k all = grind (arith, common_steps, pending_are, nil_from_length, held_count)

-- and its samples are those of whole segments
pub between_all : (s : Parameters) (start : ℕ) (p : ℤ) (xs : List ℤ) → HasTaken (state_between s start p) xs → cut s (length xs) ≡ length xs
between_all s start p xs k = omega (arith, pending_are (state_between s start p) xs k)

-- the blocks of samples after whole blocks
pub blocks_go_on : (s : Parameters) (b q : ℕ) (p : ℤ) (xs ys : List ℤ) → 1 ≤ s.block → length xs ≡ s.block * q
    → blocks_of s b p (xs ++ ys) ≡ blocks_of s b p xs ++ blocks_of s (b + q) (last_of p xs) ys
blocks_go_on s b q p xs ys j len = grind (arith, common_steps, filled_after, blocks_append, own_blocks)

-- what a coder holds is the code of the samples that it holds, filled to whole blocks, after those that are coded
pub record IsPart (coder : CoderState) (coded held : List ℤ) : Type 0 where
  pub sound : AreSoundBlocks coder.setting coder.start (contents_held coder)
  pub blocks : length coder.residuals ≡ coder.setting.block * blocks_held coder
  pub code_is : (position : ℕ) → (coder.setting.pad ≡ true → position % 8 ≡ length (code coder.setting coded) % 8)
      → code coder.setting (coded ++ held) ≡ code coder.setting coded ++ code_held coder position
  pub bits_are : code_bits coder.setting (coded ++ held) ≡ code_bits coder.setting coded + sum_by (λ d. length (bits_of_set coder.setting d)) (sets_held coder)
  pub blocks_are : blocks_of coder.setting 0 (pos 0) (coded ++ held) ≡ blocks_of coder.setting 0 (pos 0) coded ++ contents_held coder

-- of the position only the place in a byte matters, and where nothing is padded not even that
same_position : (s : Parameters) (end b m n : ℕ) (ds : List CodedDataSet) → (s.pad ≡ true → n % 8 ≡ m % 8) → layout s end b m ds ≡ layout s end b n ds
same_position s end b m n ds h =
    elim (bool_cases s.pad) [ inl e ↦ laid_at s end b m n ds (sym (h e)) | inr e ↦ laid_plain s end b m ds e ∙ sym (laid_plain s end b n ds e) ]

-- what a coder holds is such a part where it holds the samples with their last block filled
pub held_part : {coder : CoderState} {b n : ℕ} {coded held full : List ℤ} → HasCodedBefore coder b coded full
    → filled_samples coder.setting (last_of (pos 0) coded) held ≡ full → block_count coder.setting (length held) ≡ n → length full ≡ coder.setting.block * n
    → IsPart coder coded held
held_part {coder} {b} {n} {coded} {held} {full} h shape counted len =
    let s = coder.setting in
    let j : 1 ≤ s.block = grind (arith, h.legal.block) in
    let r = h.legal.interval_from in
    let p = last_of (pos 0) coded in
    let samples = all_first s coded full h.samples in
    let all_coded = All-from_recursion (IsSample s) coded samples.0 in
    let zero = zero_is_sample s h.legal.bits_from in
    let size = ap length h.residuals ∙ (length-residuals s (s.block * b) p full ∙ len) in
    let q : blocks_held coder ≡ n = ap (λ v. v / s.block) size ∙ mul-div_cancel_left n j in
    let few : n ≤ blocks_left s b = le_of_mul-le-mul_left {k = s.block} (omega (arith, len, h.few)) j in
    let own : blocks_from s b p n full ≡ contents_held coder = held_are s b p n full r j few len ∙ (λ i. held_blocks s (sym h.reference i) (sym q i) (sym h.residuals i)) in
    let blocks : blocks_of s b p held ≡ contents_held coder = (λ i. blocks_from s b p (counted i) (shape i)) ∙ own in
    let lt : coder.start < s.interval = omega (arith, h.place, mod-lt b r) in
    let at : place s coder.start ≡ coder.start = mod-eq_of_lt lt in
    let same : place s b ≡ place s coder.start = h.place ∙ sym at in
    let here : 0 + b ≡ b = omega arith in
    let begins : begins_segment s (0 + b) ≡ true = ap (λ m. begins_segment s m) here ∙ h.begins in
    let moved : blocks_of s coder.start p held ≡ contents_held coder = sym (same_blocks s b coder.start p (block_count s (length held)) (filled_samples s p held) j same) ∙ blocks in
    let sets : data_sets s b false (contents_held coder) ≡ sets_held coder = same_data_sets s b coder.start false (contents_held coder) same in
    let goes_on = λ (m : ℕ). code_stands_in_intervals s h.legal (0 + b) coder.start m p held (ap (λ m. place s m) here ∙ same)
    ∙ (λ i. layout s (coder.start + (counted ∙ sym q) i) coder.start m (data_sets s coder.start false (moved i))) in
    let sound = sound_same s b coder.start (contents_held coder) same
    (subst (AreSoundBlocks s b) own (blocks_sound b p n full h.legal j (last_legal s (pos 0) coded zero samples.0) samples.1 len)) in
    record {
      sound = sound;
      blocks = size ∙ ap (λ v. s.block * v) (sym q);
      code_is = λ position place. code_goes_on h.legal 0 0 b (pos 0) coded held (record { before = zero; samples = all_coded; len = h.whole; segment = begins })
          ∙ ap (λ v. code s coded ++ v) (goes_on (0 + length (code s coded))
          ∙ same_position s (coder.start + blocks_held coder) coder.start (0 + length (code s coded)) position (sets_held coder)
          (λ e. place e ∙ ap (λ m. m % 8) (none (length (code s coded)))));
      bits_are = bits_go_on s h.legal 0 b (pos 0) coded held h.whole begins
          ∙ ap (λ v. code_bits s coded + sum_by (λ d. length (bits_of_set s d)) v) (ap (λ m. data_sets s m false (blocks_of s m p held)) here ∙ (ap (λ v. data_sets s b false v) blocks ∙ sets));
      blocks_are = blocks_go_on s 0 b (pos 0) coded held j h.whole ∙ ap (λ v. blocks_of s 0 (pos 0) coded ++ v) (ap (λ m. blocks_of s m p held) here ∙ blocks);
    }
  where
    none : (n : ℕ) → n ≡ 0 + n
    none n = omega arith

-- the code of the samples ys is that of the samples xs, and then that of what the coder holds
pub record AddsHeldCode (coder : CoderState) (xs ys : List ℤ) : Type 0 where
  pub code_is : (position : ℕ) → (coder.setting.pad ≡ true → position % 8 ≡ length (code coder.setting xs) % 8) → code coder.setting ys ≡ code coder.setting xs ++ code_held coder position
  pub bits_are : code_bits coder.setting ys ≡ code_bits coder.setting xs + bits_held coder
  pub least : least_looks_at coder.setting ys ≡ least_looks_at coder.setting xs + sum_by (least_looks coder.setting) (contents_held coder)
  pub most : most_looks_at coder.setting ys ≡ most_looks_at coder.setting xs + sum_by (most_looks coder.setting) (contents_held coder)

adds_held_code : (coder : CoderState) (xs ys coded held : List ℤ) → xs ≡ coded → ys ≡ coded ++ held → IsPart coder coded held → AddsHeldCode coder xs ys
adds_held_code coder xs ys coded held e f part = grind (arith, common_steps, sum_by-append)

-- What a call that codes what is held adds, after it has taken `more` samples.
pub adds_code : {coder : CoderState} {xs ys : List ℤ} {old new : List Bool} {count more m0 m1 m2 : ℕ} → AddsHeldCode coder xs ys → CodesHeld coder old new count m1 m2 → m1 ≡ m0 + more →
    AddsCode coder.setting xs ys old new count more m0 m2
adds_code {coder} {old} adds codes steps = grind (arith, common_steps)

-- and one that codes nothing
pub adds_nothing : (s : Parameters) (xs ys : List ℤ) (sink : List Bool) (more m0 m1 : ℕ) → ys ≡ xs → m1 ≡ m0 + more → AddsCode s xs ys sink sink 0 more m0 m1
adds_nothing s xs ys sink more m0 m1 e steps = grind (arith, common_steps, append-nil)

-- after a whole segment the next begins
pub next_begins : (coder : CoderState) (b : ℕ) (coded held : List ℤ) (start : ℕ) → HasCodedBefore coder b coded held
    → length held ≡ coder.setting.block * blocks_left coder.setting b → place coder.setting (b + blocks_left coder.setting b) ≡ start →
    HasTaken (record { setting = coder.setting; residuals = []; reference = None; previous = coder.previous; start = start }) (coded ++ held)
next_begins coder b coded held start h len e =
    let s = coder.setting in
    let j : 1 ≤ s.block = grind (arith, h.legal.block) in
    let c = b + blocks_left s b in
    let left = some_left s c h.legal.interval_from in
    let nil = append-nil (coded ++ held) in
    record {
      block = c;
      coded = coded ++ held;
      held = [];
      parts = sym nil;
      holds = grind (arith, common_steps, length-append, begins_next);
      short = let m : s.block * 1 ≤ s.block * blocks_left s c = mul-le-mul_left s.block left.0 in omega arith;
    }

-- a sample that makes the segment whole
whole_part : (coder : CoderState) (x : ℤ) (xs : List ℤ) → (h : HasTaken coder xs) → IsSample coder.setting x → IsWhole (state_after coder x) → IsPart (state_after coder x) h.coded (h.held ++ x ∷ [])
whole_part coder x xs h legal e =
    let s = coder.setting in
    let j : 1 ≤ s.block = grind (arith, h.holds.legal.block) in
    let full = h.held ++ x ∷ [] in
    let more = one_more coder h.block h.coded h.held x h.holds h.short legal in
    let len : length full ≡ s.block * blocks_left s coder.start = sym (held_count (state_after coder x) h.block h.coded full more) ∙ e in
    let bare = not_filled s (blocks_left s coder.start) (last_of (pos 0) h.coded) full j len in
    held_part more bare.0 bare.1 len

-- such a sample leaves a coder that holds sound whole blocks
pub whole_sound : (coder : CoderState) (x : ℤ) (xs : List ℤ) → HasTaken coder xs → IsSample coder.setting x → IsWhole (state_after coder x) → HoldsSoundBlocks (state_after coder x)
whole_sound coder x xs h legal e = let part = whole_part coder x xs h legal e in record { sound = part.sound; whole = part.blocks }

-- then the coder has taken the samples with it
pub takes_last_of_segment : (coder : CoderState) (x : ℤ) (xs : List ℤ) → HasTaken coder xs → IsSample coder.setting x → IsWhole (state_after coder x)
    → HasTaken (state_after_segment (state_after coder x)) (xs ++ x ∷ [])
takes_last_of_segment coder x xs h legal e =
    let s = coder.setting in
    let more = one_more coder h.block h.coded h.held x h.holds h.short legal in
    let count = held_count (state_after coder x) h.block h.coded (h.held ++ x ∷ []) more in
    let l = ap (λ n. s.block * n) (left_same coder h.block h.coded h.held h.holds) in
    let start = next_start_is s h.block coder.start h.holds.legal.interval_from h.holds.place in
    let next = next_begins (state_after coder x) h.block h.coded (h.held ++ x ∷ []) (next_start (state_after coder x)) more (sym count ∙ (e ∙ l)) start in
    grind (arith, common_steps, append_assoc)

-- and this completes the code of the segment
pub whole_segment_adds_code : (coder : CoderState) (x : ℤ) (xs : List ℤ) → HasTaken coder xs → IsSample coder.setting x → IsWhole (state_after coder x)
    → AddsHeldCode (state_after coder x) (complete_samples coder.setting xs) (complete_samples coder.setting (xs ++ x ∷ []))
whole_segment_adds_code coder x xs h legal e =
    let next = takes_last_of_segment coder x xs h legal e in
    adds_held_code (state_after coder x) (complete_samples coder.setting xs) (complete_samples coder.setting (xs ++ x ∷ [])) h.coded (h.held ++ x ∷ [])
    (complete_are_coded coder xs h) (all_complete next) (whole_part coder x xs h legal e)
  where
    all_complete : HasTaken (state_after_segment (state_after coder x)) (xs ++ x ∷ []) → complete_samples coder.setting (xs ++ x ∷ []) ≡ h.coded ++ (h.held ++ x ∷ [])
    all_complete next =
        let parts : xs ++ x ∷ [] ≡ h.coded ++ (h.held ++ x ∷ []) = ap (λ v. v ++ x ∷ []) h.parts ∙ append_assoc h.coded h.held (x ∷ []) in
        let none : length next.held ≡ 0 = sym (held_count _ next.block next.coded next.held next.holds) in
        complete_are_coded _ (xs ++ x ∷ []) next ∙ (sym (append-nil next.coded) ∙ (ap (λ v. next.coded ++ v) (sym (nil_from_length next.held none)) ∙ (sym next.parts ∙ parts)))

zero_fill : (j m : ℕ) → 1 ≤ j → m ≡ 0 → (j - m % j) % j ≡ 0
zero_fill j m h e = grind (arith, common_steps, mod-eq_of_lt, mod_self)

not_first_of : (ds : List ℕ) → 0 < length ds → is_empty ds ≡ false
not_first_of [] h = absurd (omega arith)
not_first_of (d ∷ ds) h = refl

same_rest : (j b n m : ℕ) → m ≡ j * b + n → m % j ≡ n % j
same_rest j b n m e = ap (λ v. v % j) e ∙ mul-add-mod_self_left j b n

-- the samples that are held, filled to whole blocks
filled_part : (coder : CoderState) (xs : List ℤ) → (h : HasTaken coder xs) → IsPart (state_with_fill coder (fill_count coder.setting (length coder.residuals))) h.coded h.held
filled_part coder xs h =
    let s = coder.setting in
    let j : 1 ≤ s.block = grind (arith, h.holds.legal.block) in
    let m = length coder.residuals in
    let n = fill_count coder.setting (length coder.residuals) in
    let x = coder.previous in
    let p = last_of (pos 0) h.coded in
    let count = held_count coder h.block h.coded h.held h.holds in
    let inside : length h.held + n ≤ s.block * blocks_left s h.block = let f = fill_inside m s.block (blocks_left s h.block) j (omega (arith, count, h.short)) in omega (arith, f, count) in
    let legal = previous_legal coder (record { samples = xs; taken = h }) in
    let some : 0 < n → 0 < m = λ p. elim (cases_lt 0 m) [ inl lt ↦ lt | inr le ↦ absurd (let z = zero_fill s.block m j (omega arith) in omega (arith, z, p)) ] in
    let holds = holds_fill coder h.block h.coded h.held n h.holds legal (λ p. not_first_of coder.residuals (some p)) inside in
    let full = h.held ++ replicate n x in
    let last : last_of p h.held ≡ x = sym (h.holds.previous ∙ last_append (pos 0) h.coded h.held) in
    let fill : next_multiple_of (length h.held) s.block - length h.held ≡ n = grind (arith, common_steps) in
    let shape : filled_samples s p h.held ≡ full = λ i. h.held ++ replicate (fill i) (last i) in
    held_part holds shape refl (sym (ap length shape) ∙ filled_len s p h.held j)

-- with them the coder holds sound blocks
pub filled_sound : (coder : CoderState) (xs : List ℤ) → HasTaken coder xs → HoldsSoundBlocks (state_with_fill coder (fill_count coder.setting (length coder.residuals)))
filled_sound coder xs h = let part = filled_part coder xs h in record { sound = part.sound; whole = part.blocks }

-- and this completes the code of all samples
pub filled_segment_adds_code : (coder : CoderState) (xs : List ℤ) → HasTaken coder xs
    → AddsHeldCode (state_with_fill coder (fill_count coder.setting (length coder.residuals))) (complete_samples coder.setting xs) xs
filled_segment_adds_code coder xs h = adds_held_code (state_with_fill coder (fill_count coder.setting (length coder.residuals)))
    (complete_samples coder.setting xs) xs h.coded h.held (complete_are_coded coder xs h) h.parts (filled_part coder xs h)

-- as many as fill the last block of all samples
pub fill_count_is : (coder : CoderState) (xs : List ℤ) → HasTaken coder xs → fill_count coder.setting (length coder.residuals) ≡ fill_count coder.setting (length xs)
fill_count_is coder xs h = grind (arith, common_steps, held_count, length-append, same_rest)

-- What the end does, where `held` is what the coder holds with its last block filled.
pub finish_sound : (coder held : CoderState) → held ≡ state_with_fill coder (fill_count coder.setting (length coder.residuals)) → IsCoder coder → HoldsSoundBlocks held
finish_sound coder held g k = subst HoldsSoundBlocks (sym g) (filled_sound coder k.samples k.taken)

-- and where these blocks are coded, the code of all samples is complete, with a step for each sample that filled them
pub finish_adds : {coder value held : CoderState} {xs : List ℤ} {old new : List Bool} {n m0 m1 m2 : ℕ} → coder ≡ value
    → held ≡ state_with_fill coder (fill_count coder.setting (length coder.residuals)) → CodesHeld held old new n m1 m2
    → m1 ≡ m0 + fill_count coder.setting (length coder.residuals) → HasTaken value xs →
    AddsCode value.setting (complete_samples value.setting xs) xs old new n (fill_count value.setting (length xs)) m0 m2
finish_adds {coder} {xs} {old} {new} {n} {m0} {m1} {m2} e g codes steps h =
    subst (λ (v : CoderState). HasTaken v xs → AddsCode v.setting (complete_samples v.setting xs) xs old new n (fill_count v.setting (length xs)) m0 m2) e (λ k.
    (let full = state_with_fill coder (fill_count coder.setting (length coder.residuals)) in
    let coded : CodesHeld full old new n m1 m2 = subst (λ v. CodesHeld v old new n m1 m2) g codes in
    let count = fill_count_is coder xs k in
    adds_code (filled_segment_adds_code coder xs k) coded (omega (arith, count, steps)))) h

-- The steps of a segment are few,
pub segment_steps_few : (s : Parameters) → IsLegal s → segment_steps s ≤ 274752
segment_steps_few s legal = grind (arith, common_steps, nat_tests, mul-le-mul_left)

-- and they count its samples
pub steps_of_segment : (s : Parameters) → segment_steps s ≡ coding_steps s + s.block * 64
steps_of_segment s = grind (arith, common_steps)
