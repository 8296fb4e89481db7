-- After whole segments the code goes on from their last sample and their last bit.
use Rattle.std.proofs.Common.{◌≡◌, ℕ, zero, suc, ◌+◌, ◌-◌, ◌*◌, ◌/◌, ◌%◌, ◌≤◌, min, Bool, true, false, List, ◌++◌}
use Rattle.std.proofs.Common.{length, take, drop, replicate, refl, ap, arith, sym, ◌∙◌, append_assoc, length-append, subst, None, ℤ, pos}
use Rattle.rice_code.proofs.Words.{All, sum_by, sum_by-append, next_multiple_of, length-replicate, recursion_from_All, All-from_recursion, mul-add-div, mul-add-mod_self_left, Parameters, IsLegal}
use Rattle.rice_code.proofs.Words.{IsSample, begins_segment, block_count, cut, cut_is_start, zero_is_sample, length-take-le, take-append-drop, last_of, filled_samples, blocks_from, blocks_of}
use Rattle.rice_code.proofs.Words.{zero_block, blocks_in_all, layout, bits_of_set, data_sets, sets_from, code_from, code, bits_from, common_steps}
use Rattle.rice_code.proofs.lemmas.{meaning.CoveredBlocks.GoOn, meaning.CoveredBlocks.covers_blocks, code.Layouts.laid_append, code.Layouts.laid_inside, cost.PaddingBounds.are_blocks}
use Rattle.rice_code.proofs.lemmas.{code.SegmentsOneByOne.sets_of_segments, code.RepeatedSamples.last_append, code.RepeatedSamples.blocks_append, code.WholeBlocks.not_filled}
use Rattle.rice_code.proofs.lemmas.code.SoundBlocks.{all_take, blocks_sound, count_blocks}

-- samples after whole blocks are filled as if they stood alone
fill_after : (j q m n : ℕ) → 1 ≤ j → n ≡ j * q + m → (next_multiple_of n j - n ≡ next_multiple_of m j - m) × (n / j + min 1 (n % j) ≡ q + (m / j + min 1 (m % j)))
fill_after j q m n h e = grind (arith, common_steps, mul-add-mod_self_left, mul-add-div)

-- of samples of whole blocks and others after them only the others are filled, as if they stood alone, and they make as many blocks more
pub filled_after : (s : Parameters) (q : ℕ) (p : ℤ) (xs ys : List ℤ) → 1 ≤ s.block → length xs ≡ s.block * q →
    (filled_samples s p (xs ++ ys) ≡ xs ++ filled_samples s (last_of p xs) ys) × (block_count s (length (xs ++ ys)) ≡ q + block_count s (length ys))
filled_after s q p xs ys h e =
    let j = s.block in
    let len : length (xs ++ ys) ≡ j * q + length ys = length-append xs ys ∙ ap (λ n. n + length ys) e in
    let f = fill_after j q (length ys) (length (xs ++ ys)) h len in
    grind (arith, common_steps, last_append, append_assoc)

-- whole blocks are not filled
pub own_blocks : (s : Parameters) (b q : ℕ) (p : ℤ) (xs : List ℤ) → 1 ≤ s.block → length xs ≡ s.block * q → blocks_of s b p xs ≡ blocks_from s b p q xs
own_blocks s b q p xs j len = let bare = not_filled s q p xs j len in λ i. blocks_from s b p (bare.1 i) (bare.0 i)

-- no zero blocks are sent past a segment's end
pub no_zeros_past_segment : {s : Parameters} (b : ℕ) (p : ℤ) (n : ℕ) (xs : List ℤ) → IsLegal s → IsSample s p → All (IsSample s) xs → length xs ≡ s.block * n → begins_segment s (b + n) ≡ true →
    length (blocks_in_all s b (data_sets s b false (blocks_from s b p n xs))) ≡ n
no_zeros_past_segment {s} b p n xs legal h k e begins =
    let j : 1 ≤ s.block = grind (arith, legal.block) in
    let cs = blocks_from s b p n xs in
    let count : length cs ≡ n = count_blocks s b p n xs in
    let sound = blocks_sound b p n xs legal j h (recursion_from_All (IsSample s) xs k) e in
    let cover = covers_blocks s b false cs legal.interval_from (are_blocks s b cs sound) in
    let P : ℕ → Type 0 = λ m. GoOn s (b + m) cover.fill in
    let none = no_fill s (b + n) cover.fill begins (subst P count cover.inside) in
    let Q : ℕ → Type 0 = λ m. length (blocks_in_all s m (data_sets s b false cs)) ≡ length (cs ++ replicate cover.fill (zero_block s None)) in
    let here : b + 0 ≡ b = omega arith in
    let all : length (blocks_in_all s b (data_sets s b false cs)) ≡ length (cs ++ replicate cover.fill (zero_block s None)) = subst Q here (ap length cover.blocks) in
    let f = length-append cs (replicate cover.fill (zero_block s None)) in
    let g = length-replicate cover.fill (zero_block s None) in
    at _ _ _ _ _ all f g count none
  where
    no_fill : (s : Parameters) (b fill : ℕ) → begins_segment s b ≡ true → GoOn s b fill → fill ≡ 0
    no_fill s b zero e h = refl
    no_fill s b (suc n) e h = absurd (let f : true ≡ false = sym e ∙ h.0 in cc)

    at : (x y len fill n : ℕ) {z : ℕ} → x ≡ y → y ≡ len + z → z ≡ fill → len ≡ n → fill ≡ 0 → x ≡ n
    at x y len fill n e f g h k = omega arith

-- where a segment begins after samples of whole blocks, the coded data sets of all are theirs, and then those of the samples after them
pub sets_go_on : (s : Parameters) → IsLegal s → (b q : ℕ) (p : ℤ) (xs ys : List ℤ) → length xs ≡ s.block * q → begins_segment s (b + q) ≡ true →
    sets_from s b p (xs ++ ys) ≡ sets_from s b p xs ++ sets_from s (b + q) (last_of p xs) ys
sets_go_on s legal b q p xs ys len begins =
    let j : 1 ≤ s.block = grind (arith, legal.block) in
    let n = block_count s (length ys) in
    let parts = filled_after s q p xs ys j len in
    let parted = parts.0 in
    let counted = parts.1 in
    let first = blocks_from s b p q xs in
    let second = blocks_of s (b + q) (last_of p xs) ys in
    let blocks : blocks_of s b p (xs ++ ys) ≡ first ++ second = (λ i. blocks_from s b p (counted i) (parted i)) ∙ blocks_append s b p q n xs (filled_samples s (last_of p xs) ys) len in
    let count : length first ≡ q = count_blocks s b p q xs in
    grind (arith, common_steps, common_steps, sets_of_segments, own_blocks)

-- samples of whole blocks, after which a segment begins
pub record WholeSegments (s : Parameters) (b blocks : ℕ) (p : ℤ) (xs : List ℤ) : Type 0 where
  pub before : IsSample s p
  pub samples : All (IsSample s) xs
  pub len : length xs ≡ s.block * blocks
  pub segment : begins_segment s (b + blocks) ≡ true

-- so the code of samples after them goes on from their last sample and their last bit
pub code_goes_on : {s : Parameters} → IsLegal s → (b position blocks : ℕ) (p : ℤ) (xs ys : List ℤ) → WholeSegments s b blocks p xs →
    let first = code_from s b position p xs in
    code_from s b position p (xs ++ ys) ≡ first ++ code_from s (b + blocks) (position + length first) (last_of p xs) ys
code_goes_on {s} legal b position q p xs ys sound =
    let j : 1 ≤ s.block = grind (arith, legal.block) in
    let sent = sets_from s b p xs in
    let later = sets_from s (b + q) (last_of p xs) ys in
    let n = block_count s (length ys) in
    let end = b + block_count s (length (xs ++ ys)) in
    let own = b + block_count s (length xs) in
    let counted = (filled_after s q p xs ys j sound.len).1 in
    let whole = (not_filled s q p xs j sound.len).1 in
    let place = ap (λ v. length (blocks_in_all s b (data_sets s b false v))) (own_blocks s b q p xs j sound.len) ∙ no_zeros_past_segment b p q xs legal sound.before sound.samples sound.len
    sound.segment in
    let inside = laid_inside s end own b position sent (omega arith) (omega arith) in
    let same : end ≡ b + q + n = omega arith in
    ap (λ v. layout s end b position v) (sets_go_on s legal b q p xs ys sound.len sound.segment)
    ∙ (laid_append s end b position sent later
    ∙ (ap (λ m. layout s end b position sent ++ layout s end (b + m) (position + length (layout s end b position sent)) later) place
    ∙ ((λ i. inside i ++ layout s end (b + q) (position + length (inside i)) later)
    ∙ ap (λ m. layout s own b position sent ++ layout s m (b + q) (position + length (layout s own b position sent)) later) same)))

-- The code of the whole segments among the first m samples begins the code of all.
pub code_grows : (s : Parameters) → IsLegal s → (xs : List ℤ) → All (IsSample s) xs → (m : ℕ) → m ≤ length xs → (rest : List Bool) × (code s xs ≡ code s (take (cut s m) xs) ++ rest)
code_grows s legal xs k m le =
    let start = cut_is_start s legal m in
    let b = start.0 in
    let c = cut s m in
    let front = take c xs in
    let len : length front ≡ s.block * b = length-take-le c xs (omega (arith, start.3)) ∙ start.1 in
    let here : 0 + b ≡ b = omega arith in
    let begins = ap (λ i. begins_segment s i) here ∙ start.2 in
    let samples = All-from_recursion (IsSample s) front (all_take (IsSample s) c xs (recursion_from_All (IsSample s) xs k)) in
    let e = code_goes_on legal 0 0 b (pos 0) front (drop c xs) (record { before = zero_is_sample s legal.bits_from; samples = samples; len = len; segment = begins }) in
    (code_from s (0 + b) (0 + length (code s front)) (last_of (pos 0) front) (drop c xs), ap (λ v. code s v) (sym (take-append-drop c xs)) ∙ e)

-- the bits without padding of samples up to where a segment begins, and those of the samples after them, are those of all
pub bits_go_on : (s : Parameters) → IsLegal s → (b blocks : ℕ) (p : ℤ) (xs ys : List ℤ) → length xs ≡ s.block * blocks → begins_segment s (b + blocks) ≡ true →
    bits_from s b p (xs ++ ys) ≡ bits_from s b p xs + bits_from s (b + blocks) (last_of p xs) ys
bits_go_on s legal b q p xs ys len begins =
    ap (λ v. sum_by (λ d. length (bits_of_set s d)) v) (sets_go_on s legal b q p xs ys len begins)
    ∙ sum_by-append (λ d. length (bits_of_set s d)) (sets_from s b p xs) (sets_from s (b + q) (last_of p xs) ys)
