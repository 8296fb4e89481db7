-- A segment's blocks are coded one by one.
use Rattle.std.proofs.Common.{◌≡◌, ℕ, zero, suc, ◌+◌, ◌-◌, ◌*◌, ◌^◌, ◌<◌, ◌≤◌, min, Bool, true, false, cond, List, [], ◌∷◌}
use Rattle.std.proofs.Common.{◌++◌, length, take, drop, refl, ap, arith, sym, ◌∙◌, inl, inr, subst, append_assoc, append-nil, length-append, Option, None}
use Rattle.rice_code.proofs.Words.{sum_by, slice_range, cases_lt, drop_all, sum_by-cons, flat_map-append, mul-le-mul_left, mul-le-mul_right, Parameters, k_max, begins_segment, blocks_left}
use Rattle.rice_code.proofs.Words.{one_less_left, last_of_segment, BlockData, is_zero_block, bits_of_set, cost, bits_of_sets, data_sets, shortest, best_split, run_of_blocks, pending_zeros}
use Rattle.rice_code.proofs.Words.{pending_run, held_blocks, reference_at, block_with, IsSoundData, AreSoundBlocks, IsSoundBlock, least_looks, most_looks, common_steps}
use Rattle.rice_code.proofs.lemmas.{meaning.CoveredBlocks.bool_cases, meaning.CoveredBlocks.zero_block_is, cost.CostIsLength.cost_is_length, cost.BlockBounds.shortest_is_form}
use Rattle.rice_code.proofs.lemmas.{encode.OptionTexts.run_text_len}
use Rattle.rice_code.proofs.lemmas.encode.PendingRuns.{run_then_block, run_ends, zero_block_joins_run, held_at, held_len, drop_sound}

-- the text of a run is as long as it costs
pub length-pending_bits : (s : Parameters) (to_end : Bool) (r : Option ℕ) (run : ℕ) → 0 < run → length (bits_of_sets s (pending_run to_end r run)) ≡ cost s (run_of_blocks to_end r run)
length-pending_bits s to_end r zero h = absurd (omega arith)
length-pending_bits s to_end r (suc w) h = omega (arith, length-append (bits_of_set s (run_of_blocks to_end r (suc w))) [], run_text_len s to_end r (suc w))

-- a meter after some steps, bounded in two ways, and after n more
pub record StepsOfTwo (j k limit m0 m1 m2 n : ℕ) : Type 0 where
  pub by_split : m1 ≤ m0 + j * (k + 3)
  pub by_limit : m1 ≤ m0 + j * (limit + 2)
  pub more : m2 ≤ m1 + n + 2 * j

-- the steps of coding a block
pub steps_least : (j k limit m0 m1 m2 n : ℕ) → StepsOfTwo j k limit m0 m1 m2 n → m2 ≤ m0 + n + j * (min (k + 1) limit + 4)
steps_least j k limit m0 m1 m2 n steps =
    elim (cases_lt (k + 1) limit) [
      | inl lt ↦ let e : min (k + 1) limit ≡ k + 1 = omega arith in let f = ap (λ v. j * (v + 4)) e in omega (arith, f)
      | inr le ↦ let e : min (k + 1) limit ≡ limit = omega arith in let f = ap (λ v. j * (v + 4)) e in omega (arith, f)
    ]

-- the blocks left, `i` blocks on
pub left_inside : (s : Parameters) (b i : ℕ) → 1 ≤ s.interval → i < blocks_left s b → blocks_left s (b + i) + i ≡ blocks_left s b
left_inside s b zero h k = let e : b + 0 ≡ b = omega arith in let f = ap (blocks_left s) e in omega (arith, f)
left_inside s b (suc i) h k =
    elim (bool_cases (begins_segment s (b + 1))) [
      | inl e ↦ absurd (let f = last_of_segment s b h e in omega arith)
      | inr e ↦
          let f = one_less_left s b h e in
          let ih = left_inside s (b + 1) i h (omega arith) in
          let n : b + 1 + i ≡ b + suc i = omega arith in
          let g = ap (blocks_left s) n in
          omega (arith, f, ih, g)
    ]

-- the code that is still to come when `run` zero blocks before block i are pending
abbrev pub to_come : Parameters → ℕ → Option ℕ → ℕ → List ℕ → ℕ → ℕ → List Bool
to_come s start r n ds i run = bits_of_sets s (data_sets s (start + (i - run)) false (pending_zeros s (reference_at r (i - run)) run ++ drop i (held_blocks s r n ds)))

-- block i
abbrev pub held : Parameters → Option ℕ → List ℕ → ℕ → BlockData
held s r ds i = block_with (reference_at r i) (take s.block (drop (i * s.block) ds))

-- the residuals of block i are a range of all
pub held_range : (s : Parameters) (ds : List ℕ) (i : ℕ) → slice_range ds (i * s.block) (i * s.block + s.block) ≡ take s.block (drop (i * s.block) ds)
held_range s ds i = let e : i * s.block + s.block - i * s.block ≡ s.block = omega arith in ap (λ n. take n (drop (i * s.block) ds)) e

-- and it is sound at its place, if all blocks that are held are sound
pub held_sound : (s : Parameters) (start : ℕ) (r : Option ℕ) (n : ℕ) (ds : List ℕ) (i : ℕ) → i < n → AreSoundBlocks s start (held_blocks s r n ds) → IsSoundBlock s (start + i) (held s r ds i)
held_sound s start r n ds i h k = (subst (λ cs. AreSoundBlocks s (start + i) cs) (held_at s r n i ds h) (drop_sound s start i (held_blocks s r n ds) k)).0

-- the contents of a sound block are sound wherever it stands
pub sound_of : (s : Parameters) (b : ℕ) (c : BlockData) → IsSoundBlock s b c → IsSoundData s c
sound_of s b c h = record { len = h.block.len; fit = h.fit; reference = h.block.reference.fits; zero = h.at_reference }

reference_first : (r : Option ℕ) (i run : ℕ) → run ≡ 0 → reference_at r i ≡ reference_at r (i - run)
reference_first r i run e = let f : i ≡ i - run = omega arith in ap (reference_at r) f

reference_later : (r : Option ℕ) (i run : ℕ) → run ≤ i → 0 < run → reference_at r i ≡ None
reference_later r zero run h k = absurd (omega arith)
reference_later r (suc i) run h k = refl

-- a block of zeros joins the pending run, and the code that is to come is the same
pub next_zero : (s : Parameters) (start : ℕ) (r : Option ℕ) {n : ℕ} (ds : List ℕ) {i run : ℕ} → run ≤ i → i < n → AreSoundBlocks s start (held_blocks s r n ds) →
    is_zero_block (held s r ds i) ≡ true → to_come s start r n ds i run ≡ to_come s start r n ds (i + 1) (run + 1)
next_zero s start r {n} ds {i} {run} h k sound z =
    let c = held s r ds i in
    let rest = drop (i + 1) (held_blocks s r n ds) in
    let e = held_at s r n i ds k in
    let f = zero_block_joins_run s run (reference_at r (i - run)) (reference_at r i) c rest
    (zero_block_is s (start + i) c (held_sound s start r n ds i k sound).block z) (reference_first r i run) (reference_later r i run h) in
    let g : i - run ≡ i + 1 - (run + 1) = omega arith in
    grind (arith, common_steps)

run_is_inside : (s : Parameters) (start n i run : ℕ) → 1 ≤ s.interval → run ≤ i → i < n → n ≤ blocks_left s start → run < blocks_left s (start + (i - run))
run_is_inside s start n i run h k l m = let e = left_inside s start (i - run) h (omega arith) in omega arith

-- before another block the code of the pending run comes, and then the shortest code of the block
pub next_other : (s : Parameters) (start : ℕ) (r : Option ℕ) {n : ℕ} (ds : List ℕ) {i run : ℕ} → 1 ≤ s.interval → n ≤ blocks_left s start → run ≤ i → i < n →
    is_zero_block (held s r ds i) ≡ false → to_come s start r n ds i run ≡ bits_of_sets s (pending_run false (reference_at r (i - run)) run)
    ++ (bits_of_set s (shortest s (held s r ds i)) ++ to_come s start r n ds (i + 1) 0)
next_other s start r {n} ds {i} {run} h m l k z =
    let c = held s r ds i in
    let rest = drop (i + 1) (held_blocks s r n ds) in
    let e = held_at s r n i ds k in
    let b = start + (i - run) in
    let f = run_then_block s b run (reference_at r (i - run)) c rest h (run_is_inside s start n i run h l k m) z in
    let g : b + run + 1 ≡ start + (i + 1 - 0) = omega arith in
    grind (arith, common_steps, flat_map-append)

-- and at the end only the code of the pending run is to come
pub at_end : (s : Parameters) (start : ℕ) (r : Option ℕ) (n : ℕ) (ds : List ℕ) (run : ℕ) → 1 ≤ s.interval → n ≤ blocks_left s start → run ≤ n →
    to_come s start r n ds n run ≡ bits_of_sets s (pending_run true (reference_at r (n - run)) run)
at_end s start r n ds run h m l =
    let b = start + (n - run) in
    let none = drop_all n (held_blocks s r n ds) (let e = held_len s r n ds in omega arith) in
    ap (λ cs. bits_of_sets s (data_sets s b false (pending_zeros s (reference_at r (n - run)) run ++ cs))) none
    ∙ (ap (λ cs. bits_of_sets s (data_sets s b false cs)) (append-nil (pending_zeros s (reference_at r (n - run)) run))
    ∙ ap (bits_of_sets s) (run_ends s b run (reference_at r (n - run)) h (enough run l)))
  where
    enough : (run : ℕ) → run ≤ n → run ≤ blocks_left s (start + (n - run))
    enough zero l = omega arith
    enough (suc w) l = let e = left_inside s start (n - suc w) h (omega arith) in omega arith

-- one block more is summed
pub sum_next : (f : BlockData → ℕ) (i : ℕ) (cs : List BlockData) (c : BlockData) (rest : List BlockData) → drop i cs ≡ c ∷ rest → sum_by f (take (i + 1) cs) ≡ sum_by f (take i cs) + f c
sum_next f i [] c rest e = absurd (let g : [] ≡ c ∷ rest = sym (drop_all i [] (omega arith)) ∙ e in cc)
sum_next f zero (d ∷ cs) c rest e = let g : d ≡ c = cc in ap (λ x. sum_by f (x ∷ [])) g
sum_next f (suc i) (d ∷ cs) c rest e = grind (arith, common_steps, sum_by-cons, sum_next f i cs c rest e)

-- one block takes at most so many looks, whatever its residuals are,
pub most_of_one : (s : Parameters) (c : BlockData) → most_looks s c ≤ s.block * (k_max s + 5)
most_of_one s c =
    let p : s.block * (min (best_split s c + 1) (k_max s) + 5) ≤ s.block * (k_max s + 5) = mul-le-mul_left s.block (omega arith) in
    elim (is_zero_block c) as (λ v. cond v s.block (s.block * (min (best_split s c + 1) (k_max s) + 5)) ≤ s.block * (k_max s + 5)) [ true ↦ omega arith | false ↦ p ]

-- and i blocks take at most i times as many
pub most_of_all : (s : Parameters) (i : ℕ) (cs : List BlockData) → sum_by (most_looks s) (take i cs) ≤ i * (s.block * (k_max s + 5))
most_of_all s zero cs = omega arith
most_of_all s (suc i) [] = omega arith
most_of_all s (suc i) (c ∷ cs) = grind (arith, common_steps, sum_by-cons, most_of_one, most_of_all s i cs)

-- a block of zeros takes one look at each of its residuals, no fewer and no more
pub looks_zero : (s : Parameters) (c : BlockData) → is_zero_block c ≡ true → (least_looks s c ≡ s.block) × (most_looks s c ≡ s.block)
looks_zero s c e = (ap (λ v. cond v s.block (s.block * (best_split s c + 3) - 1)) e, ap (λ v. cond v s.block (s.block * (min (best_split s c + 1) (k_max s) + 5))) e)

-- the fewest and the most looks that another block takes
pub looks_other : (s : Parameters) (c : BlockData) → is_zero_block c ≡ false → (least_looks s c ≡ s.block * (best_split s c + 3) - 1)
    × (most_looks s c ≡ s.block * (min (best_split s c + 1) (k_max s) + 5))
looks_other s c e = (ap (λ v. cond v s.block (s.block * (best_split s c + 3) - 1)) e, ap (λ v. cond v s.block (s.block * (min (best_split s c + 1) (k_max s) + 5))) e)

-- the text of a block by its shortest option is as long as its cost
pub shortest_len : (s : Parameters) (b : ℕ) (c : BlockData) → 1 ≤ s.block → IsSoundBlock s b c → length (bits_of_set s (shortest s c)) ≡ cost s (shortest s c)
shortest_len s b c j h = cost_is_length s b (shortest s c) j (shortest_is_form s b c h)

-- a block of a segment, after a run
pub record BlockAfterRun (s : Parameters) (start n i run : ℕ) : Type 0 where
  pub inside : n ≤ blocks_left s start
  pub run_before : run ≤ i
  pub below : i < n

-- intervals of blocks, and blocks of samples
pub record SomeBlocks (s : Parameters) : Type 0 where
  pub interval : 1 ≤ s.interval
  pub block : 1 ≤ s.block

-- sound blocks, of which this one is no block of zeros
pub record OtherBlock (s : Parameters) (start : ℕ) (r : Option ℕ) (n : ℕ) (ds : List ℕ) (i : ℕ) : Type 0 where
  pub sound : AreSoundBlocks s start (held_blocks s r n ds)
  pub no_zeros : is_zero_block (held s r ds i) ≡ false

-- what is put has room
pub room_other : {s : Parameters} {start : ℕ} (r : Option ℕ) {n : ℕ} (ds : List ℕ) {i run : ℕ} (sink before all : List Bool) → SomeBlocks s
    → BlockAfterRun s start n i run → OtherBlock s start r n ds i → sink ++ to_come s start r n ds i run ≡ before ++ all →
    length sink + length (bits_of_sets s (pending_run false (reference_at r (i - run)) run)) + cost s (shortest s (held s r ds i)) ≤ length before + length all
room_other {s} {start} r {n} ds {i} {run} sink before all some place other same =
    let c = held s r ds i in
    let w = bits_of_sets s (pending_run false (reference_at r (i - run)) run) in
    let rest = to_come s start r n ds (i + 1) 0 in
    let e = ap length (sym same ∙ ap (λ v. sink ++ v) (next_other s start r ds some.interval place.inside place.run_before place.below other.no_zeros)) in
    let a = length-append before all in
    let b = length-append sink (w ++ (bits_of_set s (shortest s c) ++ rest)) in
    let d = length-append w (bits_of_set s (shortest s c) ++ rest) in
    let f = length-append (bits_of_set s (shortest s c)) rest in
    let g = shortest_len s (start + i) c some.block (held_sound s start r n ds i place.below other.sound) in
    omega (arith, e, a, b, d, f, g)

-- a sink and what is to come are together as long as what stood before and all that was to come then
pub room_within : (sink more before all : List Bool) → sink ++ more ≡ before ++ all → length sink + length more ≡ length before + length all
room_within sink more before all e = omega (arith, ap length e, length-append sink more, length-append before all)

-- a meter and a sink after i of n blocks: the meter grew by no more than what was put and x for each block
pub record MeterAfter (m m0 a a0 t put total i n x : ℕ) : Type 0 where
  pub grown : m + a0 ≤ m0 + a + total
  pub by_blocks : total ≤ i * x
  pub put_is : a + put ≤ a0 + t
  pub fits : m0 + t + n * x < 2 ^ 62

-- the meter has room for one block more
pub meter_fits : {m m0 a a0 t put total i n : ℕ} (x : ℕ) → MeterAfter m m0 a a0 t put total i n x → i < n → m + put + x < 2 ^ 62
meter_fits {i} {n} x meter h = grind (arith, common_steps, mul-le-mul_right)

-- and for what is put after any number of them
pub meter_ends : {m m0 a a0 t put total i n : ℕ} (x : ℕ) → MeterAfter m m0 a a0 t put total i n x → i ≤ n → m + put < 2 ^ 62
meter_ends {i} {n} x meter h = grind (arith, common_steps, mul-le-mul_right)

-- a look at each of j residuals is among the most looks of a block
pub looks_more : (j k : ℕ) → j ≤ j * (k + 5)
looks_more j k = let e : j * 1 ≤ j * (k + 5) = mul-le-mul_left j (omega arith) in omega (arith, e)

-- where a run and a block were put, what was put and what is to come make up the same whole
pub other_same : (sink new w x y total : List Bool) → new ≡ sink ++ w ++ x → sink ++ (w ++ (x ++ y)) ≡ total → new ++ y ≡ total
other_same sink new w x y total e f =
    ap (λ v. v ++ y) e ∙ (append_assoc (sink ++ w) x y ∙ (append_assoc sink w (x ++ y) ∙ f))

-- a meter that had grown by some, and grows by more
pub record GrowsAtLeast (j k m0 m m' a a' a0 put total : ℕ) : Type 0 where
  pub before : m0 + a + total ≤ m + a0
  pub more : m + put + j * (k + 4) ≤ m' + 1
  pub put_is : a' ≡ a + put

-- the steps of one block more
pub least_more : {j k least m0 m m' a a' : ℕ} (a0 put total : ℕ) → 1 ≤ j → GrowsAtLeast j k m0 m m' a a' a0 put total
    → least ≡ j * (k + 3) - 1 → m0 + a' + (total + least) ≤ m' + a0
least_more {j} {k} a0 put total h grows f = grind (arith, common_steps)

-- a meter that had grown by no more, and grows by no more
pub record GrowsAtMost (m0 m m' a a' a0 put total x : ℕ) : Type 0 where
  pub before : m + a0 ≤ m0 + a + total
  pub more : m' ≤ m + put + x
  pub put_is : a' ≡ a + put

-- and the most steps of one block more
pub most_more : {most : ℕ} (m0 m m' a : ℕ) {a' : ℕ} (a0 put total : ℕ) {x : ℕ} → GrowsAtMost m0 m m' a a' a0 put total x → most ≡ x → m' + a0 ≤ m0 + a' + (total + most)
most_more m0 m m' a a0 put total grows f = omega arith

-- a text is as long as its front and what was put after it
pub length_both : (new old more : List Bool) → new ≡ old ++ more → length new ≡ length old + length more
length_both new old more e = ap length e ∙ length-append old more
