-- No runs of the same zero blocks have fewer bits than the coder's one run.
use Rattle.std.proofs.Common.{◌≡◌, ℕ, zero, suc, ◌+◌, ◌-◌, ◌<◌, ◌≤◌, ◌==◌, Bool, true, false, cond, not, ◌||◌, List, [], ◌∷◌, ◌++◌, length, replicate, refl, ap, arith, sym, ◌∙◌, ◌⊎◌, inl, inr}
use Rattle.std.proofs.Common.{append-nil, length-append, Option, None}
use Rattle.rice_code.proofs.Words.{nat_tests, length-replicate, length-take, prefix_len-le-length, Parameters, id_len, begins_segment, blocks_left, BlockData, is_zero_block, zero_block, data_sets}
use Rattle.rice_code.proofs.lemmas.meaning.CoveredBlocks.{bool_cases, data_sets_inside, data_sets_plain, data_sets_start, nothing_more, run_cons, run_inside, skipped, skipped_go, skipped_nil}
use Rattle.rice_code.proofs.Words.{bits_of_set, reference_len, run_number, run_len, zero_run, zeros_of_run, common_steps}
use Rattle.rice_code.proofs.lemmas.{meaning.CoveredBlocks.skipped_plain, meaning.CoveredBlocks.skipped_stop, meaning.CoveredBlocks.zero_run_is, code.SegmentsOneByOne.head_of_segment}
use Rattle.rice_code.proofs.lemmas.encode.{PendingRuns.count_zeros, PendingRuns.is_zero_zeros, PendingRuns.skip_zeros, OptionTexts.run_cost, OptionTexts.run_text_len, SegmentBlocksInTurn.left_inside}
use Rattle.rice_code.proofs.lemmas.cost.{CostsOfSmallerBlocks.BeginAtMost, CostsOfSmallerBlocks.zero_at_most, WhereSetsEnd.IsFill, WhereSetsEnd.code_end, WhereSetsEnd.ends_later}

-- ---- the zeros of codewords

-- so many zeros are those of a codeword of n blocks from block b on, or more
abbrev pub IsLeastCodeword : Parameters → ℕ → ℕ → ℕ → Type 0
IsLeastCodeword s b n number = (run_number n ≤ number) ⊎ ((4 ≤ number) × (n ≡ blocks_left s b))

to_the_end : (v : Bool) (z : ℕ) → 1 ≤ z → v ≡ true → zeros_of_run v z ≤ 4
to_the_end v z h e = grind (arith, nat_tests)

as_numbered : (v : Bool) (z : ℕ) → 1 ≤ z → zeros_of_run v z ≤ run_number z
as_numbered v z h = grind (arith, nat_tests)

-- one run of n and m blocks takes no more zeros than two, and their ones and a bit of an identifier
one_for_two : (v w : Bool) (n m : ℕ) → 1 ≤ n → 1 ≤ m → (w ≡ true → v ≡ true) → zeros_of_run v (n + m) ≤ run_number n + zeros_of_run w m + 2
one_for_two v true n m h k e = let yes = e refl in grind (arith, nat_tests)
one_for_two v false n m h k e = grind (arith, nat_tests)

both_to_end : {z left : ℕ} (len n z' left' len' : ℕ) → z ≡ n + z' → left ≡ left' + n → len ≡ n + len' → (z' == left' || z' == len') ≡ true → (z == left || z == len) ≡ true
both_to_end len n z' left' len' e f g h = grind (arith, nat_tests)

fills_segment : (z left len : ℕ) → z ≡ left → (z == left || z == len) ≡ true
fills_segment z left len e = grind (arith, nat_tests)

-- the run reaches the end of its segment, or the last block
abbrev to_end : Parameters → ℕ → List BlockData → Bool
to_end s b cs = let z = run_len s b cs in z == blocks_left s b || z == length cs

abbrev run_bits : Parameters → Option ℕ → ℕ → ℕ
run_bits s r number = id_len s + 2 + reference_len s r + number

run_size : (s : Parameters) (b : ℕ) (r : Option ℕ) (cs : List BlockData) → length (bits_of_set s (zero_run s b r cs)) ≡ run_bits s r (zeros_of_run (to_end s b cs) (run_len s b cs))
run_size s b r cs = let v = to_end s b cs in let z = run_len s b cs in omega (arith, run_text_len s v r z, run_cost s v r z)

-- ---- where the coder goes on

-- a block of zeros, and others up to the end
record ZeroBlockFirst (s : Parameters) (b end : ℕ) (c : BlockData) (cs : List BlockData) : Type 0 where
  interval : 1 ≤ s.interval
  zero : is_zero_block c ≡ true
  end_is : end ≡ b + suc (length cs)

-- after the last block of its run that there is
run_laid : (s : Parameters) (fill : ℕ → ℕ → ℕ) (b : ℕ) {end : ℕ} (p : ℕ) (r : Option ℕ) (c : BlockData) (cs : List BlockData) → ZeroBlockFirst s b end c cs →
    code_end s fill end b p (zero_run s b r (c ∷ cs) ∷ data_sets s (b + 1) true cs)
    ≡ (let next = b + run_len s b (c ∷ cs) in code_end s fill end next (fill next (p + length (bits_of_set s (zero_run s b r (c ∷ cs))))) (data_sets s (b + 1) true cs))
run_laid s fill b {end} p r c cs first = grind (arith, common_steps, run_cons, prefix_len-le-length, length-take, length-replicate, zero_block, zero_run_is, nothing_more, run_inside)

-- A run that goes on at block b: the coder would begin there with the rest of the run.
record GoesOn (s : Parameters) (fill : ℕ → ℕ → ℕ) (b : ℕ) (cs : List BlockData) : Type 0 where
  pub reference : Option ℕ
  pub some : 1 ≤ skipped s b true cs
  pub count : run_len s b cs ≡ skipped s b true cs
  pub laid : (end p : ℕ) → end ≡ b + length cs → code_end s fill end b p (data_sets s b false cs)
      ≡ (let next = b + run_len s b cs in code_end s fill end next (fill next (p + length (bits_of_set s (zero_run s b reference cs)))) (data_sets s b true cs))

run_or_afresh : (s : Parameters) (fill : ℕ → ℕ → ℕ) (b : ℕ) (cs : List BlockData) → 1 ≤ s.interval → ((skipped s b true cs ≡ 0) × (data_sets s b true cs ≡ data_sets s b false cs)) ⊎ GoesOn s fill b cs
run_or_afresh s fill b [] h = inl (skipped_nil s b true, refl)
run_or_afresh s fill b (c ∷ cs) h =
    elim (bool_cases (begins_segment s b)) [
      | inl e ↦ inl (skipped_stop s b true (c ∷ cs) (ap not e), head_of_segment s b true false (c ∷ cs) e)
      | inr e ↦ elim (bool_cases (is_zero_block c)) [
        | inr plain ↦ inl (skipped_plain s b true c cs h plain, data_sets_plain s b true c cs plain ∙ sym (data_sets_plain s b false c cs plain))
        | inl z ↦
            let inside = data_sets_inside s b true c cs z (ap not e) in
            let next = b + run_len s b (c ∷ cs) in
            inr (record {
              reference = c.reference;
              some = omega (arith, skipped_go s b true c cs h z (ap not e));
              count = sym (ap (λ v. cond (not v) (run_len s b (c ∷ cs)) 0) e);
              laid = grind (arith, common_steps, data_sets_start, run_laid);
            })
      ]
    ]

-- ---- one run in place of several

-- zero blocks, the first perhaps with a reference, and others after them
abbrev zeros_and : Parameters → Option ℕ → ℕ → List BlockData → List BlockData
zeros_and s r w rest = zero_block s r ∷ (replicate w (zero_block s None) ++ rest)

-- how long the coder's run of them is, and where the coder goes on
front_count : (s : Parameters) (b w : ℕ) (r : Option ℕ) (rest : List BlockData) → 1 ≤ s.interval → suc w ≤ blocks_left s b
    → run_len s b (zeros_and s r w rest) ≡ suc w + skipped s (b + 1 + w) true rest
front_count s b w r rest h le = omega (arith, run_cons s b (zero_block s r) (replicate w (zero_block s None) ++ rest) h (is_zero_zeros s r), count_zeros s b w rest h le)

front_len : (s : Parameters) (w : ℕ) (r : Option ℕ) (rest : List BlockData) → length (zeros_and s r w rest) ≡ suc w + length rest
front_len s w r rest = omega (arith, length-append (replicate w (zero_block s None)) rest, length-replicate w (zero_block s None))

front_laid : (s : Parameters) (fill : ℕ → ℕ → ℕ) (b : ℕ) {end : ℕ} (p : ℕ) {w : ℕ} (r : Option ℕ) (rest : List BlockData) → 1 ≤ s.interval → suc w ≤ blocks_left s b → end ≡ b + 1 + w + length rest →
    let all = zeros_and s r w rest in
    code_end s fill end b p (data_sets s b false all)
    ≡ (let next = b + run_len s b all in code_end s fill end next (fill next (p + length (bits_of_set s (zero_run s b r all)))) (data_sets s (b + 1 + w) true rest))
front_laid s fill b {end} p {w} r rest h le e =
    let ahead = replicate w (zero_block s None) ++ rest in
    let all = zeros_and s r w rest in
    let next = b + run_len s b all in
    let bits = fill next (p + length (bits_of_set s (zero_run s b r all))) in
    ap (λ l. code_end s fill end b p l) (data_sets_start s b false (zero_block s r) ahead (is_zero_zeros s r) refl)
    ∙ (run_laid s fill b p r (zero_block s r) ahead (record { interval = h; zero = is_zero_zeros s r; end_is = omega (arith, e, front_len s w r rest) }) ∙ ap
    (λ l. code_end s fill end next bits l) (skip_zeros s b w rest h le))

-- a run of blocks of zeros in one interval, and the least codeword of a run of as many
pub record LeastRun (s : Parameters) (b n number : ℕ) : Type 0 where
  pub interval : 1 ≤ s.interval
  pub inside : n ≤ blocks_left s b
  pub least : IsLeastCodeword s b n number

-- by a run of these alone and then by the coder's choice for the others, or by the coder's choice for all
pub run_and_more : {s : Parameters} {fill : ℕ → ℕ → ℕ} (b : ℕ) {end p q w : ℕ} (number : ℕ) {others : ℕ} (r : Option ℕ) (rest : List BlockData) →
    IsFill s fill → LeastRun s b (suc w) number → end ≡ b + 1 + w + length rest → p ≤ q →
    ((position : ℕ) → position ≤ fill (b + 1 + w) (q + run_bits s r number) → code_end s fill end (b + 1 + w) position (data_sets s (b + 1 + w) false rest) ≤ others) →
    code_end s fill end b p (data_sets s b false (zeros_and s r w rest)) ≤ others
run_and_more {s} {fill} b {end} {p} {q} {w} number r rest is run e begins more =
    let all = zeros_and s r w rest in
    let z = run_len s b all in
    let v = to_end s b all in
    let here = b + 1 + w in
    let text = length (bits_of_set s (zero_run s b r all)) in
    let size = run_size s b r all in
    let later = data_sets s here true rest in
    let count = front_count s b w r rest run.interval run.inside in
    let laid = front_laid s fill b p r rest run.interval run.inside e in
    elim (run_or_afresh s fill here rest run.interval) [
      | inl none ↦
          let exact : z ≡ suc w = omega (arith, count, none.0) in
          let few : zeros_of_run v z ≤ number = grind (arith, common_steps, as_numbered, to_the_end, fills_segment) in
          let next : b + z ≡ here = omega (arith, exact) in
          let moved = ap (λ n. code_end s fill end n (fill n (p + text)) later) next ∙ ap (λ l. code_end s fill end here (fill here (p + text)) l) none.1 in
          omega (arith, laid, moved, more (fill here (p + text)) (is.rises here (p + text) (q + run_bits s r number) (omega (arith, size, few, begins))))
      | inr on ↦
          let z' = run_len s here rest in
          let v' = to_end s here rest in
          let joined : z ≡ suc w + z' = omega (arith, count, on.count) in
          let inside : suc w < blocks_left s b = omega (arith, run_inside s b all, count, on.some) in
          let numbered : run_number (suc w) ≤ number = elim run.least [ inl numbered ↦ numbered | inr full ↦ absurd (omega (arith, full.1, inside)) ] in
          let left : blocks_left s b ≡ blocks_left s here + suc w = (let n : b + suc w ≡ here = omega arith in omega (arith, left_inside s b (suc w) run.interval inside, ap (blocks_left s) n)) in
          let ends = both_to_end (length all) (suc w) z' (blocks_left s here) (length rest) joined left (front_len s w r rest) in
          let few = one_for_two v v' (suc w) z' (omega arith) (omega (arith, on.some, on.count)) ends in
          let theirs = fill here (q + run_bits s r number) in
          let text' = length (bits_of_set s (zero_run s here on.reference rest)) in
          let fewer : p + text ≤ theirs + text' = omega (arith, size, run_size s here on.reference rest, few, ap (zeros_of_run v) joined, numbered, is.more here (q + run_bits s r number), begins) in
          let next : b + z ≡ here + z' = omega (arith, joined) in
          let moved = ap (λ n. code_end s fill end n (fill n (p + text)) later) next in
          let earlier = ends_later s fill end (here + z') (fill (here + z') (p + text)) (fill (here + z') (theirs + text')) later is (is.rises (here + z') (p + text) (theirs + text') fewer) in
          omega (arith, laid, moved, earlier, on.laid end theirs e, more theirs (omega arith))
    ]

-- the last zero blocks, by a run of more
last_run : {s : Parameters} {fill : ℕ → ℕ → ℕ} (b : ℕ) {end p q j n : ℕ} (number : ℕ) (r : Option ℕ) → IsFill s fill → LeastRun s b n number → suc j < n → end ≡ b + suc j → p ≤ q →
    code_end s fill end b p (data_sets s b false (zeros_and s r j [])) ≤ q + run_bits s r number
last_run {s} {fill} b {end} {p} {j} {n} number r is run some e begins = grind (arith, common_steps, front_count, skipped_nil, front_len, to_the_end, front_laid, run_size)

-- the first zero blocks are all there, or the list ends among them
run_splits : (s : Parameters) (w : ℕ) (cs ys : List BlockData) → BeginAtMost cs (replicate w (zero_block s None) ++ ys) →
    ((rest : List BlockData) × (cs ≡ replicate w (zero_block s None) ++ rest) × BeginAtMost rest ys) ⊎ ((k : ℕ) × (k < w) × (cs ≡ replicate k (zero_block s None)))
run_splits s zero cs ys h = inl (cs, refl, h)
run_splits s (suc w) [] ys h = inr (0, omega arith, refl)
run_splits s (suc w) (c ∷ cs) ys h =
    let first = zero_at_most s None c h.0 in
    elim (run_splits s w cs ys h.1) [
      | inl go ↦ let same = go.1 in inl (go.0, λ i. first i ∷ same i, go.2)
      | inr stop ↦ let same = stop.2 in inr (suc stop.0, omega (arith, stop.1), λ i. first i ∷ same i)
    ]

-- what follows a run ends no later than the others do
pub record OthersAfterRun (s : Parameters) (fill : ℕ → ℕ → ℕ) (b end q w number others : ℕ) (r : Option ℕ) (ys : List BlockData) : Type 0 where
  pub ends : fill (b + 1 + w) (q + run_bits s r number) ≤ others
  pub rest : ((rest : List BlockData) (position : ℕ) → BeginAtMost rest ys → end ≡ b + 1 + w + length rest → position ≤ fill (b + 1 + w) (q + run_bits s r number)
      → code_end s fill end (b + 1 + w) position (data_sets s (b + 1 + w) false rest) ≤ others)

-- blocks that another code begins with a run, where the coder's choice for those after the run ends no later than the other code
pub by_run : {s : Parameters} {fill : ℕ → ℕ → ℕ} {b end p q w number others : ℕ} (r : Option ℕ) (cs ys : List BlockData) →
    IsFill s fill → LeastRun s b (suc w) number → end ≡ b + length cs → p ≤ q →
    BeginAtMost cs (zeros_and s r w ys) → OthersAfterRun s fill b end q w number others r ys → code_end s fill end b p (data_sets s b false cs) ≤ others
by_run {s} {b} {q} {w} {number} r [] ys is run e begins below after = omega (arith, begins, is.more (b + 1 + w) (q + run_bits s r number), after.ends)
by_run {s} {fill} {b} {end} {p} {q} {w} {number} {others} r (c ∷ cs) ys is run e begins below after =
    let first = zero_at_most s r c below.0 in
    let sent = λ (l : List BlockData). code_end s fill end b p (data_sets s b false l) in
    elim (run_splits s w cs ys below.1) [
      | inl go ↦
          let same = go.1 in
          let all : c ∷ cs ≡ zeros_and s r w go.0 = λ i. first i ∷ same i in
          let len : end ≡ b + 1 + w + length go.0 = omega (arith, e, ap length all, front_len s w r go.0) in
          omega (arith, ap sent all, run_and_more b number r go.0 is run len begins (λ position least. after.rest go.0 position go.2 len least))
      | inr stop ↦
          let same = stop.2 ∙ sym (append-nil (replicate stop.0 (zero_block s None))) in
          let all : c ∷ cs ≡ zeros_and s r stop.0 [] = λ i. first i ∷ same i in
          let len : end ≡ b + suc stop.0 = omega (arith, e, ap length all, front_len s stop.0 r []) in
          omega (arith, ap sent all, last_run b number r is run (omega (arith, stop.1)) len begins, is.more (b + 1 + w) (q + run_bits s r number), after.ends)
    ]
