-- The coded data sets of blocks stand for those blocks, in order, and for no more than the rest of a segment of zero blocks.
use Rattle.std.proofs.Common.{◌≡◌, ℕ, zero, suc, ◌+◌, ◌-◌, ◌<◌, ◌≤◌, ◌==◌, Bool, true, false, cond, not, ◌&&◌, ◌||◌, nat_le, nat_lt, map, List, []}
use Rattle.std.proofs.Common.{◌∷◌, ◌++◌, length, take, drop, replicate, refl, ap, arith, sym, ◌∙◌, ◌⊎◌, inl, inr, append_assoc, Option, Some, None, lit<, append-nil, subst}
use Rattle.rice_code.proofs.Words.{is_some, list_all, prefix_len, best_of, range_with_len, AllByRecursion, nat_tests, take-append-drop, length-replicate, replicate-append-replicate, length-take}
use Rattle.rice_code.proofs.Words.{prefix_len-le-length, take-length, Parameters, k_max, is_reference, begins_segment, blocks_left, some_left, one_less_left, last_of_segment, reference_begins}
use Rattle.rice_code.proofs.Words.{BlockData, is_zero_block, zero_block, CodedDataSet, NoCompression, Split, ZeroBlocks, RemainderOfSegment, cost, shortest, other_options, data_sets, zero_run}
use Rattle.rice_code.proofs.Words.{run_len, IsBlock, blocks_in, blocks_in_all, zero_blocks, eqb-true, common_steps}

-- each block is one, from block b on
abbrev pub AreBlocks : Parameters → ℕ → List BlockData → Type 0
AreBlocks s b [] = Unit {0}
AreBlocks s b (c ∷ cs) = IsBlock s b c × AreBlocks s (b + 1) cs

-- a test holds, or it does not
pub bool_cases : (b : Bool) → (b ≡ true) ⊎ (b ≡ false)
bool_cases true = inl refl
bool_cases false = inr refl

-- where two tests hold together, each holds
pub and-split : (a b : Bool) → (a && b) ≡ true → (a ≡ true) × (b ≡ true)
and-split true b e = (refl, e)
and-split false b e = absurd (let f : false ≡ true = e in cc)

all_zero : (ds : List ℕ) → list_all (λ d. d == 0) ds ≡ true → ds ≡ replicate (length ds) 0
all_zero [] e = refl
all_zero (d ∷ ds) e =
    let p = and-split (d == 0) (list_all (λ d. d == 0) ds) e in
    let first = eqb-true d 0 p.0 in
    let rest = all_zero ds p.1 in
    cc

-- a zero block is one of zeros
pub zero_block_is : (s : Parameters) (b : ℕ) (c : BlockData) → IsBlock s b c → is_zero_block c ≡ true → c ≡ zero_block s c.reference
zero_block_is s b c h e = grind (arith, common_steps, all_zero)

is_some-false : (r : Option ℕ) → is_some r ≡ false → r ≡ None
is_some-false None e = refl
is_some-false (Some v) e = absurd cc

-- the zero blocks at the front that a run before block b stands for
abbrev pub skipped : Parameters → ℕ → Bool → List BlockData → ℕ
skipped s b after_zero cs = cond (after_zero && not (begins_segment s b)) (run_len s b cs) 0

run_of : (n : ℕ) (c : BlockData) (cs : List BlockData) → is_zero_block c ≡ true → prefix_len is_zero_block (take (suc n) (c ∷ cs)) ≡ suc (prefix_len is_zero_block (take n cs))
run_of n c cs z = ap (λ v. cond v (1 + prefix_len is_zero_block (take n cs)) 0) z ∙ (omega arith)

-- a zero block begins a run of one more than would be skipped after it
pub run_cons : (s : Parameters) (b : ℕ) (c : BlockData) (cs : List BlockData) → 1 ≤ s.interval → is_zero_block c ≡ true → run_len s b (c ∷ cs) ≡ suc (skipped s (b + 1) true cs)
run_cons s b c cs h z = grind (arith, common_steps, bool_cases, last_of_segment, run_of, one_less_left)

-- a block that is not zero is sent by its shortest option
pub data_sets_plain : (s : Parameters) (b : ℕ) (after : Bool) (c : BlockData) (cs : List BlockData) → is_zero_block c ≡ false
    → data_sets s b after (c ∷ cs) ≡ shortest s c ∷ data_sets s (b + 1) false cs
data_sets_plain s b after c cs e = rw e refl

-- a zero block that is in no run yet begins one, which is sent
pub data_sets_start : (s : Parameters) (b : ℕ) (after : Bool) (c : BlockData) (cs : List BlockData) → is_zero_block c ≡ true → (after && not (begins_segment s b)) ≡ false →
    data_sets s b after (c ∷ cs) ≡ zero_run s b c.reference (c ∷ cs) ∷ data_sets s (b + 1) true cs
data_sets_start s b after c cs e f = grind (arith, common_steps)

-- and for one that is in a run nothing more is sent
pub data_sets_inside : (s : Parameters) (b : ℕ) (after : Bool) (c : BlockData) (cs : List BlockData) → is_zero_block c ≡ true → (after && not (begins_segment s b)) ≡ true →
    data_sets s b after (c ∷ cs) ≡ data_sets s (b + 1) true cs
data_sets_inside s b after c cs e f = grind (arith, common_steps)

-- where there are no blocks, none is skipped,
pub skipped_nil : (s : Parameters) (b : ℕ) (after : Bool) → skipped s b after [] ≡ 0
skipped_nil s b after = grind (arith, common_steps, bool_cases)

-- nor is one before a block that is not zero
pub skipped_plain : (s : Parameters) (b : ℕ) (after : Bool) (c : BlockData) (cs : List BlockData) → 1 ≤ s.interval → is_zero_block c ≡ false → skipped s b after (c ∷ cs) ≡ 0
skipped_plain s b after c cs h z = grind (arith, common_steps, bool_cases)

-- a zero block inside a run is skipped, and so is what would be skipped after it
pub skipped_go : (s : Parameters) (b : ℕ) (after : Bool) (c : BlockData) (cs : List BlockData) → 1 ≤ s.interval → is_zero_block c ≡ true → (after && not (begins_segment s b)) ≡ true →
    skipped s b after (c ∷ cs) ≡ suc (skipped s (b + 1) true cs)
skipped_go s b after c cs h z e = ap (λ v. cond v (run_len s b (c ∷ cs)) 0) e ∙ run_cons s b c cs h z

-- none is skipped after a block that is not zero, or where a segment begins
pub skipped_stop : (s : Parameters) (b : ℕ) (after : Bool) (cs : List BlockData) → (after && not (begins_segment s b)) ≡ false → skipped s b after cs ≡ 0
skipped_stop s b after cs e = ap (λ v. cond v (run_len s b cs) 0) e

-- inside a segment no block has a reference
no_reference : (s : Parameters) (b : ℕ) → not (begins_segment s b) ≡ true → is_reference s b ≡ false
no_reference s b e = grind (arith, common_steps, bool_cases, reference_begins)

zeros_inside : (s : Parameters) (b : ℕ) (c : BlockData) → IsBlock s b c → is_zero_block c ≡ true → not (begins_segment s b) ≡ true → c ≡ zero_block s None
zeros_inside s b c h z e = zero_block_is s b c h z ∙ ap (λ r. zero_block s r) (is_some-false c.reference (h.reference.there ∙ no_reference s b e))

-- the blocks that are skipped are zeros without a reference
skipped_zeros : (s : Parameters) (b : ℕ) (cs : List BlockData) → 1 ≤ s.interval → AreBlocks s b cs → take (skipped s b true cs) cs ≡ replicate (skipped s b true cs) (zero_block s None)
skipped_zeros s b [] h k = ap (λ n. take n (let e : List BlockData = [] in e)) (skipped_nil s b true) ∙ sym (ap (λ n. replicate n (zero_block s None)) (skipped_nil s b true))
skipped_zeros s b (c ∷ cs) h k =
    let at = λ (n : ℕ) (e : skipped s b true (c ∷ cs) ≡ n) (f : take n (c ∷ cs) ≡ replicate n (zero_block s None)).
    ap (λ n. take n (c ∷ cs)) e ∙ (f ∙ sym (ap (λ n. replicate n (zero_block s None)) e)) in
    elim (bool_cases (not (begins_segment s b))) [
      | inr e ↦ at 0 (skipped_stop s b true (c ∷ cs) e) refl
      | inl e ↦ elim (bool_cases (is_zero_block c)) [
        | inr z ↦ at 0 (skipped_plain s b true c cs h z) refl
        | inl z ↦ at (suc (skipped s (b + 1) true cs)) (skipped_go s b true c cs h z e)
            (let p = zeros_inside s b c k.0 z e in let q = skipped_zeros s (b + 1) cs h k.1 in λ i. p i ∷ q i)
      ]
    ]

-- where all blocks are skipped, nothing more is sent
pub nothing_more : (s : Parameters) (b : ℕ) (cs : List BlockData) → 1 ≤ s.interval → skipped s b true cs ≡ length cs → data_sets s b true cs ≡ []
nothing_more s b [] h e = refl
nothing_more s b (c ∷ cs) h e =
    elim (bool_cases (not (begins_segment s b))) [
      | inr f ↦ absurd (let g = skipped_stop s b true (c ∷ cs) f in omega arith)
      | inl f ↦ elim (bool_cases (is_zero_block c)) [
        | inr z ↦ absurd (let g = skipped_plain s b true c cs h z in omega arith)
        | inl z ↦ data_sets_inside s b true c cs z f ∙ nothing_more s (b + 1) cs h (let g = skipped_go s b true c cs h z f in omega arith)
      ]
    ]

-- what a run is
pub zero_run_is : (s : Parameters) (b : ℕ) (r : Option ℕ) (cs : List BlockData) →
    (zero_run s b r cs ≡ ZeroBlocks r (run_len s b cs)) ⊎ ((zero_run s b r cs ≡ RemainderOfSegment r) × ((run_len s b cs ≡ blocks_left s b) ⊎ (run_len s b cs ≡ length cs)) × (5 ≤ run_len s b cs))
zero_run_is s b r cs = grind (arith, common_steps, nat_le, nat_tests, bool_cases, and-split, eqb-true)

-- what holds of all holds of the best
pub best_keeps : {A : Type 0} (P : A → Type 0) (beats : A → A → Bool) (a : A) (xs : List A) → P a → AllByRecursion P xs → P (best_of beats a xs)
best_keeps P beats a [] h k = h
best_keeps P beats a (x ∷ xs) h k = best_keeps P beats (cond (beats x a) x a) xs (elim (beats x a) as (λ v. P (cond v x a)) [ true ↦ k.0 | false ↦ h ]) k.1

-- the option that is chosen is one for that block
pub shortest_covers : (s : Parameters) (b : ℕ) (c : BlockData) → blocks_in s b (shortest s c) ≡ c ∷ []
shortest_covers s b c =
    best_keeps (λ d. blocks_in s b d ≡ c ∷ []) (λ x y. nat_lt (cost s x) (cost s y)) (NoCompression c) (other_options s c) refl (refl, splits (range_with_len 0 (k_max s + 1)))
  where
    splits : (ks : List ℕ) → AllByRecursion (λ d. blocks_in s b d ≡ c ∷ []) (map (λ k. Split k c) ks)
    splits [] = tt
    splits (k ∷ ks) = (refl, splits ks)

cons_covers : (s : Parameters) (b : ℕ) (d : CodedDataSet) (ds : List CodedDataSet) (xs : List BlockData) → blocks_in s b d ≡ xs → blocks_in_all s b (d ∷ ds) ≡ xs ++ blocks_in_all s (b + length xs) ds
cons_covers s b d ds xs e = ap (λ x. x ++ blocks_in_all s (b + length x) ds) e

-- a run has no more blocks than are left in its segment
pub run_inside : (s : Parameters) (b : ℕ) (cs : List BlockData) → run_len s b cs ≤ blocks_left s b
run_inside s b cs = omega (arith, prefix_len-le-length is_zero_block (take (blocks_left s b) cs), length-take (blocks_left s b) cs)

run_blocks : (s : Parameters) (r : Option ℕ) (z j : ℕ) → z ≡ suc j → zero_blocks s r z ≡ zero_block s r ∷ replicate j (zero_block s None)
run_blocks s r z j e = let n : z - 1 ≡ j = omega arith in ap (λ m. zero_block s r ∷ replicate m (zero_block s None)) n

-- the run that all remaining blocks make, filled up to its segment's end
run_fills : (s : Parameters) (r : Option ℕ) {j left : ℕ} {c : BlockData} (cs : List BlockData) → suc j ≤ left → j ≡ length cs →
    c ≡ zero_block s r → take j cs ≡ replicate j (zero_block s None) → zero_blocks s r left ++ [] ≡ (c ∷ cs) ++ replicate (left - suc j) (zero_block s None)
run_fills s r {j} {left} cs h n f g = grind (arith, common_steps, zero_block, take-length, append-nil, run_blocks, replicate-append-replicate)

-- a data set of a block of zeros and of k more, which are the next ones
record RunOfSet (s : Parameters) (b k : ℕ) (d : CodedDataSet) (c : BlockData) (cs : List BlockData) : Type 0 where
  blocks : blocks_in s (b + 0) d ≡ zero_block s c.reference ∷ replicate k (zero_block s None)
  first : c ≡ zero_block s c.reference
  zeros : take k cs ≡ replicate k (zero_block s None)

-- the blocks of a run that has z blocks, before what follows it
run_covers : (s : Parameters) (b k : ℕ) (d : CodedDataSet) (ds : List CodedDataSet) {c : BlockData} (cs tail : List BlockData) → RunOfSet s b k d c cs →
    blocks_in_all s (b + 1 + k) ds ≡ drop k cs ++ tail → blocks_in_all s (b + 0) (d ∷ ds) ≡ (c ∷ cs) ++ tail
run_covers s b k d ds {c} cs tail run ih =
    let zs = zero_block s c.reference ∷ replicate k (zero_block s None) in
    let n : b + 0 + length zs ≡ b + 1 + k = omega (arith, length-replicate k (zero_block s None)) in
    let front : zs ≡ c ∷ take k cs = λ i. sym run.first i ∷ sym run.zeros i in
    cons_covers s (b + 0) d ds zs run.blocks ∙ (ap (λ m. zs ++ blocks_in_all s m ds) n ∙ (ap (λ t. zs ++ t) ih ∙ (ap (λ v. v ++ (drop k cs ++ tail)) front
    ∙ (sym (append_assoc (c ∷ take k cs) (drop k cs) tail) ∙ ap (λ v. (c ∷ v) ++ tail) (take-append-drop k cs)))))

-- none of so many blocks from block b on begins a segment
abbrev pub GoOn : Parameters → ℕ → ℕ → Type 0
GoOn s b zero = Unit {0}
GoOn s b (suc n) = (begins_segment s b ≡ false) × GoOn s (b + 1) n

-- of the blocks that are left in a segment, none after the first begins a segment
pub segment_goes_on : (s : Parameters) (b n : ℕ) → 1 ≤ s.interval → suc n ≤ blocks_left s b → GoOn s (b + 1) n
segment_goes_on s b zero h le = tt
segment_goes_on s b (suc n) h le =
    elim (bool_cases (begins_segment s (b + 1))) [
      | inl e ↦ absurd (let one = last_of_segment s b h e in omega arith)
      | inr e ↦ let more = one_less_left s b h e in (e, segment_goes_on s (b + 1) n h (omega arith))
    ]

go_on_after : (s : Parameters) (b m n : ℕ) → GoOn s b (m + n) → GoOn s (b + m) n
go_on_after s b zero n h = grind (arith, common_steps)
go_on_after s b (suc m) n h =
    let P : ℕ → Type 0 = λ x. GoOn s x n in
    let Q : ℕ → Type 0 = λ x. GoOn s b x in
    let e : suc m + n ≡ suc (m + n) = omega arith in
    let f : b + 1 + m ≡ b + suc m = omega arith in
    let k : GoOn s b (suc (m + n)) = subst Q e h in
    subst P f (go_on_after s (b + 1) m n k.1)

-- there is a last block, and it is one of zeros
abbrev pub EndsInZeros : List BlockData → Type 0
EndsInZeros [] = ⊥
EndsInZeros (c ∷ []) = is_zero_block c ≡ true
EndsInZeros (c ∷ d ∷ cs) = EndsInZeros (d ∷ cs)

-- where all blocks are skipped, they are zeros
all_skipped : (s : Parameters) (b : ℕ) (c : BlockData) (cs : List BlockData) → 1 ≤ s.interval → is_zero_block c ≡ true → skipped s b true cs ≡ length cs → EndsInZeros (c ∷ cs)
all_skipped s b c [] h z e = z
all_skipped s b c (d ∷ cs) h z e =
    elim (bool_cases (not (begins_segment s b))) [
      | inr f ↦ absurd (let g = skipped_stop s b true (d ∷ cs) f in omega arith)
      | inl f ↦ elim (bool_cases (is_zero_block d)) [
        | inr y ↦ absurd (let g = skipped_plain s b true d cs h y in omega arith)
        | inl y ↦ all_skipped s (b + 1) d cs h y (let g = skipped_go s b true d cs h y f in omega arith)
      ]
    ]

-- The blocks of the coded data sets are the blocks, after those that are skipped, and perhaps zero blocks to the end of the segment of the last block, which is then one of zeros too.
pub record Covering (s : Parameters) (b : ℕ) (after : Bool) (cs : List BlockData) : Type 0 where
  pub fill : ℕ
  pub few : fill < 64
  pub inside : GoOn s (b + length cs) fill
  pub last : 1 ≤ fill → EndsInZeros cs
  pub blocks : blocks_in_all s (b + skipped s b after cs) (data_sets s b after cs) ≡ drop (skipped s b after cs) cs ++ replicate fill (zero_block s None)

-- one block more
covers_one_more : (s : Parameters) (b : ℕ) (after ahead : Bool) (c : BlockData) (cs : List BlockData) → (ih : Covering s (b + 1) ahead cs) →
    blocks_in_all s (b + skipped s b after (c ∷ cs)) (data_sets s b after (c ∷ cs)) ≡ drop (skipped s b after (c ∷ cs)) (c ∷ cs) ++ replicate ih.fill
    (zero_block s None) → Covering s b after (c ∷ cs)
covers_one_more s b after ahead c cs ih e = grind (arith, common_steps)

-- The coded data sets of any blocks cover these in this way.
pub covers_blocks : (s : Parameters) (b : ℕ) (after : Bool) (cs : List BlockData) → 1 ≤ s.interval → AreBlocks s b cs → Covering s b after cs
covers_blocks s b after [] h k = grind (arith, common_steps)
covers_blocks s b after (c ∷ cs) h k =
    let at = λ (n : ℕ) (ds : List CodedDataSet) (fill : ℕ) (e : skipped s b after (c ∷ cs) ≡ n) (f : data_sets s b after (c ∷ cs) ≡ ds)
    (g : blocks_in_all s (b + n) ds ≡ drop n (c ∷ cs) ++ replicate fill (zero_block s None)).
    (ap (λ m. blocks_in_all s (b + m) (data_sets s b after (c ∷ cs))) e ∙ (ap (λ v. blocks_in_all s (b + n) v) f ∙ (g ∙ sym (ap (λ m. drop m (c ∷ cs) ++ replicate fill (zero_block s None)) e)))) in
    elim (bool_cases (is_zero_block c)) [
      | inr z ↦
          let ih = covers_blocks s (b + 1) false cs h k.1 in
          let rest = data_sets s (b + 1) false cs in
          let n : b + 0 + 1 ≡ b + 1 + 0 = omega arith in
          covers_one_more s b after false c cs ih
          (at 0 (shortest s c ∷ rest) ih.fill (skipped_plain s b after c cs h z) (data_sets_plain s b after c cs z)
          (cons_covers s (b + 0) (shortest s c) rest (c ∷ []) (shortest_covers s (b + 0) c) ∙ (ap (λ m. c ∷ blocks_in_all s m rest) n ∙ ap (λ v. c ∷ v) ih.blocks)))
      | inl z ↦
          let ih = covers_blocks s (b + 1) true cs h k.1 in
          let j = skipped s (b + 1) true cs in
          let rest = data_sets s (b + 1) true cs in
          let zc = zero_block_is s b c k.0 z in
          let zcs = skipped_zeros s (b + 1) cs h k.1 in
          let len = run_cons s b c cs h z in
          elim (bool_cases (after && not (begins_segment s b))) [
            | inl go ↦
                let n : b + suc j ≡ b + 1 + j = omega arith in
                covers_one_more s b after true c cs ih (at (suc j) rest ih.fill (skipped_go s b after c cs h z go) (data_sets_inside s b after c cs z go)
                (ap (λ m. blocks_in_all s m rest) n ∙ ih.blocks))
            | inr stop ↦
                let start = λ (d : CodedDataSet) (e : zero_run s b c.reference (c ∷ cs) ≡ d) (fill : ℕ) (g : blocks_in_all s (b + 0) (d ∷ rest) ≡ (c ∷ cs) ++ replicate fill (zero_block s None)).
                at 0 (d ∷ rest) fill (skipped_stop s b after (c ∷ cs) stop) (data_sets_start s b after c cs z stop ∙ ap (λ v. v ∷ rest) e) g in
                elim (zero_run_is s b c.reference (c ∷ cs)) [
                  | inl e ↦ covers_one_more s b after true c cs ih
                      (start (ZeroBlocks c.reference (run_len s b (c ∷ cs))) e ih.fill
                      (run_covers s b j (ZeroBlocks c.reference (run_len s b (c ∷ cs))) rest cs (replicate ih.fill (zero_block s None))
                      (record { blocks = run_blocks s c.reference (run_len s b (c ∷ cs)) j len; first = zc; zeros = zcs }) ih.blocks))
                  | inr e ↦
                      let here : b + 0 ≡ b = omega arith in
                      let left = ap (λ i. blocks_left s i) here in
                      elim e.1 [
                        | inl full ↦ covers_one_more s b after true c cs ih
                            (start (RemainderOfSegment c.reference) e.0 ih.fill
                            (run_covers s b j (RemainderOfSegment c.reference) rest cs (replicate ih.fill (zero_block s None))
                            (record {
                              blocks = run_blocks s c.reference (blocks_left s (b + 0)) j (left ∙ (sym full ∙ len));
                              first = zc;
                              zeros = zcs;
                            }) ih.blocks))
                        | inr all ↦
                            let n : j ≡ length cs = omega arith in
                            let inside : suc j ≤ blocks_left s b = omega (arith, run_inside s b (c ∷ cs)) in
                            let over = nothing_more s (b + 1) cs h n in
                            let fill = blocks_left s b - suc j in
                            let after_all : b + 1 + j ≡ b + suc (length cs) = omega arith in
                            let P : ℕ → Type 0 = λ x. GoOn s x fill in
                            record {
                              fill = fill;
                              few = omega (arith, some_left s b h);
                              inside = subst P after_all (go_on_after s (b + 1) j fill (segment_goes_on s b (j + fill) h (omega arith)));
                              last = λ p. all_skipped s (b + 1) c cs h z n;
                              blocks = start (RemainderOfSegment c.reference) e.0 fill
                                  (ap (λ ds. blocks_in_all s (b + 0) (RemainderOfSegment c.reference ∷ ds)) over
                                  ∙ (ap (λ l. zero_blocks s c.reference l ++ []) left ∙ run_fills s c.reference cs inside n zc zcs));
                            }
                      ]
                ]
          ]
    ]
