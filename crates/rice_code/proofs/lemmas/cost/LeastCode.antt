-- No coded data sets have fewer bits than those that are chosen.
use Rattle.std.proofs.Common.{◌≡◌, ℕ, suc, ◌+◌, ◌-◌, ◌≤◌, min, false, map, List, [], ◌∷◌, ◌++◌, length, refl, ap, arith, sym, ◌∙◌, inl, inr, subst, Option, None}
use Rattle.rice_code.proofs.Words.{range_with_len, length-map, length-replicate, get_or-map-range_with_len, length-range_with_len, Parameters, IsLegal, id_len, k_max, blocks_left, some_left}
use Rattle.rice_code.proofs.Words.{NoSetsAreShorter, BlockData, is_zero_block, zero_block, shortest, data_sets, CodedDataSet, NoCompression, SecondExtension, Split, ZeroBlocks, RemainderOfSegment}
use Rattle.rice_code.proofs.lemmas.cost.CostsOfSmallerBlocks.{BeginAtMost, IsAtMost, begin_with, no_compression_at_most, no_compression_exceeds, second_extension_at_most, second_extension_exceeds}
use Rattle.rice_code.proofs.Words.{bits_of_set, cost, reference_len, run_number, AreTaken, IsForm, blocks_in, blocks_in_all, zero_blocks, block_after, IsSoundBlock}
use Rattle.rice_code.proofs.lemmas.cost.WhereSetsEnd.{IsFill, code_end, never_back, sent_bits, taken_bits, taken_end, unfilled_is}
use Rattle.rice_code.proofs.lemmas.meaning.CoveredBlocks.{bool_cases, data_sets_plain, shortest_covers, zero_block_is}
use Rattle.rice_code.proofs.lemmas.cost.{CostsOfSmallerBlocks.sound_at_most, CostsOfSmallerBlocks.split_at_most, CostsOfSmallerBlocks.split_exceeds, BlockBounds.shortest_is_form}
use Rattle.rice_code.proofs.lemmas.cost.{CostIsLength.cost_is_length, CostIsLength.numbered_run_len, CostIsLength.remainder_len, LeastRuns.IsLeastCodeword, LeastRuns.by_run, LeastRuns.run_and_more}
use Rattle.rice_code.proofs.lemmas.cost.SplitSavings.{choice_is_least}

least_split : (s : Parameters) (c : BlockData) (k : ℕ) → k ≤ k_max s → cost s (shortest s c) ≤ cost s (Split k c)
least_split s c k le =
    let all = map (λ (k : ℕ). Split k c) (range_with_len 0 (k_max s + 1)) in
    let size : length all ≡ k_max s + 1 = length-map (range_with_len 0 (k_max s + 1)) (λ (k : ℕ). Split k c) ∙ length-range_with_len 0 (k_max s + 1) in
    let there = get_or-map-range_with_len (λ (k : ℕ). Split k c) 0 (k_max s + 1) k k (NoCompression c) (omega (arith, le)) (omega arith) in
    subst (λ (d : CodedDataSet). cost s (shortest s c) ≤ cost s d) there (choice_is_least s c (suc (suc k)) (NoCompression c) (omega (arith, size, le)))

four_residuals : (s : Parameters) (b : ℕ) (x : BlockData) → 4 ≤ s.block → IsSoundBlock s b x → 4 ≤ length x.residuals
four_residuals s b x size sound = omega (arith, sound.block.len, size)

-- What an option of a block costs, beside those of a block whose residuals are no greater.
record IsPaid (s : Parameters) (c x : BlockData) (d : CodedDataSet) : Type 0 where
  pub chosen : cost s (shortest s c) ≤ cost s d
  pub run : id_len s + 2 + reference_len s x.reference ≤ cost s d

-- a block, at most another one, is coded at no more than what the other's data set takes
record PaidBlock (s : Parameters) (b : ℕ) (c x : BlockData) (d : CodedDataSet) : Type 0 where
  below : IsAtMost c x
  sound : IsSoundBlock s b x
  form : IsForm s b d
  paid : IsPaid s c x d

-- one block by any option, and others after it
one_block : {s : Parameters} {fill : ℕ → ℕ → ℕ} {b end p q others : ℕ} {c x : BlockData} (cs : List BlockData) {d : CodedDataSet} →
    IsLegal s → IsFill s fill → PaidBlock s b c x d → end ≡ b + suc (length cs) → p ≤ q →
    ((position : ℕ) → position ≤ fill (b + 1) (q + length (bits_of_set s d)) → code_end s fill end (b + 1) position (data_sets s (b + 1) false cs) ≤ others) →
    code_end s fill end b p (data_sets s b false (c ∷ cs)) ≤ others
one_block {s} {fill} {b} {end} {p} {q} {others} {c} {x} cs {d} legal is paid_for e begins more =
    let j : 1 ≤ s.block = grind (arith, legal.block) in
    let text = cost_is_length s b d j paid_for.form in
    let same = sound_at_most s b c x paid_for.below paid_for.sound in
    elim (bool_cases (is_zero_block c)) [
      | inr plain ↦
          let rest = data_sets s (b + 1) false cs in
          let own = p + length (bits_of_set s (shortest s c)) in
          let next : block_after s b (shortest s c) ≡ b + 1 = ap (λ (l : List BlockData). b + length l) (shortest_covers s b c) in
          let last : min end (b + 1) ≡ b + 1 = omega (arith, e) in
          let sent = ap (λ l. code_end s fill end b p l) (data_sets_plain s b false c cs plain)
          ∙ (ap (λ n. code_end s fill end n (fill (min end n) own) rest) next ∙ ap (λ n. code_end s fill end (b + 1) (fill n own) rest) last) in
          let fewer : own ≤ q + length (bits_of_set s d) = omega (arith, cost_is_length s b (shortest s c) j (shortest_is_form s b c same), text, paid_for.paid.chosen, begins) in
          omega (arith, sent, more (fill (b + 1) own) (is.rises (b + 1) own (q + length (bits_of_set s d)) fewer))
      | inl z ↦
          let here : b + 1 + 0 ≡ b + 1 = omega arith in
          let fewer : q + (id_len s + 2 + reference_len s c.reference + 0) ≤ q + length (bits_of_set s d) = omega (arith, ap (reference_len s) paid_for.below.reference, text, paid_for.paid.run) in
          let after = subst (λ (n : ℕ). (position : ℕ) → position ≤ fill n (q + length (bits_of_set s d)) → code_end s fill end n position (data_sets s n false cs) ≤ others) (sym here) more in
          let run = run_and_more b 0 c.reference cs is (record {
            interval = legal.interval_from;
            inside = (some_left s b legal.interval_from).0;
            least = inl (omega arith);
          }) (omega (arith, e)) begins (λ position le. after position (omega (arith, le, is.rises (b + 1 + 0) _ _ fewer))) in
          omega (arith, ap (λ (c : BlockData). code_end s fill end b p (data_sets s b false (c ∷ cs))) (zero_block_is s b c same.block z), run)
    ]

-- a data set of n blocks of zeros, by its least codeword
record RunSet (s : Parameters) (b n number : ℕ) (r : Option ℕ) (d : CodedDataSet) : Type 0 where
  some : 1 ≤ n
  inside : n ≤ blocks_left s b
  least : IsLeastCodeword s b n number
  bits : length (bits_of_set s d) ≡ id_len s + 2 + reference_len s r + number
  blocks : blocks_in s b d ≡ zero_blocks s r n

-- what follows a data set ends no later than the others do
record OthersAfter (s : Parameters) (fill : ℕ → ℕ → ℕ) (b end q others : ℕ) (ys : List BlockData) (d : CodedDataSet) : Type 0 where
  ends : fill (block_after s b d) (q + length (bits_of_set s d)) ≤ others
  rest : ((rest : List BlockData) (position : ℕ) → BeginAtMost rest ys → end ≡ block_after s b d + length rest → position ≤ fill (block_after s b d) (q + length (bits_of_set s d))
      → code_end s fill end (block_after s b d) position (data_sets s (block_after s b d) false rest) ≤ others)

-- a run, and other coded data sets after it
by_set : {s : Parameters} {fill : ℕ → ℕ → ℕ} {b end p q n number others : ℕ} {r : Option ℕ} (cs : List BlockData) {ys : List BlockData} (d : CodedDataSet) →
    IsLegal s → IsFill s fill → RunSet s b n number r d →
    end ≡ b + length cs → p ≤ q → BeginAtMost cs (zero_blocks s r n ++ ys) → OthersAfter s fill b end q others ys d →
    code_end s fill end b p (data_sets s b false cs) ≤ others
by_set {s} {fill} {b} {end} {p} {q} {n} {number} {others} {r} cs {ys} d legal is run e begins below following =
    let next : block_after s b d ≡ b + 1 + (n - 1) = omega (arith, ap length run.blocks, length-replicate (n - 1) (zero_block s None)) in
    let count : n ≡ suc (n - 1) = omega (arith, run.some) in
    let theirs = id_len s + 2 + reference_len s r + number in
    let first = subst (λ (m : ℕ). fill m (q + theirs) ≤ others) next (subst (λ (m : ℕ). fill (block_after s b d) (q + m) ≤ others) run.bits following.ends) in
    let after = subst (λ (m : ℕ). (rest : List BlockData) (position : ℕ) → BeginAtMost rest ys → end ≡ m + length rest → position ≤ fill m (q + theirs)
    → code_end s fill end m position (data_sets s m false rest) ≤ others) next
    (subst (λ (t : ℕ). (rest : List BlockData) (position : ℕ) → BeginAtMost rest ys → end ≡ block_after s b d + length rest
    → position ≤ fill (block_after s b d) (q + t) → code_end s fill end (block_after s b d) position (data_sets s (block_after s b d) false rest) ≤ others) run.bits following.rest) in
    by_run r cs ys is (record {
      interval = legal.interval_from;
      inside = omega (arith, run.some, run.inside);
      least = subst (λ (m : ℕ). IsLeastCodeword s b m number) count run.least;
    }) e begins below (record { ends = first; rest = after })

-- legal parameters of blocks of four samples or more, and a fill
pub record FillsBlocks (s : Parameters) (fill : ℕ → ℕ → ℕ) : Type 0 where
  pub legal : IsLegal s
  pub block : 4 ≤ s.block
  pub fill_is : IsFill s fill

-- The coder's code of blocks ends no later than coded data sets that begin no earlier, and stand for blocks of which none is smaller, and perhaps for more.
pub ends_no_later : {s : Parameters} {fill : ℕ → ℕ → ℕ} → FillsBlocks s fill
    → (b : ℕ) {end p q : ℕ} (cs : List BlockData) (ds : List CodedDataSet) → end ≡ b + length cs → p ≤ q → AreTaken s None b ds → BeginAtMost cs (blocks_in_all s b ds) →
    code_end s fill end b p (data_sets s b false cs) ≤ taken_end s fill b q ds
ends_no_later {s} {fill} fills b {q} [] ds e begins taken below = omega (arith, begins, never_back s fill b q ds fills.fill_is)
ends_no_later fills b (c ∷ cs) [] e begins taken below = absurd below
ends_no_later {s} {fill} fills b {end} {p} {q} (c ∷ cs) (NoCompression x ∷ ds) e begins taken below =
    let form = taken.1 in
    let sound : IsSoundBlock s b x = record { block = form.0; at_reference = form.1; fit = form.2 } in
    let paid : IsPaid s c x (NoCompression x) = record {
      chosen = omega (arith, choice_is_least s c 0 (NoCompression c) (omega arith), no_compression_at_most s c x below.0);
      run = no_compression_exceeds s x (four_residuals s b x fills.block sound) fills.legal.bits_from;
    } in
    one_block cs fills.legal fills.fill_is (record { below = below.0; sound = sound; form = form; paid = paid }) e begins
    (λ position le. ends_no_later fills (b + 1) cs ds (omega (arith, e)) le taken.4 below.1)
ends_no_later {s} {fill} fills b {end} {p} {q} (c ∷ cs) (SecondExtension x ∷ ds) e begins taken below =
    let form = taken.1 in
    let sound : IsSoundBlock s b x = record { block = form; at_reference = taken.3.0; fit = taken.3.1 } in
    let paid : IsPaid s c x (SecondExtension x) = record {
      chosen = omega (arith, choice_is_least s c 1 (NoCompression c) (omega arith), second_extension_at_most s c x below.0);
      run = second_extension_exceeds s x (four_residuals s b x fills.block sound);
    } in
    one_block cs fills.legal fills.fill_is (record { below = below.0; sound = sound; form = form; paid = paid }) e begins
    (λ position le. ends_no_later fills (b + 1) cs ds (omega (arith, e)) le taken.4 below.1)
ends_no_later {s} {fill} fills b {end} {p} {q} (c ∷ cs) (Split k x ∷ ds) e begins taken below =
    let form = taken.1 in
    let sound : IsSoundBlock s b x = record { block = form.0; at_reference = form.1; fit = taken.3 } in
    let paid : IsPaid s c x (Split k x) = record {
      chosen = omega (arith, least_split s c k form.2, split_at_most s k c x below.0);
      run = split_exceeds s k x (four_residuals s b x fills.block sound);
    } in
    one_block cs fills.legal fills.fill_is (record { below = below.0; sound = sound; form = form; paid = paid }) e begins
    (λ position le. ends_no_later fills (b + 1) cs ds (omega (arith, e)) le taken.4 below.1)
ends_no_later {s} {fill} fills b {end} {p} {q} (c ∷ cs) (ZeroBlocks r n ∷ ds) e begins taken below =
    let d = ZeroBlocks r n in
    let next = block_after s b d in
    let bits = fill next (q + length (bits_of_set s d)) in
    by_set {number = run_number n} (c ∷ cs) d fills.legal fills.fill_is (record {
      some = taken.1.1;
      inside = taken.2.0;
      least = inl (omega arith);
      bits = omega (arith, numbered_run_len s r n);
      blocks = refl;
    }) e begins below (record {
      ends = never_back s fill next bits ds fills.fill_is;
      rest = λ rest position under len le. ends_no_later fills next rest ds len le taken.4 under;
    })
ends_no_later {s} {fill} fills b {end} {p} {q} (c ∷ cs) (RemainderOfSegment r ∷ ds) e begins taken below =
    let d = RemainderOfSegment r in
    let next = block_after s b d in
    let bits = fill next (q + length (bits_of_set s d)) in
    by_set {number = 4} (c ∷ cs) d fills.legal fills.fill_is (record {
      some = (some_left s b fills.legal.interval_from).0;
      inside = omega arith;
      least = inr (omega arith, refl);
      bits = omega (arith, remainder_len s r);
      blocks = refl;
    }) e begins below (record {
      ends = never_back s fill next bits ds fills.fill_is;
      rest = λ rest position under len le. ends_no_later fills next rest ds len le taken.4 under;
    })

-- Where blocks have four samples or more, no sound coded data sets have fewer bits than the coder's for the first of the blocks that they stand for.
pub no_sets_are_shorter : NoSetsAreShorter
no_sets_are_shorter s legal size b cs more ds taken e =
    omega (
      arith,
      ends_no_later (record { legal = legal; block = size; fill_is = unfilled_is s }) b {end = b + length cs} {p = 0} {q = 0} cs ds refl (omega arith) taken
          (subst (BeginAtMost cs) (sym e) (begin_with cs more)),
      sent_bits s (b + length cs) b 0 (data_sets s b false cs),
      taken_bits s b 0 ds,
    )
