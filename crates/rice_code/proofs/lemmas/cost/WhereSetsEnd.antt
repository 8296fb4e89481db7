-- Where coded data sets end that begin after so many bits, with padding and without.
use Rattle.std.proofs.Common.{◌≡◌, ℕ, ◌+◌, ◌<◌, ◌≤◌, min, Bool, true, false, cond, List, [], ◌∷◌, ◌++◌, length, replicate, refl, ap, arith, length-append}
use Rattle.rice_code.proofs.Words.{length-replicate, sum_by-cons, bits_to_byte, Parameters, blocks_left, is_padded, CodedDataSet, bits_of_set, block_after, layout, padding, Lies, common_steps}
use Rattle.rice_code.proofs.lemmas.{code.Layouts.sent_first, code.SegmentPlaces.none_padded, cost.BlockBounds.text_bits}

-- What bits become before block `next`, with what fills them up: no fewer, and no fewer for more bits, and inside a segment nothing is filled.
pub record IsFill (s : Parameters) (fill : ℕ → ℕ → ℕ) : Type 0 where
  pub more : (next bits : ℕ) → bits ≤ fill next bits
  pub rises : (next m n : ℕ) → m ≤ n → fill next m ≤ fill next n
  pub inside : (b k bits : ℕ) → 1 ≤ k → k < blocks_left s b → fill (b + k) bits ≡ bits

-- nothing is filled,
abbrev pub unfilled : ℕ → ℕ → ℕ
unfilled next bits = bits

-- which keeps the three laws of a fill,
pub unfilled_is : (s : Parameters) → IsFill s unfilled
unfilled_is s = record { more = λ next bits. omega arith; rises = λ next m n le. le; inside = λ b k bits some lt. refl }

-- or intervals are padded
abbrev pub padded : Parameters → ℕ → ℕ → ℕ
padded s next bits = bits + padding s next bits

-- which keeps them too, where an interval has at least one block
pub padded_is : (s : Parameters) → 1 ≤ s.interval → IsFill s (padded s)
padded_is s h = grind (arith, common_steps, none_padded)

-- where coded data sets end as they are sent, if their blocks end before block `end`,
abbrev pub code_end : Parameters → (ℕ → ℕ → ℕ) → ℕ → ℕ → ℕ → List CodedDataSet → ℕ
code_end s fill end b position [] = position
code_end s fill end b position (d ∷ ds) = code_end s fill end (block_after s b d) (fill (min end (block_after s b d)) (position + length (bits_of_set s d))) ds

-- and as they are taken
abbrev pub taken_end : Parameters → (ℕ → ℕ → ℕ) → ℕ → ℕ → List CodedDataSet → ℕ
taken_end s fill b position [] = position
taken_end s fill b position (d ∷ ds) = taken_end s fill (block_after s b d) (fill (block_after s b d) (position + length (bits_of_set s d))) ds

-- what begins no later ends no later
pub ends_later : (s : Parameters) (fill : ℕ → ℕ → ℕ) (end b m n : ℕ) (ds : List CodedDataSet) → IsFill s fill → m ≤ n → code_end s fill end b m ds ≤ code_end s fill end b n ds
ends_later s fill end b m n [] is le = le
ends_later s fill end b m n (d ∷ ds) is le = ends_later s fill end (block_after s b d) _ _ ds is
    (is.rises (min end (block_after s b d)) (m + length (bits_of_set s d)) (n + length (bits_of_set s d)) (omega (arith, le)))

-- coded data sets as they are taken end no earlier than they begin
pub never_back : (s : Parameters) (fill : ℕ → ℕ → ℕ) (b position : ℕ) (ds : List CodedDataSet) → IsFill s fill → position ≤ taken_end s fill b position ds
never_back s fill b position [] is = omega arith
never_back s fill b position (d ∷ ds) is =
    let next = block_after s b d in
    let bits = position + length (bits_of_set s d) in
    omega (arith, is.more next bits, never_back s fill next (fill next bits) ds is)

-- ---- without padding

-- without padding coded data sets as they are sent end as many bits later as their texts have,
pub sent_bits : (s : Parameters) (end b position : ℕ) (ds : List CodedDataSet) → code_end s unfilled end b position ds ≡ position + text_bits s ds
sent_bits s end b position [] = omega arith
sent_bits s end b position (d ∷ ds) = omega (arith, sent_bits s end (block_after s b d) (position + length (bits_of_set s d)) ds, sum_by-cons (λ (d : CodedDataSet). length (bits_of_set s d)) d ds)

-- and so they do as they are taken
pub taken_bits : (s : Parameters) (b position : ℕ) (ds : List CodedDataSet) → taken_end s unfilled b position ds ≡ position + text_bits s ds
taken_bits s b position [] = omega arith
taken_bits s b position (d ∷ ds) = omega (arith, taken_bits s (block_after s b d) (position + length (bits_of_set s d)) ds, sum_by-cons (λ (d : CodedDataSet). length (bits_of_set s d)) d ds)

-- ---- with padding

-- with padding coded data sets as they are sent end where their layout ends,
pub sent_padded : (s : Parameters) (end b position : ℕ) (ds : List CodedDataSet) → code_end s (padded s) end b position ds ≡ position + length (layout s end b position ds)
sent_padded s end b position [] = omega arith
sent_padded s end b position (d ∷ ds) =
    let next = block_after s b d in
    let text = bits_of_set s d in
    let count = padding s (min end next) (position + length text) in
    let first = sent_first s end b position d in
    let at : padded s (min end next) (position + length text) ≡ position + length first = omega (arith, length-append text (replicate count false), length-replicate count false) in
    omega (arith, ap (λ n. code_end s (padded s) end next n ds) at, sent_padded s end next (position + length first) ds, length-append first (layout s end next (position + length first) ds))

-- and as they are taken they end where the bits in which they lie end
pub taken_padded : (s : Parameters) (b position : ℕ) (ds : List CodedDataSet) (bits : List Bool) → Lies s b position ds bits → taken_end s (padded s) b position ds ≡ position + length bits
taken_padded s b position [] bits lie = omega (arith, ap length lie)
taken_padded s b position (d ∷ ds) bits lie =
    let next = block_after s b d in
    let text = bits_of_set s d in
    let size = length-append text lie.0 in
    let at : padded s next (position + length text) ≡ position + length (text ++ lie.0) = omega (arith, lie.2, size) in
    omega (
      arith,
      ap (λ n. taken_end s (padded s) next n ds) at,
      taken_padded s next (position + length (text ++ lie.0)) ds lie.1 lie.4,
      ap length lie.3,
      length-append text (lie.0 ++ lie.1),
      length-append lie.0 lie.1,
      size,
    )
