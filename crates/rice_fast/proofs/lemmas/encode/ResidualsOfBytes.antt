-- Samples that are read from bytes, and their residuals.
use Rattle.rice_fast.proofs.Words.{◌≡◌, ℕ, ◌+◌, ◌-◌, ◌*◌, ◌<◌, ◌≤◌, true, List, [], ◌∷◌, ◌++◌, length, take, drop, get_or, ap, refl, sym, subst, arith, ◌∙◌, append-nil, length-append, ℤ, bit_or}
use Rattle.rice_fast.proofs.Words.{slice_range, Each1, put_chunk, zip2, mul-le-mul_left, take-add, get_or-replicate, map-append, take_all, Each1-get_or, Each1-weaker, take_more_put_chunk, Parameters}
use Rattle.rice_fast.proofs.Words.{value_at, value_count, values_at, width, last_number, last_of, rank_below, ranks_below, spellings, spellings-append, legal_values, ranks_of_values, value_at_last}
use Rattle.rice_fast.proofs.Words.{later_residuals, later_ranks, HasResidualsOf}
use Rattle.std.proofs.Common.{All}
use Rattle.std.specs.Prelude.{replicate}
use Rattle.rice_fast.proofs.lemmas.{vectors.NearLanes.parts_below, vectors.LevelsInLanes.Each1-append, vectors.RankedLanes.each_taken, vectors.RankedLanes.ranked_taken, vectors.LaneRanks.last_of_row}
use Rattle.rice_fast.proofs.lemmas.{vectors.LaneRanks.row_long, vectors.NearVectors.none_above, vectors.NumbersInLanes.each_of}

-- bytes of which each spells a sample at its level, with the residuals of these
pub residuals_spelled : (s : Parameters) (before last : ℕ) (bytes levels residuals : List ℕ) → All (λ l. l < value_count s) levels → bytes ≡ spellings s (values_at s levels)
    → residuals ≡ later_residuals s (value_at s before) (values_at s levels) → last < value_count s → value_at s last ≡ last_of (value_at s before) (values_at s levels)
    → HasResidualsOf s bytes before residuals last
residuals_spelled s before last bytes levels residuals legal spelled coded below last_is = record {
  samples = values_at s levels;
  reads = record { split = spelled ∙ sym (append-nil (spellings s (values_at s levels))); legal = legal_values s levels legal };
  below = below;
  residuals_are = coded;
  last_is = last_is;
}

-- the residuals of samples, and of others after the last of these
later-append : (s : Parameters) (p : ℤ) (xs ys : List ℤ) → later_residuals s p (xs ++ ys) ≡ later_residuals s p xs ++ later_residuals s (last_of p xs) ys
later-append s p [] ys = refl
later-append s p (x ∷ xs) ys = ap (λ v. (later_residuals s p (x ∷ []) ++ v)) (later-append s x xs ys)

-- what holds of each number of two lists holds of each number of one of them
Each1-split : (P : ℕ → Type 0) (xs ys : List ℕ) → Each1 P (xs ++ ys) → Each1 P xs × Each1 P ys
Each1-split P [] ys h = (tt, h)
Each1-split P (x ∷ xs) ys h = let rest = Each1-split P xs ys h.1 in ((h.0, rest.0), rest.1)

last_legal : (count p : ℕ) (xs : List ℕ) → p < count → Each1 (λ l. l < count) xs → last_number p xs < count
last_legal count p [] within legal = within
last_legal count p (x ∷ xs) within legal = last_legal count x xs legal.0 legal.1

-- a row of ranks from the level of the last sample before the row
pub row_ranked : (s : Parameters) (g n b : ℕ) (levels : List ℕ) {moved row : List ℕ} → s.preprocess ≡ true → g + 1 ≡ value_count s → length levels ≡ n → b < value_count s
    → Each1 (λ l. l < value_count s) levels → moved ≡ take n (b ∷ levels) → (Each1 (λ p. p ≤ g) moved → Each1 (λ x. x ≤ g) levels → row ≡ zip2 (rank_below (g + 1)) moved levels)
    → row ≡ later_residuals s (value_at s b) (values_at s levels)
row_ranked s g n b levels {moved} e above len within legal shifted ranking =
    let fit = Each1-weaker (λ l. l < value_count s) (λ l. l ≤ g) (λ l h. omega (arith, h, above)) levels legal in
    let before = subst (Each1 (λ p. p ≤ g)) (sym shifted) (each_taken g n (b ∷ levels) (omega (arith, within, above), fit)) in
    ranking before fit
    ∙ (ap (λ ms. zip2 (rank_below (g + 1)) ms levels) shifted
    ∙ (ranked_taken (g + 1) n b levels len
    ∙ (ap (λ count. ranks_below count b levels) above ∙ sym (later_ranks s (value_at s b) (values_at s levels) e ∙ ranks_of_values s b levels))))

-- What a loop that reads samples row by row has read: levels, of which the last row has the last, whose digits are seen, and whose residuals are written where all are legal.
pub record RowsRead (s : Parameters) (n before at : ℕ) (bytes earlier seen residuals : List ℕ) : Type 0 where
  pub levels : List ℕ
  pub number : length levels ≡ at
  pub spelled : take (width s * at) bytes ≡ spellings s (values_at s levels)
  pub last : get_or earlier (n - 1) 0 ≡ last_number before levels
  pub all_seen : (limit : ℕ) → Each1 (λ x. x ≤ limit) seen → Each1 (λ x. x ≤ limit) levels
  pub coded : Each1 (λ l. l < value_count s) levels → take at residuals ≡ later_residuals s (value_at s before) (values_at s levels)

-- no row yet
pub no_row : {s : Parameters} {n before : ℕ} (bytes residuals : List ℕ) {earlier seen : List ℕ} → 0 < n → earlier ≡ replicate n before → RowsRead s n before 0 bytes earlier seen residuals
no_row {s} {n} {before} bytes residuals some first = record {
  levels = [];
  number = refl;
  spelled = ap (λ m. take m bytes) (let none : width s * 0 ≡ 0 = omega arith in none);
  last = ap (λ xs. get_or xs (n - 1) 0) first ∙ get_or-replicate n (n - 1) before 0 (omega (arith, some));
  all_seen = λ limit h. tt;
  coded = λ legal. refl;
}

-- the bytes of one row more
pub bytes_of_row : (w at n count : ℕ) (bytes : List ℕ) → at + n ≤ count → length bytes ≡ w * count → length (slice_range bytes (w * at) (w * (at + n))) ≡ w * n
bytes_of_row w at n count bytes le len =
    let room : w * (at + n) ≤ w * count = mul-le-mul_left w le in
    row_long (w * n) (w * at) (w * (at + n)) bytes (omega arith) (omega (arith, room, len))

-- and these bytes, where the width and the number of lanes are those of the setting and of the lanes
pub row_bytes : (w at n : ℕ) {ws lanes : ℕ} (bytes : List ℕ) → w ≡ ws → lanes ≡ n → take (ws * n) (drop (ws * at) bytes) ≡ slice_range bytes (w * at) (w * (at + lanes))
row_bytes w at n {ws} {lanes} bytes is many =
    let e : w * n ≡ w * (at + n) - w * at = omega arith in
    (λ j. take (sym is j * n) (drop (sym is j * at) bytes)) ∙ (ap (λ k. take k (drop (w * at) bytes)) e ∙ ap (λ m. slice_range bytes (w * at) (w * (at + m))) (sym many))

-- a row that is read, of which the levels are known, and its residuals where all are legal
pub record Row (s : Parameters) (n at : ℕ) (bytes earlier seen row more residuals : List ℕ) : Type 0 where
  pub some : 0 < n
  pub many : length row ≡ n
  pub as_many : length seen ≡ n
  pub spelled : take (width s * n) (drop (width s * at) bytes) ≡ spellings s (values_at s row)
  pub more_seen : more ≡ zip2 bit_or seen row
  pub count : length residuals ≡ n
  pub coded : get_or earlier (n - 1) 0 < value_count s → Each1 (λ l. l < value_count s) row → residuals ≡ later_residuals s (value_at s (get_or earlier (n - 1) 0)) (values_at s row)

-- one row more
pub row_more : {s : Parameters} {n before at : ℕ} {bytes earlier seen row more : List ℕ} (written : List ℕ) {residuals after : List ℕ} → before < value_count s → at + n ≤ length written
    → RowsRead s n before at bytes earlier seen written → Row s n at bytes earlier seen row more residuals → after ≡ put_chunk at written residuals → RowsRead s n before (at + n) bytes row more after
row_more {s} {n} {before} {at} {bytes} {earlier} {seen} {row} {more} written {residuals} within room old new stored = record {
  levels = old.levels ++ row;
  number = length-append old.levels row ∙ omega (arith, old.number, new.many);
  spelled = ap (λ m. take m bytes) next ∙ (take-add (width s * at) (width s * n) bytes ∙ ((λ j. old.spelled j ++ new.spelled j) ∙ sym both));
  last = last_of_row (n - 1) before old.levels row (omega (arith, new.many, new.some));
  all_seen = λ limit h.
      let parts = parts_below limit seen row (new.as_many ∙ sym new.many) (subst (Each1 (λ x. x ≤ limit)) new.more_seen h) in
      Each1-append (λ x. x ≤ limit) old.levels row (old.all_seen limit parts.0) parts.1;
  coded = λ legal.
      let parts = Each1-split (λ l. l < value_count s) old.levels row legal in
      let lt : get_or earlier (n - 1) 0 < value_count s = rw old.last (last_legal (value_count s) before old.levels within parts.0) in
      let from = ap (value_at s) old.last ∙ value_at_last s before old.levels in
      ap (take (at + n)) stored ∙ (take_more_put_chunk at written residuals (at + n) (omega (arith, new.count)) room
      ∙ ((λ j. old.coded parts.0 j ++ (new.coded lt parts.1 ∙ ap (λ p. later_residuals s p (values_at s row)) from) j) ∙ sym joined));
}
  where
    next : width s * (at + n) ≡ width s * at + width s * n
    next = omega arith

    values : values_at s (old.levels ++ row) ≡ values_at s old.levels ++ values_at s row
    values = map-append (value_at s) old.levels row

    both : spellings s (values_at s (old.levels ++ row)) ≡ spellings s (values_at s old.levels) ++ spellings s (values_at s row)
    both = ap (spellings s) values ∙ spellings-append s (values_at s old.levels) (values_at s row)

    joined : later_residuals s (value_at s before) (values_at s (old.levels ++ row))
        ≡ later_residuals s (value_at s before) (values_at s old.levels) ++ later_residuals s (last_of (value_at s before) (values_at s old.levels)) (values_at s row)
    joined = ap (later_residuals s (value_at s before)) values ∙ later-append s (value_at s before) (values_at s old.levels) (values_at s row)

-- where no digit is seen above the greatest level, all samples are read with their residuals
pub rows_read : {s : Parameters} {n before at : ℕ} {bytes earlier seen residuals : List ℕ} (g last : ℕ) {first over : List ℕ} → before < value_count s → g + 1 ≡ value_count s
    → RowsRead s n before at bytes earlier seen residuals → length residuals ≤ at → length bytes ≡ width s * length residuals → length seen ≡ n
    → first ≡ replicate n g → over ≡ zip2 (λ a b. a - b) seen first → over ≡ replicate n 0 → last ≡ get_or earlier (n - 1) 0 → HasResidualsOf s bytes before residuals last
rows_read {s} {n} {before} {at} {bytes} {earlier} {seen} {residuals} g last {first} {over} within above rows whole len many firsts overs none last_is =
    residuals_spelled s before last bytes rows.levels residuals all spelled (sym (take_all at residuals whole) ∙ rows.coded each) below (ap (value_at s) end ∙ value_at_last s before rows.levels)
  where
    fit : Each1 (λ x. x ≤ g) rows.levels
    fit = rows.all_seen g (each_of (λ x. x ≤ g) seen (none_above n g seen over (overs ∙ ap (zip2 (λ a b. a - b) seen) firsts) many none))

    each : Each1 (λ l. l < value_count s) rows.levels
    each = Each1-weaker (λ l. l ≤ g) (λ l. l < value_count s) (λ l h. omega (arith, h, above)) rows.levels fit

    all : All (λ l. l < value_count s) rows.levels
    all = λ i d lt. Each1-get_or (λ l. l < value_count s) rows.levels i d lt each

    most : width s * length residuals ≤ width s * at
    most = mul-le-mul_left (width s) whole

    spelled : bytes ≡ spellings s (values_at s rows.levels)
    spelled = sym (take_all (width s * at) bytes (omega (arith, len, most))) ∙ rows.spelled

    end : last ≡ last_number before rows.levels
    end = last_is ∙ rows.last

    below : last < value_count s
    below = rw end (last_legal (value_count s) before rows.levels within each)
