use Rattle.rice_fast.proofs.Words.{◌≡◌, ◌+◌, ◌-◌, ◌*◌, ◌++◌, ◌∙◌, ap, append-nil, append_assoc, arith, drop, length, map-id, replicate, sum, sum_l, sum_map, sym, take, take-add, take-take}
use Rattle.rice_fast.proofs.Words.{drop-append_seam, length-take-le, sum_by-append, pair_codes}
use Rattle.rice_fast.proofs.lemmas.{HighParts.first_of, Pairs.first_pairs, Pairs.pair_codes-append, Pairs.sum_of_first}
use Rattle.rice_fast.proofs.pairs.write_pairs.Goals as goal

pub loop-row-preserved : goal.loop-row-preserved
loop-row-preserved c =
    let l = c.loop-row in
    let codes = c.args.codes.now in
    let count = c.args.count in
    let row = c.in_ok-pairs.pairs.lanes in
    let front = take (16 * l.row) l.numbers in
    let n = c.min.result in
    let here : count - (count - 8 * l.row) ≡ 8 * l.row = omega (arith, c.loop-row-test.true) in
    let none : 8 * l.row - count ≡ 0 = omega (arith, c.loop-row-test.true) in
    let next : count - (count - 8 * (l.row + 1)) ≡ 8 * l.row + n = omega (arith, c.loop-row-test.true, c.min.ensures) in
    let left : 8 * (l.row + 1) - count ≡ 8 - n = omega (arith, c.loop-row-test.true, c.min.ensures) in
    let len : length front ≡ 8 * l.row + 8 * l.row = omega (arith, length-take-le (16 * l.row) l.numbers (omega (arith, c.loop-row-test.true, c.requires.few, l.invariant.long))) in
    let before : pair_codes front ≡ take (8 * l.row) codes = l.invariant.pairs ∙ ((λ j. take (here j) codes ++ replicate (none j) 0) ∙ append-nil (take (8 * l.row) codes)) in
    record {
      pairs = ap pair_codes c.store_row.ensures.value
          ∙ (pair_codes-append (8 * l.row) front row len
          ∙ ((λ j. before j ++ c.in_ok-pairs.ensures j)
          ∙ (sym (append_assoc (take (8 * l.row) codes) (take n (drop (8 * l.row) codes)) (replicate (8 - n) 0))
          ∙ (λ j. (sym (take-add (8 * l.row) n codes) ∙ ap (λ m. take m codes) (sym next)) j ++ replicate (sym left j) 0))));
      total = omega (arith, l.invariant.total, c.row_sum.ensures.value, ap sum_l (sym (map-id row)) ∙ sum_map (λ x. x) row, sum_by-append (λ x. x) front row, ap sum c.store_row.ensures.value);
      few = omega (arith, l.invariant.few, c.row_sum.ensures.limit);
      long = c.store_row.ensures.len ∙ l.invariant.long;
    }

pub returns-clause-pairs : goal.returns-clause-pairs
returns-clause-pairs c =
    let l = c.loop-row in
    let count = c.args.count in
    let whole : count - (count - 8 * l.row) ≡ count = omega (arith, c.loop-row-test.false) in
    let two : 2 * count ≡ count + count = omega arith in
    ap pair_codes (sym (take-take (2 * count) (16 * l.row) l.numbers (omega (arith, c.loop-row-test.false))) ∙ ap (λ n. take n (take (16 * l.row) l.numbers)) two)
    ∙ (first_pairs count (take (16 * l.row) l.numbers)
    ∙ first_of count (8 * l.row) c.args.codes.now (pair_codes (take (16 * l.row) l.numbers)) (omega (arith, c.requires.few, c.told-codes))
    (l.invariant.pairs ∙ ap (λ n. take n c.args.codes.now ++ replicate (8 * l.row - count) 0) whole))

pub returns-clause-sum : goal.returns-clause-sum
returns-clause-sum c =
    let l = c.loop-row in
    let count = c.args.count in
    let numbers = take (16 * l.row) l.numbers in
    let codes = take count c.args.codes.now in
    let zeros = replicate (8 * l.row - count) 0 in
    let whole : count - (count - 8 * l.row) ≡ count = omega (arith, c.loop-row-test.false) in
    let two : 2 * count ≡ count + count = omega arith in
    let many : length codes ≡ count = length-take-le count c.args.codes.now (omega (arith, c.requires.few, c.told-codes)) in
    let after : drop count (pair_codes numbers) ≡ zeros = ap (drop count) (l.invariant.pairs ∙ ap (λ n. take n c.args.codes.now ++ zeros) whole)
    ∙ (ap (λ n. drop n (codes ++ zeros)) (sym many) ∙ drop-append_seam codes zeros) in
    let len : length numbers ≡ 8 * l.row + 8 * l.row = omega (arith, length-take-le (16 * l.row) l.numbers (omega (arith, l.auto, c.requires.few, l.invariant.long))) in
    ap sum (sym (take-take (2 * count) (16 * l.row) l.numbers (omega (arith, c.loop-row-test.false))) ∙ ap (λ n. take n numbers) two)
    ∙ (sym (sum_of_first (8 * l.row) count numbers len after) ∙ sym l.invariant.total)
