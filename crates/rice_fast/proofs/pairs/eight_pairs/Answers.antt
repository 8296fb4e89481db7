use Rattle.rice_fast.proofs.Words.{◌≡◌, ◌+◌, ◌*◌, ◌/◌, ◌<◌, ◌∷◌, ◌++◌, ◌∙◌, [], ap, arith, length, length-set, set, sym, take, length-take-le, take_more, pair_codes, pair_codes-push}
use Rattle.rice_fast.proofs.Words.{two_more}
use Rattle.rice_fast.proofs.pairs.eight_pairs.Goals as goal

pub loop-i-preserved : goal.loop-i-preserved
loop-i-preserved c =
    let l = c.loop-i in
    let codes = c.args.codes in
    let a = c.pair_of-first.result.0 in
    let b = c.pair_of-first.result.1 in
    let front = take (l.i + l.i) l.numbers in
    let room : l.i < length l.numbers / 2 = omega (arith, c.loop-i-test.true, l.invariant.long) in
    let len : length front ≡ l.i + l.i = length-take-le (l.i + l.i) l.numbers (omega (arith, room)) in
    record {
      pairs = ap pair_codes (two_more l.i l.numbers a b room) ∙ (pair_codes-push l.i front a b len
          ∙ ((λ j. l.invariant.pairs j ++ c.pair_of-first.ensures j ∷ []) ∙ sym (take_more codes l.i 0 (omega (arith, c.loop-i-test.true, c.requires.lanes)))));
      long = length-set (set l.numbers (2 * l.i) a) (2 * l.i + 1) b ∙ (length-set l.numbers (2 * l.i) a ∙ l.invariant.long);
    }
