use Rattle.rice_fast.proofs.Words.{◌≡◌, ◌*◌, ◌∙◌, ap, arith, length-set, drop, take, refl, replicate, sym, flat_map, drop-drop, take_all, word}
use Rattle.rice_fast.proofs.lemmas.WordsOneByOne.{no_words, one_more}
use Rattle.rice_fast.proofs.lanes.words.words_one_by_one.Goals as goal

pub loop-i-init : goal.loop-i-init
loop-i-init c = record { words = no_words (drop c.args.skip c.args.ahead.now) c.args.width (replicate 8 0); long = refl }

pub loop-i-preserved : goal.loop-i-preserved
loop-i-preserved c =
    let l = c.loop-i in
    let number = c.number_ahead in
    record {
      words = one_more l.words number.result (omega (arith, c.loop-i-test.true, l.invariant.long)) l.invariant.words number.ensures.below
          (number.ensures.bits ∙ ap (take c.args.width) (sym (drop-drop (l.i * c.args.width) c.args.skip c.args.ahead.now)));
      long = length-set l.words l.i number.result ∙ l.invariant.long;
    }

pub returns-clause-bits : goal.returns-clause-bits
returns-clause-bits c =
    let l = c.loop-i in
    let all : l.i ≡ 8 = omega (arith, c.loop-i-test.false, l.auto.i-end) in
    let whole : take l.i l.words ≡ l.words = take_all l.i l.words (omega (arith, all, l.invariant.long)) in
    ap (flat_map (word c.args.width)) (c.of.ensures ∙ sym whole)
    ∙ (l.invariant.words.spelled ∙ ap (λ n. take (n * c.args.width) (drop c.args.skip c.args.ahead.now)) all)
