use Rattle.rice_fast.proofs.Words.{◌≡◌, ◌+◌, ◌≤◌, ◌∙◌, ap, arith, drop, nat_tests, subst, sym, take, length-take-le, id_len, HeadAhead}
use Rattle.rice_fast.proofs.lemmas.BlocksAhead.{pairs_block_ahead}
use Rattle.rice_fast.proofs.fields.pair_fields_ahead.Goals as goal

pub returns : goal.returns
returns g c =
    let a = c.args in
    let s = a.setting.now in
    let w = a.ahead.now in
    let head = c.head_ahead-head in
    let pairs = c.in_ok-pairs in
    let highs = pairs.pairs.numbers in
    let legal = c.block-block.ensures.legal.block in
    let id : id_len s ≡ g.L.SampleLanes.ID_LEN = g.met.L.SampleLanes.id_is s c.requires.block.bits in
    let id_few : id_len s ≤ 5 = grind (arith, nat_tests) in
    let begin = subst (λ n. HeadAhead w s a.block a.before n head.result.from head.result.omitted head.result.words) (ap (λ n. n + 1) (c.ID_LEN-2.ensures ∙ sym id)) head.ensures in
    let bit = c.number_ahead-bit.ensures.bits ∙ ap (λ n. take 1 (drop n w)) (c.ID_LEN.ensures ∙ sym id) in
    record {
      begins = head.ensures.begins;
      few = head.ensures.few;
      narrow = omega arith;
      whole = λ same. absurd (omega (arith, same, g.met.L.SampleLanes.splits s c.requires.block.bits.most));
      places = pairs.pairs.places;
      short = omega (arith, pairs.ensures.short, head.ensures.short, c.block-block.ensures.legal.bits_to, id_few, id);
      block = λ lows levels len ahead near within. pairs_block_ahead c.requires.id c.number_ahead-bit.ensures.below (omega (arith, c.if-bit-eq0.false)) bit begin pairs.ensures.some (record {
        some = omega (arith, legal, c.requires.block.size);
        size_is = c.requires.block.size;
        bits = omega (arith, c.requires.block.bits.more);
        highs_are = length-take-le a.size highs (omega (arith, pairs.pairs.places, legal, c.requires.block.size));
        lows_are = len;
        ahead = ahead;
        near = near;
        within = within;
      });
    }
