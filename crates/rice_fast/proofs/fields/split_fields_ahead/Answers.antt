use Rattle.rice_fast.proofs.Words.{◌≡◌, ◌^◌, ◌≤◌, ◌∙◌, ap, arith, nat_tests, subst, sym, length-take-le, id_len, k_max, HeadAhead}
use Rattle.rice_fast.proofs.lemmas.BlocksAhead.{split_ahead}
use Rattle.rice_fast.proofs.fields.split_fields_ahead.Goals as goal

pub returns : goal.returns
returns g c =
    let a = c.args in
    let s = a.setting.now in
    let w = a.ahead.now in
    let head = c.head_ahead-head in
    let high = c.in_ok-len in
    let highs = c.high_parts_ahead.new.highs in
    let id : id_len s ≡ g.L.SampleLanes.ID_LEN = g.met.L.SampleLanes.id_is s c.requires.block.bits in
    let begin = subst (λ n. HeadAhead w s a.block a.before n head.result.from head.result.omitted head.result.words) (c.ID_LEN.ensures ∙ sym id) head.ensures in
    let id_few : id_len s ≤ 5 = grind (arith, nat_tests) in
    let ids : 2 ^ id_len s ≡ 2 ^ g.L.SampleLanes.ID_LEN = ap (λ n. 2 ^ n) id in
    let small : a.k ≤ k_max s = omega (arith, ids, c.requires.split) in
    let fits = g.met.L.SampleLanes.splits s c.requires.block.bits.most in
    record {
      begins = head.ensures.begins;
      few = head.ensures.few;
      narrow = omega (arith, small, fits);
      whole = λ same. absurd (omega (arith, small, fits, same));
      places = c.high_parts_ahead.array_long;
      short = omega (arith, high.ensures.short, head.ensures.short, c.block-block.ensures.legal.bits_to, id_few, id);
      block = λ lows levels len ahead near within. split_ahead small c.requires.id begin high.ensures.some (record {
        some = omega (arith, c.block-block.ensures.legal.block.0, c.requires.block.size);
        size_is = c.requires.block.size;
        bits = omega (arith, c.requires.block.bits.more);
        highs_are = length-take-le a.size highs (omega (arith, c.high_parts_ahead.array_long, c.block-block.ensures.legal.block, c.requires.block.size));
        lows_are = len;
        ahead = ahead;
        near = near;
        within = within;
      });
    }
