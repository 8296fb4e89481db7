use Rattle.rice_fast.proofs.Words.{◌≡◌, ◌≤◌, ◌∙◌, arith, refl, replicate, subst, sym, nat_tests, length-take-le, id_len, AreFields, HeadAhead}
use Rattle.rice_fast.proofs.lemmas.BlocksAhead.{uncompressed_ahead}
use Rattle.rice_fast.proofs.fields.uncompressed_fields_ahead.Goals as goal

pub returns : goal.returns
returns g c =
    let a = c.args in
    let s = a.setting.now in
    let w = a.ahead.now in
    let head = c.head_ahead-head in
    let legal = c.block-block.ensures.legal.block in
    let bits = c.bits.ensures.value in
    let id : id_len s ≡ g.L.SampleLanes.ID_LEN = g.met.L.SampleLanes.id_is s c.requires.block.bits in
    let begin = subst (λ n. HeadAhead w s a.block a.before n head.result.from head.result.omitted head.result.words) (c.ID_LEN.ensures ∙ sym id) head.ensures in
    let id_few : id_len s ≤ 5 = grind (arith, nat_tests) in
    let most : a.size ≤ 64 = omega (arith, legal, c.requires.block.size) in
    subst (λ k. AreFields w s a.block a.before a.size g.L.Lanes.bits (replicate 80 0) (record {
      from = head.result.from;
      omitted = head.result.omitted;
      k = k;
      words = head.result.words;
      turns = 0;
    })) (sym bits) (record {
      begins = head.ensures.begins;
      few = head.ensures.few;
      narrow = c.requires.block.bits.most;
      whole = λ same. refl;
      places = refl;
      short = omega (arith, head.ensures.short, c.block-block.ensures.legal.bits_to, id_few);
      block = λ lows levels len ahead near within. uncompressed_ahead c.requires.id begin (record {
        some = omega (arith, legal, c.requires.block.size);
        size_is = c.requires.block.size;
        bits = omega (arith, c.requires.block.bits.more);
        highs_are = length-take-le a.size (replicate 80 0) (omega (arith, most));
        lows_are = len;
        ahead = ahead;
        near = near;
        within = within;
      }) most;
    })
