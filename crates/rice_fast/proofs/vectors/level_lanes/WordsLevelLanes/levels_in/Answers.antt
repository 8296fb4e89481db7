use Rattle.rice_fast.proofs.Words.{◌≡◌, ◌*◌, ◌∙◌, ap, arith, drop, length, length-drop, length-take-le, sym, digits_l, number_l, width}
use Rattle.rice_fast.proofs.lemmas.{LaneLaws.four_bytes, vectors.LevelsInLanes.words_of_lanes, vectors.LevelsInLanes.halves_fit, vectors.LevelsInLanes.halves_read}
use Rattle.rice_fast.proofs.vectors.level_lanes.WordsLevelLanes.levels_in.Goals as goal

pub last_threes-high-requires : goal.last_threes-high-requires
last_threes-high-requires c =
    let three : width c.args.setting.now ≡ 3 = sym c.width.ensures.value ∙ c.if-width-eq3.true in
    let len : length c.args.bytes.now ≡ 24 = c.requires.len ∙ ap (λ w. w * 8) three in
    length-take-le 16 (drop 8 c.args.bytes.now) (omega (arith, len, length-drop 8 c.args.bytes.now))

pub levels_of_words-requires : goal.levels_of_words-requires
levels_of_words-requires c =
    let three : width c.args.setting.now ≡ 3 = sym c.width.ensures.value ∙ c.if-width-eq3.true in
    record {
      width = sym three;
      room = omega arith;
      fit = halves_fit (record {
        order = c.msb-msb.ensures;
        len = c.requires.len ∙ ap (λ w. w * 8) three;
        fit = λ i. (c.type_inv.bytes i).fits;
        low_is = c.first_threes-low.ensures;
        high_is = c.last_threes-high.ensures;
        words_are = c.of-words.ensures;
      });
    }

pub returns-then-width-eq3 : goal.returns-then-width-eq3
returns-then-width-eq3 c =
    let three : width c.args.setting.now ≡ 3 = sym c.width.ensures.value ∙ c.if-width-eq3.true in
    sym (c.levels_of_words.ensures ∙ halves_read (record {
      order = c.msb-msb.ensures;
      len = c.requires.len ∙ ap (λ w. w * 8) three;
      fit = λ i. (c.type_inv.bytes i).fits;
      low_is = c.first_threes-low.ensures;
      high_is = c.last_threes-high.ensures;
      words_are = c.of-words.ensures;
    }))

pub byte_fours-fours-requires : goal.byte_fours-fours-requires
byte_fours-fours-requires c =
    let four = four_bytes c.args.setting.now c.requires.bits (λ three. c.if-width-eq3.false (c.width.ensures.value ∙ three)) in
    length-take-le 32 c.args.bytes.now (omega (arith, c.requires.len ∙ ap (λ w. w * 8) four))

pub returns : goal.returns
returns c =
    let s = c.args.setting.now in
    let four : width s ≡ 4 = four_bytes s c.requires.bits (λ three. c.if-width-eq3.false (c.width.ensures.value ∙ three)) in
    let len : length c.args.bytes.now ≡ 32 = c.requires.len ∙ ap (λ w. w * 8) four in
    sym (c.levels_of_words-2.ensures ∙ words_of_lanes s.msb c.msb.result 4 8 32 c.args.bytes.now c.of.result.lanes c.msb.ensures len len
    (λ i. (c.type_inv.bytes i).fits)
    (c.of.ensures ∙ ap (λ xs. digits_l 4294967296 8 (number_l 256 xs)) c.byte_fours-fours.ensures))
