use Rattle.rice_fast.proofs.Words.{◌≡◌, ◌≤◌, ◌<◌, ◌^◌, ◌*◌, ◌∙◌, ℕ, List, length, ap, arith, get_or, map-id, subst, sym, take_all, digits_l, number_l}
use Rattle.rice_fast.proofs.lemmas.{vectors.LevelsSpelledInByteLanes.one_byte, vectors.HalfLanes.two_bytes, vectors.LevelsInLanes.single_bytes, vectors.LevelsInLanes.words_of_lanes}
use Rattle.rice_fast.proofs.vectors.level_lanes.HalvesLevelLanes.levels_in.Goals as goal

pub returns-then-bits-le8 : goal.returns-then-bits-le8
returns-then-bits-le8 c =
    let s = c.args.setting.now in
    let few : s.bits ≤ 8 = omega (arith, c.bits.ensures.value) in
    let len : length c.args.bytes.now ≡ 8 = c.requires.len ∙ ap (λ w. w * 8) (one_byte s few) in
    let all = c.of-words.ensures ∙ (map-id _ ∙ take_all 8 c.args.bytes.now (omega (arith, len))) in
    sym (c.levels_of_words.ensures ∙ (single_bytes s.msb c.of-words.result.lanes (λ i. subst (λ (xs : List ℕ). get_or xs i 0 < 2 ^ 8) (sym all) (c.type_inv.bytes i).fits) ∙ all))

pub returns : goal.returns
returns c =
    let s = c.args.setting.now in
    let more : 8 < s.bits = omega (arith, c.bits.ensures.value) in
    let len : length c.args.bytes.now ≡ 16 = c.requires.len ∙ ap (λ w. w * 8) (two_bytes s more c.requires.bits.most) in
    sym (c.levels_of_words-2.ensures ∙ words_of_lanes s.msb c.msb.result 2 8 16 c.args.bytes.now c.of.result.lanes c.msb.ensures len len
    (λ i. (c.type_inv.bytes i).fits)
    (c.of.ensures ∙ ap (λ xs. digits_l 65536 8 (number_l 256 xs)) c.byte_pairs-pairs.ensures))
