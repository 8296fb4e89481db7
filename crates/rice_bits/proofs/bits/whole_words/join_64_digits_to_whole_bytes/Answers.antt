use Rattle.std.proofs.Common.{◌++◌, drop, take, ◌≡◌, ◌+◌, ◌/◌, ◌<◌, ◌∙◌, ap, arith, length, rules}
use Rattle.std.{proofs.lemmas.Grind.common_steps, specs.List.slice_index}
use Rattle.rice_bits.proofs.lemmas.bits.{EightBytes.eight-swapped, WholeWords.whole-put}
use Rattle.rice_bits.proofs.bits.whole_words.join_64_digits_to_whole_bytes.Goals as goal

pub returns-clause-joins : goal.returns-clause-joins
returns-clause-joins c =
    let byte : slice_index c.args.bytes.now (c.args.bits / 8) < 256 = search rules in
    let put = whole-put c.args.bytes.now c.args.bits c.args.digits c.requires.whole c.requires.room c.ranges.digits.fits byte c.requires.bits.zeros
    (c.store_least_byte_first.ensures ∙ ap (λ eight. take (c.args.bits / 8) c.args.bytes.now ++ (eight ++ drop (c.args.bits / 8 + 8) c.args.bytes.now))
    (eight-swapped c.args.digits c.swap_bytes.result c.swap_bytes.ensures)) in
    let len : length c.store_least_byte_first.new.bytes ≡ length c.args.bytes.now = omega arith in
    grind (arith, common_steps)
