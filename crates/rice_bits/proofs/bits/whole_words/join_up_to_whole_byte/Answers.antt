use Rattle.std.proofs.Common.{◌≡◌, ◌+◌, ◌-◌, ◌/◌, ◌<◌, ◌%◌, arith, length, rules}
use Rattle.std.{proofs.lemmas.Grind.common_steps, specs.List.slice_index}
use Rattle.rice_bits.proofs.lemmas.bits.{WholeWords.first-put, WholeWords.first_below, WholeWords.front_fits, WholeWords.value_fits, SinkBytes.last_zeros}
use Rattle.rice_bits.proofs.bits.whole_words.join_up_to_whole_byte.Goals as goal

pub join-requires-clause-high : goal.join-requires-clause-high
join-requires-clause-high c = value_fits (c.args.bits % 8) c.args.count c.args.value (omega arith) c.requires.count.0 c.requires.count.1 c.requires.value

pub join-requires-clause-low : goal.join-requires-clause-low
join-requires-clause-low c = front_fits (c.args.bits % 8 + c.args.count) c.args.first c.ranges.first.fits (omega (arith, c.requires.count.1))

pub join_bytes-requires-clause-digits : goal.join_bytes-requires-clause-digits
join_bytes-requires-clause-digits c =
    let byte : slice_index c.args.bytes.now (c.args.bits / 8) < 256 = search rules in
    let zeros = last_zeros c.args.bytes.now c.args.bits c.requires.bits.room c.requires.bits.zeros in
    first_below c.args.value c.args.first byte zeros (omega arith) (record { some = c.requires.count.0; few = c.requires.count.1; fit = c.requires.value })
    c.ranges.first.fits c.join.ensures

pub returns-clause-joins : goal.returns-clause-joins
returns-clause-joins c =
    let put = first-put c.args.bytes.now c.args.bits c.args.first (record { some = c.requires.count.0; few = c.requires.count.1; fit = c.requires.value }) c.ranges.first.fits
    c.requires.room c.requires.bits.zeros c.join.ensures c.join_bytes.ensures in
    let len : length c.join_bytes.new.bytes ≡ length c.args.bytes.now = omega arith in
    let all : c.args.bits - c.args.bits % 8 + 64 ≡ c.args.bits + (64 - c.args.bits % 8) = omega arith in
    grind (arith, common_steps)
