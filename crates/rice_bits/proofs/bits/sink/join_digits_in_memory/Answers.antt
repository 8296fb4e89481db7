use Rattle.std.proofs.Common.{◌≡◌, ◌+◌, ◌/◌, ◌<◌, ◌%◌, arith, length, rules}
use Rattle.std.{proofs.lemmas.Grind.common_steps, proofs.Math.Nat.pow-le-pow_right, specs.List.slice_index}
use Rattle.rice_bits.proofs.lemmas.bits.SinkBytes.{gathered-put, joined_below, last_zeros}
use Rattle.rice_bits.proofs.bits.sink.join_digits_in_memory.Goals as goal

pub digits_moved_to_front-requires-clause-value : goal.digits_moved_to_front-requires-clause-value
digits_moved_to_front-requires-clause-value c =
    omega (arith, c.requires.value, pow-le-pow_right {n = 2} (omega arith) {i = c.args.width} {j = c.args.bits % 8 + c.args.width} (omega arith))

pub join_bytes-requires-clause-digits : goal.join_bytes-requires-clause-digits
join_bytes-requires-clause-digits c =
    let byte : slice_index c.args.bytes.now (c.args.bits / 8) < 256 = search rules in
    let zeros = last_zeros c.args.bytes.now c.args.bits c.requires.bits.room c.requires.bits.zeros in
    rw c.digits_moved_to_front.ensures (joined_below _ (c.args.bits % 8) c.args.width c.args.value byte zeros (omega arith) (omega (arith, c.requires.width)) c.requires.value)

pub returns : goal.returns
returns c =
    let put = gathered-put c.args.bytes.now c.args.bits c.args.width c.args.value c.requires.room (omega (arith, c.requires.width)) c.requires.value c.requires.bits.zeros
    (rw c.digits_moved_to_front.ensures at c.join_bytes.ensures) in
    let len : length c.join_bytes.new.bytes ≡ length c.args.bytes.now = omega arith in
    grind (arith, common_steps)
