use Rattle.rice_fast.proofs.Words.{◌*◌, ◌≡◌, arith, length, take, length-take-le, word, length-word}
use Rattle.rice_fast.proofs.lemmas.{ahead.EndsAndGapsLemmas.few-ends, ahead.EndsInLanes.ones-of}
use Rattle.rice_fast.proofs.ahead.ends.count_ones_in_first_bytes.Goals as goal

pub returns-clause-value : goal.returns-clause-value
returns-clause-value c = ones-of c.args.front (8 * c.args.bytes) (omega (arith, c.requires)) c.ranges.front.fits

pub returns-clause-most : goal.returns-clause-most
returns-clause-most c =
    let n = 8 * c.args.bytes in
    let bits = take n (word 64 c.args.front) in
    let len : length bits ≡ n = length-take-le n (word 64 c.args.front) (omega (arith, c.requires, length-word 64 c.args.front)) in
    omega (arith, ones-of c.args.front n (omega (arith, c.requires)) c.ranges.front.fits, few-ends 0 bits, len)
