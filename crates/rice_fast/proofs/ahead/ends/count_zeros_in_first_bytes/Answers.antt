use Rattle.std.proofs.Common.{◌*◌, arith}
use Rattle.rice_fast.proofs.lemmas.ahead.EndsInLanes.{zeros-of}
use Rattle.rice_fast.proofs.ahead.ends.count_zeros_in_first_bytes.Goals as goal

pub returns-clause-value : goal.returns-clause-value
returns-clause-value c = zeros-of c.args.front (8 * c.args.bytes) (omega (arith, c.requires)) c.ranges.front.fits

pub returns-clause-most : goal.returns-clause-most
returns-clause-most c = omega (arith, zeros-of c.args.front (8 * c.args.bytes) (omega (arith, c.requires)) c.ranges.front.fits)
