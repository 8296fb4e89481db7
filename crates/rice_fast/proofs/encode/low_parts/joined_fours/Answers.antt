use Rattle.rice_fast.proofs.Words.{◌^◌, ◌<◌, arith}
use Rattle.rice_fast.proofs.lemmas.{vectors.NumbersInLanes.each_of, encode.LowParts.four_joined}
use Rattle.rice_fast.proofs.encode.low_parts.joined_fours.Goals as goal

pub returns-clause-value : goal.returns-clause-value
returns-clause-value c = four_joined 64 c.args.width c.args.pairs c.requires.lanes (omega (arith, c.requires.width)) (each_of (λ v. v < 2 ^ c.args.width) c.args.pairs c.requires.fit)
