use Rattle.rice_fast.proofs.Words.{◌≡◌, ◌*◌, ◌%◌, ◌^◌, ◌<◌, arith, one_shl}
use Rattle.rice_fast.proofs.lemmas.{vectors.NumbersInLanes.each_of, encode.LowParts.eight_joined}
use Rattle.rice_fast.proofs.encode.low_parts.joined_pairs.Goals as goal

pub returns-clause-value : goal.returns-clause-value
returns-clause-value c =
    let factor : 1 * 2 ^ c.args.width % 4294967296 ≡ 2 ^ c.args.width = one_shl c.args.width 32 (omega (arith, c.requires.width)) in
    rw factor (eight_joined 64 c.args.width c.args.low c.requires.lanes (omega (arith, c.requires.width)) (each_of (λ v. v < 2 ^ c.args.width) c.args.low c.requires.fit))
