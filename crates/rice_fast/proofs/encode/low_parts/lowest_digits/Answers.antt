use Rattle.rice_fast.proofs.Words.{◌≡◌, ◌-◌, ◌*◌, ◌%◌, ◌^◌, ap, arith, ◌∙◌, bit_and, one_shl, zip2_splat, length-map}
use Rattle.rice_fast.proofs.lemmas.encode.LowParts.{masked}
use Rattle.rice_fast.proofs.encode.low_parts.lowest_digits.Goals as goal

pub returns-clause-value : goal.returns-clause-value
returns-clause-value c =
    let w = c.args.width in
    let mask : 1 * 2 ^ w % 4294967296 - 1 ≡ 2 ^ w - 1 = ap (λ p. p - 1) (one_shl w 32 (omega (arith, c.requires.width))) in
    rw mask (zip2_splat bit_and c.args.eight 8 (2 ^ w - 1) c.requires.lanes ∙ masked w c.args.eight)

pub returns-clause-len : goal.returns-clause-len
returns-clause-len c = rw (returns-clause-value c) (length-map c.args.eight (λ d. d % 2 ^ c.args.width) ∙ c.requires.lanes)
